-- `printing::run::run_input` meets its contract: a refused mesh ends it, and one that was taken has its script run, after which the pattern is good.
use mathlib.Core.Path.{refl}
use native.Mathlib.Omega.{arith}
use mir.Syntax.{w16}
use borrow.Author.Rules.{part_to_end}
use Rattle.maths.proofs.Sizes.{back}
use Rattle.rules.proofs.Branches.Refused.{not_accepted, handed_on}
use Rattle.printing.proofs.Running.{stop_not_0, mesh-refused, mesh-taken, number-taken, script-ran}
use Rattle.printing.proofs.run.run_input.Goals as goal

pub returns-in_err-used-clause-does : goal.returns-in_err-used-clause-does
returns-in_err-used-clause-does c =
    rw (handed_on c.from_residual.ensures) (mesh-refused c.args.s.now _ c.requires c.in_err-used.ensures.does (stop_not_0 _))

pub slice_bounds-run_script-count : goal.slice_bounds-run_script-count
slice_bounds-run_script-count c = omega (arith, (mesh-taken c.args.s.now _ c.requires c.in_ok-used.ensures.does refl).inside)

pub slice_bounds-run_script-start : goal.slice_bounds-run_script-start
slice_bounds-run_script-start c = omega (arith, (mesh-taken c.args.s.now _ c.requires c.in_ok-used.ensures.does refl).inside)

pub returns-in_err-euler-clause-does : goal.returns-in_err-euler-clause-does
returns-in_err-euler-clause-does c =
    let T = mesh-taken c.args.s.now _ c.requires c.in_ok-used.ensures.does refl in
    absurd (not_accepted _ (number-taken T (rw (part_to_end c.args.s.now c.in_ok-used.used) at c.run_script-script.ensures.does) (rw c.view.ensures at c.in_err-euler.ensures)))

pub returns-clause-does : goal.returns-clause-does
returns-clause-does c =
    let T = mesh-taken c.args.s.now _ c.requires c.in_ok-used.ensures.does refl in
    let run = rw (part_to_end c.args.s.now c.in_ok-used.used) at c.run_script-script.ensures.does in
    rw (back w16 {z = c.in_ok-euler.euler} (omega (arith, rw c.in_ok-euler.is at c.branch-euler.type_inv))) (script-ran T run (rw c.view.ensures at c.in_ok-euler.ensures))
