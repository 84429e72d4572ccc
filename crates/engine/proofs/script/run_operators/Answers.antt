-- `engine::script::run_operators` turns as `repeat` does: what is left to run, from what is reached, is always the whole.
use native.Mathlib.Omega.{arith}
use borrow.Author.Rules.{rules}
use Rattle.rules.specs.Lending.{lent_by}
use Rattle.engine.proofs.Runs.{run_more, run_stops, run_ends}
use Rattle.engine.proofs.script.run_operators.Goals as goal

pub returns-in-Err-clause-does : goal.returns-in-Err-clause-does
returns-in-Err-clause-does c =
    let a = c.args in
    run_stops a.s.now a.n (lent_by a.p.now) c.loop-ran.invariant.0 (omega arith) c.in-Err.ensures.does

pub loop-ran-preserved : goal.loop-ran-preserved
loop-ran-preserved c =
    let a = c.args in
    (run_more a.s.now a.n (lent_by a.p.now) c.loop-ran.invariant.0 (omega arith) c.in-Ok.ensures.does, search rules)

pub returns-clause-does : goal.returns-clause-does
returns-clause-does c =
    let a = c.args in
    run_ends a.s.now a.n (lent_by a.p.now) c.loop-ran.invariant.0 (omega arith)
