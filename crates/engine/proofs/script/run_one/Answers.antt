-- `engine::script::run_one` meets its contract: the bytes are not in form, or the operator is applied.
use mathlib.Core.Path.{sym}
use Rattle.rules.specs.Lending.{lent_by}
use Rattle.rules.proofs.Branches.Refused.{handed_on}
use Rattle.engine.proofs.Runs.{turn_faulty, source, turn_done, turn_refused}
use Rattle.engine.proofs.script.run_one.Goals as goal

pub returns-in_err-o-clause-does : goal.returns-in_err-o-clause-does
returns-in_err-o-clause-does c =
    let a = c.args in
    rw (handed_on c.from_residual.ensures) (turn_faulty a.s.now a.at (lent_by a.p.now) c.requires (sym c.in_err-o.ensures))

pub apply-requires-clause-read_from : goal.apply-requires-clause-read_from
apply-requires-clause-read_from c =
    let a = c.args in
    source a.s.now a.at (lent_by a.p.now) c.requires (sym c.in_ok-o.ensures)

pub returns-in_err-apply-clause-does : goal.returns-in_err-apply-clause-does
returns-in_err-apply-clause-does c =
    let a = c.args in
    rw (handed_on c.from_residual-in_err-apply.ensures)
    (turn_refused a.s.now a.at (lent_by a.p.now) c.requires (sym c.in_ok-o.ensures) _ c.in_err-apply.ensures.does)

pub returns-clause-does : goal.returns-clause-does
returns-clause-does c =
    let a = c.args in
    turn_done a.s.now a.at (lent_by a.p.now) c.requires (sym c.in_ok-o.ensures) c.in_ok-apply.ensures.does
