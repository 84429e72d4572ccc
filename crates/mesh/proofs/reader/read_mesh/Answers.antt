-- `mesh::reader::read_mesh` meets its contract: lengths first; then what is read is taken as it is held, or refused, and then all is cleared again.
use mathlib.Core.Path.{◌≡◌, sym, ap, ◌∙◌}
use Rattle.rules.specs.Calls.{sized}
use Rattle.rules.specs.Lending.{lent_by}
use Rattle.mesh.proofs.Wholes.{wrong_length_lem, reading_taken, reading_refused}
use Rattle.mesh.proofs.reader.read_mesh.Goals as goal
use Rattle.mesh.proofs.reader.read_mesh.Goals.{After-is_sized}

-- what was tested
tested : (c : After-is_sized) → c.is_sized.result ≡ sized (lent_by c.args.p.now)
tested c = c.is_sized.ensures ∙ ap sized c.view.ensures

pub returns-then-not-is_sized-clause-does : goal.returns-then-not-is_sized-clause-does
returns-then-not-is_sized-clause-does c =
    let a = c.args in
    wrong_length_lem a.s.now (lent_by a.p.now) (sym (tested (goal.at.returns-then-not-is_sized-clause-does c).After-is_sized) ∙ c.if-not-is_sized.true)

pub returns-in-Ok-clause-does : goal.returns-in-Ok-clause-does
returns-in-Ok-clause-does c =
    let a = c.args in
    reading_taken a.s.now (lent_by a.p.now) (sym (tested (goal.at.returns-in-Ok-clause-does c).After-is_sized) ∙ c.if-not-is_sized.false) c.in-Ok.ensures.does

pub returns-in-Err-clause-does : goal.returns-in-Err-clause-does
returns-in-Err-clause-does c =
    let a = c.args in
    reading_refused a.s.now (lent_by a.p.now) (sym (tested (goal.at.returns-in-Err-clause-does c).After-is_sized) ∙ c.if-not-is_sized.false)
    c.in-Err.ensures.does c.clear_all-in-Err.ensures.does

pub clear_all-requires-in-Err : goal.clear_all-requires-in-Err
clear_all-requires-in-Err c = c.in-Err.ensures.does.held.sized
