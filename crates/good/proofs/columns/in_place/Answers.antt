-- `good::columns::in_place` meets its contract: `all` tests each column in use, and then the rest is tested at once.
use Rattle.std.proofs.Common.{rules, ◌∙◌, ◌*◌, arith}
use Rattle.std.proofs.lemmas.Iterator.{YieldsList-from_range}
use Rattle.std.proofs.lemmas.Iterator.Search.{all_from_yields_List}
use mathlib.Core.Path.{◌≡◌, sym}
use Rattle.maths.specs.Tests.{is_zero, all}
use Rattle.grid.specs.Grid.{cut}
use Rattle.good.specs.Columns.{column_in_place}
use Rattle.good.proofs.Places.{in_place-not, in_place-rest}
use Rattle.grid.proofs.Cuts.{in_use, all_after}
use Rattle.std.proofs.lemmas.Iterator.{serves_from_Range}
use Rattle.good.proofs.Ranges.{all_range}
use Rattle.good.proofs.columns.in_place.Goals as goal
use Rattle.good.proofs.columns.in_place.Goals.{After-all}

-- the columns in use
tested : (c : After-all) → let a = c.args in c.all.result ≡ all a.n (λ j. column_in_place (cut j a.m.now) a.rows)
tested c =
    let a = c.args in
    all_from_yields_List (λ j. column_in_place (cut j a.m.now) a.rows) _ _ _ c.all.ensures.ran
    (YieldsList-from_range 0 a.n a.n (cc) (omega arith)) (λ x b q k. (search rules, search rules))
    ∙ all_range (λ j. column_in_place (cut j a.m.now) a.rows) a.n

pub all-requires-clause-callable : goal.all-requires-clause-callable
all-requires-clause-callable c = serves_from_Range (λ x q k. search rules) (λ x l h.
    let line = in_use x c.requires.columns (omega arith) in
    search (rules, line))

pub returns-then-all : goal.returns-then-all
returns-then-all c =
    let m = c.args.m.now in
    c.are_zero.ensures
    ∙ all_after is_zero (96 * c.args.n) m
    ∙ rw c.requires.columns.size (sym (in_place-rest c.requires (sym (tested (goal.at.returns-then-all c).After-all) ∙ c.if-all.true)))

pub returns-else-all : goal.returns-else-all
returns-else-all c = c.if-all.false ∙ sym (in_place-not c.requires (sym (tested (goal.at.returns-else-all c).After-all) ∙ c.if-all.false))
