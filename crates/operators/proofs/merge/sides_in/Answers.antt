-- `operators::merge::sides_in` meets its contract: its tests are told in the order of the definition, and the two places are the last two of the row.
use mathlib.Core.Path.{◌≡◌, sym, ◌∙◌}
use mathlib.Core.Bool.{true}
use native.Mathlib.Omega.{arith}
use borrow.Author.Tests.{eq-eqb, ne_eqb}
use Rattle.maths.specs.Tables.{entries}
use Rattle.rules.specs.Good.{one_each}
use Rattle.operators.proofs.merge.Rows.{Places, last-low, first-low, second-low, not_between_lem, shared_face_lem, sides-found}
use Rattle.operators.proofs.merge.sides_in.Goals as goal
use Rattle.operators.proofs.merge.sides_in.Goals.{After-row_last-a, Else-not-between}

pub row_last-a-requires : goal.row_last-a-requires
row_last-a-requires c =
    let l = last-low (entries c.args.d.now) c.args.t c.row_last-b.ensures in
    record { size = c.requires.size; inside = c.requires.inside; upto = omega arith }

places : (c : After-row_last-a) → Places (entries c.args.d.now) c.args.t c.row_last-a.result c.row_last-b.result
places c = record { last-is = c.row_last-b.ensures; first-is = c.row_last-a.ensures }

pub shared-alone-requires : goal.shared-alone-requires
shared-alone-requires c =
    record { size = c.requires.size; first = first-low (places (goal.at.shared-alone-requires c).After-row_last-a); second = second-low (places (goal.at.shared-alone-requires c).After-row_last-a) }

pub returns-then-not-between : goal.returns-then-not-between
returns-then-not-between c =
    not_between_lem (places (goal.at.returns-then-not-between c).After-row_last-a) (sym c.is_between-between.ensures ∙ c.if-not-between.true)

-- past the first test
between : (c : Else-not-between) → one_each (λ j. entries c.args.d.now c.args.t j) ≡ true
between c =
    sym c.is_between-between.ensures ∙ c.if-not-between.false

pub returns-then-not-alone : goal.returns-then-not-alone
returns-then-not-alone c =
    shared_face_lem (places (goal.at.returns-then-not-alone c).After-row_last-a)
    (between (goal.at.returns-then-not-alone c).Else-not-between) c.requires.inside c.shared-alone.ensures (ne_eqb _ 1 c.if-not-alone.true)

pub returns : goal.returns
returns c =
    sides-found (places (goal.at.returns c).After-row_last-a) (between (goal.at.returns c).Else-not-between) c.requires.inside
    c.shared-alone.ensures (eq-eqb _ 1 c.if-not-alone.false)
