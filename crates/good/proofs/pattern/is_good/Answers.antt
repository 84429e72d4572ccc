-- `good::pattern::is_good` meets its contract: with at most 96 cells of each dimension the rest of the test may look at the entries.
use mathlib.Core.Path.{sym, ◌∙◌}
use Rattle.rules.specs.Lending.{seen_by}
use Rattle.good.proofs.Parts.{good-few, good_cells, stored_matrices}
use Rattle.good.proofs.pattern.is_good.Goals as goal

pub is_sound-requires : goal.is_sound-requires
is_sound-requires c =
    stored_matrices (seen_by c.args.p) (sym c.few.ensures ∙ c.if-few.true) c.requires

pub returns-then-few : goal.returns-then-few
returns-then-few c =
    c.is_sound.ensures ∙ sym (good_cells (seen_by c.args.p) (sym c.few.ensures ∙ c.if-few.true))

pub returns-else-few : goal.returns-else-few
returns-else-few c =
    c.if-few.false ∙ sym (good-few (seen_by c.args.p) (sym c.few.ensures ∙ c.if-few.false))
