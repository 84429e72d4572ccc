-- `good::pattern::is_sound` meets its contract: where all is in place, the other tests may be made.
use mathlib.Core.Path.{sym, ◌∙◌}
use Rattle.good.specs.Parts.{all_in_place, sound}
use Rattle.good.proofs.Places.{in_place-at}
use Rattle.good.proofs.Parts.{three}
use Rattle.good.proofs.pattern.is_sound.Goals as goal

pub is_formed-requires : goal.is_formed-requires
is_formed-requires c =
    let t = three c.if-in_place.true in record {
      stored = c.requires;
      all_placed = record {
        first = in_place-at _ _ _ (sym c.in_place.ensures ∙ t.0);
        second = in_place-at _ _ _ (sym c.in_place-2.ensures ∙ t.1);
        third = in_place-at _ _ _ (sym c.in_place-3.ensures ∙ t.2);
      };
    }

pub returns-then-in_place : goal.returns-then-in_place
unfolding sound all_in_place
returns-then-in_place c =
    rw (← c.in_place.ensures, ← c.in_place-2.ensures, ← c.in_place-3.ensures, c.if-in_place.true)
    c.is_formed.ensures

pub returns-else-in_place : goal.returns-else-in_place
unfolding sound all_in_place
returns-else-in_place c =
    rw (← c.in_place.ensures, ← c.in_place-2.ensures, ← c.in_place-3.ensures, c.if-in_place.false)
