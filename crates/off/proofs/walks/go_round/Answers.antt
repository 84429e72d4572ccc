-- `off::walks::go_round` meets its contract: the walk goes by the list of the panel's seams, from the lowest corner that it leaves.
use mathlib.Core.Path.{refl, sym, ◌∙◌}
use native.Mathlib.Omega.{arith}
use Rattle.maths.specs.Tables.{table_from}
use Rattle.off.proofs.walks.NextCorners.{table-long}
use Rattle.off.proofs.walks.Steps.{none-found, some_found}
use Rattle.off.proofs.walks.Walked.{panel-steps, next_byte_low, round_none, round_walked}
use Rattle.off.proofs.walks.go_round.Goals as goal

pub fill_next-requires : goal.fill_next-requires
unfolding table_from
fill_next-requires c = record { panel = c.requires; blank = refl }

pub returns-in_default : goal.returns-in_default
returns-in_default c =
    round_none (panel-steps c.requires) c.fill_next.ensures refl (none-found _ (sym c.lowest.ensures ∙ c.in_default.is)) _

pub walk-requires : goal.walk-requires
walk-requires c =
    let start = some_found _ (sym c.lowest.ensures ∙ c.in-Some.is) in
    record {
      size = table-long _ c.fill_next.ensures;
      low = next_byte_low (panel-steps c.requires) c.fill_next.ensures;
      inside = omega (arith, start.0, start.1);
    }

pub returns : goal.returns
returns c =
    let start = some_found _ (sym c.lowest.ensures ∙ c.in-Some.is) in
    round_walked (panel-steps c.requires) c.fill_next.ensures start.0 (omega (arith, start.0, start.1)) c.walk.ensures refl
