-- `grid::runs::are_units` meets its contract: the fold joins the tests of the bytes.
use Rattle.std.proofs.Common.{rules}
use Rattle.maths.specs.Tests.{is_unit}
use Rattle.grid.proofs.Chains.{fold_tests}
use Rattle.grid.proofs.runs.are_units.Goals as goal

pub returns : goal.returns
unfolding is_unit
returns c =
    fold_tests is_unit _ _ (λ ok x b f' k. (search rules, search rules)) _ _ _ c.iter.ensures.rest c.fold.ensures.ran
