-- `grid::runs::are_zero` meets its contract: the fold joins the tests of the bytes.
use Rattle.std.proofs.Common.{rules}
use Rattle.maths.specs.Tests.{eq_z, is_zero}
use Rattle.grid.proofs.Chains.{fold_tests}
use Rattle.grid.proofs.runs.are_zero.Goals as goal

pub returns : goal.returns
unfolding is_zero eq_z
returns c =
    fold_tests is_zero _ _ (λ ok x b f' k. (search rules, search rules)) _ _ _ c.iter.ensures.rest c.fold.ensures.ran
