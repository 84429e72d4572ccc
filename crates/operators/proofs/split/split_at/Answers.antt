-- `operators::split::split_at` meets its contract: at each dimension the three matrices are those of the definition.
use mathlib.Core.Path.{◌≡◌}
use native.Mathlib.Omega.{arith}
use Rattle.operators.proofs.split.SplitLaws.{seam_needs, panel_needs, block_needs, split1, split2, split3}
use Rattle.operators.proofs.split.split_at.Goals as goal

pub divide-requires-clause-splittable : goal.divide-requires-clause-splittable
divide-requires-clause-splittable c = seam_needs c.requires c.in-1.is

pub divide-requires-in-2-clause-splittable : goal.divide-requires-in-2-clause-splittable
divide-requires-in-2-clause-splittable c = panel_needs c.requires c.in-2.is

pub divide-requires-in_default-clause-splittable : goal.divide-requires-in_default-clause-splittable
divide-requires-in_default-clause-splittable c = block_needs c.requires (omega arith)

pub returns-in-1-clause-does : goal.returns-in-1-clause-does
returns-in-1-clause-does c =
    rw c.in-1.is (split1 c.requires.held.sized _ _ (rw c.in-1.is at c.divide.ensures))

pub returns-in-2-clause-does : goal.returns-in-2-clause-does
returns-in-2-clause-does c =
    rw c.in-2.is (split2 c.requires.held.sized _ _ (rw c.in-2.is at c.divide-in-2.ensures))

pub returns-in_default-clause-does : goal.returns-in_default-clause-does
returns-in_default-clause-does c =
    let e : c.args.dim ≡ 3 = omega arith in
    rw e (split3 c.requires.held.sized _ _ (rw e at c.divide-in_default.ensures))
