-- `grid::sums::add_run` meets its contract: in turn i sum i is still the old one, and leaves room for an entry in a byte.
use lib.IntN.{◌*ℤ◌}
use mir.Syntax.{w8}
use mir.Val.{to_z}
use Rattle.grid.specs.Grid.{nth}
use Rattle.grid.proofs.Adding.{Adding}
use Rattle.grid.proofs.sums.add_run.Given as goal

abbrev pub invariant-loop-i : goal.invariant-loop-i
invariant-loop-i g l = Adding (λ k. nth l.column k *ℤ to_z w8 g.row.S) l.initial.sums l.sums l.i
