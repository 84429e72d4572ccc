-- `engine::boundary::add_times` meets its contract: in turn i sum i is still the old one, and leaves room for a term.
use lib.IntN.{pos, ◌*ℤ◌}
use lib.ListN.{get_or}
use Rattle.grid.proofs.Adding.{Adding}
use Rattle.engine.proofs.boundary.add_times.Given as goal

abbrev pub invariant-loop-i : goal.invariant-loop-i
invariant-loop-i l = Adding (λ k. get_or l.column k (pos 0) *ℤ l.v) l.initial.sums l.sums l.i
