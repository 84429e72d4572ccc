-- `engine::chains::copy_chain` meets its contract: before the place i all is copied.
use Prim.Native.Nat.{◌-◌}
use lib.ListN.{length}
use Rattle.engine.proofs.Copying.{Copying}
use Rattle.engine.proofs.chains.copy_chain.Given as goal

abbrev pub invariant-loop-i : goal.invariant-loop-i
invariant-loop-i l = Copying l.from l.initial.to l.to l.i

abbrev pub decreases-loop-i : goal.decreases-loop-i
decreases-loop-i l = length l.from - l.i
