-- `off::walks::walk` meets its contract: after some steps the corner is the one they lead to, and the first bytes are those on the way.
use Rattle.off.proofs.walks.Steps.{Walking}
use Rattle.off.proofs.walks.walk.Given as goal

abbrev pub invariant-loop-place : goal.invariant-loop-place
invariant-loop-place v = Walking v.next v.start v.ring v.corner v.place-index
