-- `off::walks::walk` meets its contract: after some steps the corner is the one they lead to, and the first bytes are those on the way.
use native.Mathlib.Omega.{arith}
use Rattle.off.proofs.walks.Steps.{walking_none, walking_more}
use Rattle.off.proofs.walks.walk.Goals as goal

pub loop-place-init : goal.loop-place-init
loop-place-init c = walking_none c.requires.inside

pub loop-place-preserved : goal.loop-place-preserved
loop-place-preserved c = walking_more c.loop-place.invariant c.requires.low (omega arith)
