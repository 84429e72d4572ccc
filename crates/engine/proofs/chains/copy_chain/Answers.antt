-- `engine::chains::copy_chain` meets its contract: before the place i all is copied.
use native.Mathlib.Omega.{arith}
use mir.Syntax.{w32}
use Rattle.maths.proofs.Sizes.{back}
use Rattle.engine.proofs.Copying.{copying_begin, copying_more, copying_end}
use Rattle.engine.proofs.chains.copy_chain.Goals as goal

pub loop-i-init : goal.loop-i-init
loop-i-init c = copying_begin c.requires

pub loop-i-preserved : goal.loop-i-preserved
loop-i-preserved c = copying_more c.loop-i.invariant _ (omega arith) (back w32 c.to-1.given)

pub shape_of-to : goal.shape_of-to
shape_of-to c = c.loop-i.invariant.filled.long

pub returns : goal.returns
returns c = copying_end c.loop-i.invariant (omega arith)
