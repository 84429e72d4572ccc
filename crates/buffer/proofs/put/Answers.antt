-- `buffer::put` meets its contract: one byte is stored at the place.
use native.Mathlib.Omega.{arith}
use Rattle.maths.proofs.Buffers.{one_byte}
use Rattle.buffer.proofs.put.Goals as goal

pub returns : goal.returns
returns c = one_byte _ _ _ (omega arith)
