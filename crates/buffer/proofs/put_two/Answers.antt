-- `buffer::put_two` meets its contract: a byte is stored at the place, and one at the next.
use native.Mathlib.Omega.{arith}
use lib.ListN.{length-set}
use Rattle.maths.proofs.Buffers.{two_bytes}
use Rattle.buffer.proofs.put_two.Goals as goal

pub bounds-out-at-2 : goal.bounds-out-at-2
bounds-out-at-2 c = simp length-set (omega arith)

pub returns : goal.returns
returns c = two_bytes _ _ _ _ c.requires
