-- `off::lengths::number_length` meets its contract: one digit for each power of 10 that the number reaches.
use native.Mathlib.Omega.{arith}
use Rattle.off.proofs.lengths.Decimal.{digits_reached, reached_length}
use Rattle.off.proofs.lengths.number_length.Goals as goal

pub returns : goal.returns
unfolding digits_reached
returns c = reached_length 6 c.args.n (omega arith) c.requires
