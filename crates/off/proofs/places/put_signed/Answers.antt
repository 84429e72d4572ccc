-- `off::places::put_signed` meets its contract: what the machine's type prints is the text.
use mir.Facts.{to_z-of_z}
use native.Mathlib.Omega.{arith}
use Rattle.off.proofs.places.Numbers.{signed-is}
use Rattle.off.proofs.places.put_signed.Goals as goal

pub put_decimal-requires : goal.put_decimal-requires
put_decimal-requires c = rw (to_z-of_z c.ranges.z, signed-is c.args.z (omega (arith, c.requires.near))) c.requires.room

pub returns : goal.returns
returns c = rw (← signed-is c.args.z (omega (arith, c.requires.near))) (rw (to_z-of_z c.ranges.z) at c.put_decimal.ensures)
