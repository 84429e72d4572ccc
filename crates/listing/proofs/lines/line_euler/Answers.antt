-- `listing::lines::line_euler` meets its contract: the label, the number and the line's end are put one after the other.
use native.Mathlib.Omega.{arith}
use mir.Facts.{to_z-of_z}
use Rattle.std.proofs.lemmas.Fmt.{length_signed_le}
use Rattle.maths.proofs.Buffers.{two_pieces}
use Rattle.listing.specs.Lines.{euler_line}
use Rattle.listing.proofs.Decimals.{whole-is}
use Rattle.listing.proofs.lines.line_euler.Goals as goal

pub put_decimal-next-requires : goal.put_decimal-next-requires
put_decimal-next-requires c = let z = c.ranges.z.sfits in rw (to_z-of_z c.ranges.z) (omega (arith, length_signed_le 5 c.args.z (omega arith) (omega arith)))

pub put-requires : goal.put-requires
put-requires c = let z = c.ranges.z.sfits in let e = rw (to_z-of_z c.ranges.z) at c.put_decimal-next.ensures in
    omega (arith, e.place, length_signed_le 5 c.args.z (omega arith) (omega arith))

pub returns : goal.returns
unfolding euler_line
returns c = let z = c.ranges.z.sfits in
    let number = rw (to_z-of_z c.ranges.z) at c.put_decimal-next.ensures in
    rw (← whole-is c.args.z (omega arith))
    (record { put = two_pieces c.put_all-next.ensures (two_pieces number c.put.ensures); most = omega (arith, number.place, length_signed_le 5 c.args.z (omega arith) (omega arith)) })
