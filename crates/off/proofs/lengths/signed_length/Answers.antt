-- `off::lengths::signed_length` meets its contract: a number below 0 is one byte longer than its size.
use native.Mathlib.Omega.{arith}
use mir.Facts.{to_z-of_z}
use Rattle.off.proofs.lengths.Signs.{signed-length, signed-most}
use Rattle.off.proofs.lengths.signed_length.Goals as goal

pub overflow_add-result : goal.overflow_add-result
overflow_add-result c =
    let size = rw (to_z-of_z c.ranges.z) at c.unsigned_abs.ensures.value in
    rw (to_z-of_z c.ranges.z, c.number_length.ensures, size, signed-length c.args.z) (record { fits = omega (arith, signed-most c.args.z) })

pub returns : goal.returns
returns c =
    let size = rw (to_z-of_z c.ranges.z) at c.unsigned_abs.ensures.value in
    rw (to_z-of_z c.ranges.z, c.number_length.ensures, size) (signed-length c.args.z)
