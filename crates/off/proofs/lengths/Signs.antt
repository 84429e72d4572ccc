-- A number with its sign: its text, and how long that is.
use mathlib.Core.Path.{◌≡◌, refl}
use mathlib.Core.Bool.{cond}
use mathlib.Core.List.{List, [], ◌++◌}
use Prim.Native.Nat.{ℕ, suc, ◌+◌, ◌≤◌}
use native.Mathlib.Omega.{arith}
use lib.IntN.{ℤ, pos, negsuc, nat_abs}
use lib.ListN.{length}
use lib.Signed.{lt_z}
use mir.Syntax.{w32}
use mir.Val.{bool_byte, to_z, of_z}
use borrow.Author.Tests.{le-ltb}
use Rattle.maths.proofs.Sizes.{back}
use Rattle.rules.specs.Printed.{text}
use Rattle.off.specs.Words.{farthest}
use Rattle.off.specs.Exporting.{number, signed}
use Rattle.off.proofs.lengths.Decimal.{number-most}

-- what stands before the digits
abbrev pub sign : ℤ → List ℕ
sign z = cond (lt_z z (pos 0)) (text "-") []

pub signed-is : (z : ℤ) → signed z ≡ sign z ++ number (nat_abs z)
unfolding signed
signed-is (pos n) = rw (le-ltb n 0 (omega arith))
signed-is (negsuc n) = refl

-- how long its text is
pub signed-length : (z : ℤ) → length (number (nat_abs z)) + bool_byte (lt_z z (pos 0)) ≡ length (signed z)
unfolding signed
signed-length (pos n) = rw (le-ltb n 0 (omega arith)) (omega arith)
signed-length (negsuc n) = omega arith

pub signed-most : (z : ℤ) → length (signed z) ≤ 8
unfolding signed
signed-most (pos n) = omega (arith, number-most n)
signed-most (negsuc n) = omega (arith, number-most (suc n))

-- a coordinate in range, read back from the machine's bits
pub near_back : (z : ℤ) → nat_abs z ≤ farthest → to_z w32 (of_z w32 z) ≡ z
near_back (pos n) h = back w32 (omega arith)
near_back (negsuc n) h = back w32 (omega arith)
