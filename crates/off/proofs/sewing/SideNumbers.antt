-- A new seam's number, counted from 1, and the same with a minus.
use mathlib.Core.Path.{◌≡◌, ◌∙◌}
use Prim.Native.Nat.{ℕ, suc, ◌+◌, ◌^◌, ◌<◌}
use native.Mathlib.Numerals.{add-one}
use native.Mathlib.Omega.{arith}
use lib.IntN.{pos, negsuc, ◌-ℤ◌, +ℤ_idl}
use mir.Syntax.{w8}
use mir.Val.{SFits, of_z, to_z}
use mir.Facts.{to_z-of_z, to_z_pos}
use Rattle.maths.proofs.Sizes.{fits_size}

-- the number of a new seam, and the same with a minus
module _ {n : ℕ} (room : n < 96) where
  pub plus-number : to_z w8 (n + 1) ≡ pos (suc n)
  plus-number = to_z_pos w8 {n = n + 1} (omega arith) ∙ rw add-one

  minus_fits : SFits w8 (negsuc n)
  minus_fits = let low : suc n < 2 ^ 7 = omega arith in fits_size {z = negsuc n} low

  pub minus_number : to_z w8 (of_z w8 (pos 0 -ℤ to_z w8 (n + 1))) ≡ negsuc n
  minus_number = rw (plus-number, +ℤ_idl) (to_z-of_z minus_fits)
