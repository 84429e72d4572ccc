-- The tests and the sign of a coefficient, in numbers of four and of eight bytes.
use mathlib.Core.Path.{◌≡◌, refl, sym, ◌∙◌}
use mathlib.Core.Bool.{true, false}
use Prim.Native.Nat.{ℕ, zero, suc, ◌<◌, ◌^◌}
use native.Mathlib.Omega.{arith}
use lib.Dec.{leb, leb-suc-suc}
use lib.IntN.{ℤ, pos, negsuc, neg_ℤ, nat_abs, ◌-ℤ◌}
use lib.Signed.{le_z}
use borrow.Author.Tests.{le-leb, lt-leb}
use mir.Syntax.{w32, w64}
use mir.Val.{SFits, to_z, of_z}
use mir.Facts.{to_z-of_z, to_z_pos, sfits_widen}
use Rattle.maths.proofs.Cases.{no_eq}
use Rattle.maths.proofs.Sizes.{neg_fits, neg_is}

-- the two tests of `-limit <= z && z <= limit`
high : (limit : ℕ) (z : ℤ) → le_z (neg_ℤ (pos limit)) z ≡ true → le_z z (pos limit) ≡ leb (nat_abs z) limit
high limit (pos n) e = refl
high zero (negsuc n) e = no_eq e
high (suc l) (negsuc n) e = sym e ∙ sym (leb-suc-suc n l)

low : (limit : ℕ) (z : ℤ) → le_z (neg_ℤ (pos limit)) z ≡ false → le_z (neg_ℤ (pos limit)) z ≡ leb (nat_abs z) limit
low zero (pos n) e = no_eq (sym e ∙ le-leb 0 n (omega arith))
low (suc l) (pos n) e = no_eq (sym e)
low zero (negsuc n) e = sym (lt-leb (suc n) 0 (omega arith))
low (suc l) (negsuc n) e = sym (leb-suc-suc n l)

-- a limit and a coefficient of four bytes each, in eight
module _ {limit : ℕ} (l : limit < 2 ^ 32) where
  limit_is : to_z w64 limit ≡ pos limit
  limit_is = to_z_pos w64 (omega arith)

  pub least_fits : SFits w64 (pos 0 -ℤ to_z w64 limit)
  least_fits = neg_fits w64 {x = pos limit} refl (omega arith)

  least-is : to_z w64 (of_z w64 (pos 0 -ℤ to_z w64 limit)) ≡ neg_ℤ (pos limit)
  least-is = neg_is w64 {x = pos limit} refl (omega arith)

  module _ {z : ℤ} (f : SFits w32 z) where
    wide : SFits w64 z
    wide = sfits_widen tt f

    pub wide_fits : SFits w64 (to_z w32 (of_z w32 z))
    wide_fits = rw (to_z-of_z f) wide

    wide_is : to_z w64 (of_z w64 (to_z w32 (of_z w32 z))) ≡ z
    wide_is = rw (to_z-of_z f) (to_z-of_z wide)

    pub within-high : le_z (to_z w64 (of_z w64 (pos 0 -ℤ to_z w64 limit))) (to_z w64 (of_z w64 (to_z w32 (of_z w32 z)))) ≡ true →
        le_z (to_z w64 (of_z w64 (to_z w32 (of_z w32 z)))) (to_z w64 limit) ≡ leb (nat_abs z) limit
    within-high e = rw (wide_is, limit_is) (high limit z (rw (least-is, wide_is) at e))

    pub within_low : le_z (to_z w64 (of_z w64 (pos 0 -ℤ to_z w64 limit))) (to_z w64 (of_z w64 (to_z w32 (of_z w32 z)))) ≡ false →
        le_z (to_z w64 (of_z w64 (pos 0 -ℤ to_z w64 limit))) (to_z w64 (of_z w64 (to_z w32 (of_z w32 z)))) ≡ leb (nat_abs z) limit
    within_low e = rw (least-is, wide_is) (low limit z (rw (least-is, wide_is) at e))
