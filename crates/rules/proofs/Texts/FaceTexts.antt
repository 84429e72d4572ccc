-- The text of one face, and those of all faces of a column.
use mathlib.Core.Path.{◌≡◌, refl}
use mathlib.Core.Bool.{true, false}
use mathlib.Core.List.{List, []}
use Prim.Native.Nat.{ℕ}
use lib.IntN.{ℤ}
use Rattle.maths.specs.Tests.{is_zero}
use Rattle.maths.specs.Sums.{join}
use Rattle.rules.specs.Complex.{Chain}
use Rattle.rules.specs.Mesh.{one_face, each_face}

module _ (f : ℕ → ℤ → List ℕ) where
  pub no_face : (i : ℕ) (z : ℤ) → is_zero z ≡ true → one_face f i z ≡ []
  unfolding one_face
  no_face i z e = rw e

  pub some_face : (i : ℕ) (z : ℤ) → is_zero z ≡ false → one_face f i z ≡ f i z
  unfolding one_face
  some_face i z e = rw e

  -- one after the other
  pub faces_are : (v : Chain) → join 96 (λ i. one_face f i (v i)) ≡ each_face f v
  unfolding each_face
  faces_are v = refl
