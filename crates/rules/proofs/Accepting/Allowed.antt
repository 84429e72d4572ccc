-- What each operator needs of a good pattern, so that the pattern stays good.
use mathlib.Core.Path.{◌≡◌}
use mathlib.Core.Logic.{◌≢◌}
use mathlib.Core.Bool.{Bool, true}
use Prim.Native.Nat.{ℕ, suc, ◌<◌, ◌≤◌}
use lib.IntN.{pos, nat_abs, neg_ℤ, ◌*ℤ◌}
use Rattle.maths.specs.Tests.{eq_z}
use Rattle.maths.specs.Sums.{dot}
use Rattle.rules.specs.Complex.{Complex, Chain}
use Rattle.rules.specs.Good.{OneEach}
use Rattle.rules.specs.Edits.{boundary, part}
use Rattle.rules.specs.Operators.{divides}
use Rattle.rules.proofs.Layers.Frame.{Within}

-- a cell of dimension k with the boundary v
pub record CanMake (k : ℕ) (v : Chain) (X : Complex) : Type 0 where
  pub dim : k ≤ 3
  pub room : (X k).n < 96
  pub corner : k ≡ 0 → (i : ℕ) → v i ≡ pos 0
  pub faces : (q : ℕ) → suc q ≡ k → Within (X q).n v
  pub closed : (q : ℕ) → suc q ≡ k → (r : ℕ) → dot 96 (λ i. (X q).d r i) (λ i. v i) ≡ pos 0
  pub units : (i : ℕ) → nat_abs (v i) ≤ 1
  pub seam : k ≡ 1 → OneEach v
  pub some : 2 ≤ k → (i : ℕ) × (v i ≢ pos 0)

-- cell c of dimension k is not in use
pub record CanKill (k c : ℕ) (X : Complex) : Type 0 where
  pub dim : k ≤ 3
  pub cell : c < (X k).n
  pub free : (j : ℕ) → (X (suc k)).d c j ≡ pos 0

-- cell s of dimension m + 1, the faces that pass p being chosen
pub record CanSplit (m s : ℕ) (p : ℕ → Bool) (X : Complex) : Type 0 where
  pub dim : m < 3
  pub cell : s < (X (suc m)).n
  pub room-below : (X m).n < 96
  pub room : (X (suc m)).n < 96
  pub head : m ≡ 0 → (i : ℕ) → p i ≡ eq_z ((X 1).d i s) (pos 1)
  pub divider : divides m (boundary (X m) (part p (λ i. (X (suc m)).d i s))) ≡ true

-- cell t of dimension k stands in just a and b, with opposite signs, and they share no other face
pub record CanMerge (k t a b : ℕ) (X : Complex) : Type 0 where
  pub dim : k < 3
  pub cell : t < (X k).n
  pub less : a < b
  pub high : b < (X (suc k)).n
  pub unit : (X (suc k)).d t a *ℤ (X (suc k)).d t a ≡ pos 1
  pub opposite : (X (suc k)).d t b ≡ neg_ℤ ((X (suc k)).d t a)
  pub only : (j : ℕ) → j ≢ a → j ≢ b → (X (suc k)).d t j ≡ pos 0
  pub alone : (i : ℕ) → i ≢ t → (X (suc k)).d i a ≢ pos 0 → (X (suc k)).d i b ≡ pos 0
