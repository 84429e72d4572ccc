-- The ends of the first seam columns, filled in one after the other.
use mathlib.Core.Path.{◌≡◌, refl}
use mathlib.Core.Bool.{Bool, cond}
use mathlib.Core.List.{List}
use Prim.Native.Nat.{ℕ, suc, ◌<◌, ◌≤◌}
use native.Mathlib.Omega.{arith}
use lib.IntN.{ℤ}
use Rattle.maths.specs.Tests.{eq_z, last}
use Rattle.maths.proofs.Cases.{by_bool}
use Rattle.maths.proofs.Tests.{last_le}
use Rattle.rules.specs.Complex.{Chain}
use Rattle.rules.specs.Mesh.{face_with}
use Rattle.off.specs.declared.ends.Ends.{Ends}
use Rattle.off.specs.Walking.{seam_at, column_ends}

-- the last number up to n that passes p, or 0 where none does
last-below : (n : ℕ) (p : ℕ → Bool) → last (suc n) p ≤ n
unfolding last
last-below n p = by_bool (p n) (λ t. cond t n (last n p) ≤ n) (λ _. omega arith) (λ _. last_le n p)

-- an end that was found is a corner
pub end_low : (p : ℕ → Bool) {a : ℕ} → a ≡ last 96 p → a < 96
end_low p e = omega (arith, last-below 95 p)

pub face_low : (z : ℤ) (v : Chain) → face_with z v < 96
face_low z v = end_low (λ i. eq_z (v i) z) refl

-- of the seams, the ends of the first j
abbrev pub EndsSoFar : List ℤ → List Ends → ℕ → Type 0
EndsSoFar m1 ends j = (k : ℕ) → k < j → seam_at ends k ≡ column_ends m1 k
