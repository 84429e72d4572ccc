-- The count of a dimension, and its matrix.
use mathlib.Core.Path.{◌≡◌, refl, ap, ◌∙◌}
use mathlib.Core.Logic.{◌≢◌}
use mathlib.Core.Bool.{true, false, ◌&&◌, and-false}
use mathlib.Core.List.{List}
use Prim.Native.Nat.{ℕ, zero, suc, ◌≤◌}
use native.Mathlib.Omega.{arith}
use lib.Dec.{leb}
use lib.IntN.{ℤ}
use borrow.Author.Tests.{leb-true, lt-leb}
use Rattle.maths.proofs.Cases.{and_left, and_right}
use Rattle.rules.specs.Form.{within}
use Rattle.engine.specs.Boundaries.{matrix_of}

pub at-most_three : (d : ℕ) → within 1 3 d ≡ true → d ≤ 3
at-most_three d e = leb-true d 3 (and_right (leb 1 d) (leb d 3) e)

-- what holds at 1, 2 and 3
pub each_dimension : (P : ℕ → Type 0) → P 1 → P 2 → P 3 → (d : ℕ) → within 1 3 d ≡ true → P d
each_dimension P p₁ p₂ p₃ d e = go d (leb-true 1 d (and_left (leb 1 d) (leb d 3) e)) (at-most_three d e)
  where
    go : (d : ℕ) → 1 ≤ d → d ≤ 3 → P d
    go zero h k = absurd (omega arith)
    go (suc zero) h k = p₁
    go (suc (suc zero)) h k = p₂
    go (suc (suc (suc zero))) h k = p₃
    go (suc (suc (suc (suc d)))) h k = absurd (omega arith)

-- the matrix that is picked for a dimension, which is offered
pub record Picked (d : ℕ) (m1 m2 m3 m : List ℤ) : Type 0 where
  pub offered : within 1 3 d ≡ true
  pub is : m ≡ matrix_of d m1 m2 m3

module _ {d : ℕ} {m1 m2 m3 : List ℤ} where
  pub picked-first : d ≡ 1 → Picked d m1 m2 m3 m1
  unfolding matrix_of
  picked-first e = rw e (record { offered = refl; is = refl })

  pub picked-second : d ≡ 2 → Picked d m1 m2 m3 m2
  unfolding matrix_of
  picked-second e = rw e (record { offered = refl; is = refl })

  pub picked-third : d ≡ 3 → Picked d m1 m2 m3 m3
  unfolding matrix_of
  picked-third e = rw e (record { offered = refl; is = refl })

-- and any other is not
pub not_offered : (d : ℕ) → d ≢ 1 → d ≢ 2 → d ≢ 3 → within 1 3 d ≡ false
not_offered zero a b c = refl
not_offered (suc zero) a b c = absurd (a refl)
not_offered (suc (suc zero)) a b c = absurd (b refl)
not_offered (suc (suc (suc zero))) a b c = absurd (c refl)
not_offered (suc (suc (suc (suc d)))) a b c = ap (λ t. leb 1 (suc (suc (suc (suc d)))) && t) (lt-leb (suc (suc (suc (suc d)))) 3 (omega arith)) ∙ and-false _
