-- A test of every number below a bound in two parts, and column by column.
use mathlib.Core.Path.{◌≡◌, refl, sym, ap, ◌∙◌}
use mathlib.Core.Bool.{Bool, ◌&&◌, and-true, and_assoc}
use Prim.Native.Nat.{ℕ, zero, suc, ◌+◌, ◌*◌, ◌-◌, ◌≤◌}
use native.Mathlib.Nat.{add-zero, add-suc}
use native.Mathlib.Omega.{arith}
use Rattle.maths.specs.Tests.{all}

-- the first n, and k more
all_+ : (n k : ℕ) (p : ℕ → Bool) → all (n + k) p ≡ all n p && all k (λ i. p (n + i))
unfolding all
all_+ n zero p = rw add-zero (sym (and-true (all n p)))
all_+ n (suc k) p = rw (add-suc, all_+ n k p) (and_assoc (all n p) (all k (λ i. p (n + i))) (p (n + k)))

-- the first n of k, and the rest
pub all_split : (n k : ℕ) (p : ℕ → Bool) → n ≤ k → all k p ≡ all n p && all (k - n) (λ i. p (n + i))
all_split n k p h = ap (λ k. all k p) (omega arith) ∙ all_+ n (k - n) p

-- n columns of 96, one after the other
pub all-columns : (n : ℕ) (p : ℕ → Bool) → all n (λ j. all 96 (λ i. p (96 * j + i))) ≡ all (96 * n) p
unfolding all
all-columns zero p = refl
all-columns (suc n) p =
    let e : 96 * n + 96 ≡ 96 * suc n = omega arith in
    rw (all-columns n p) (sym (all_+ (96 * n) 96 p) ∙ ap (λ k. all k p) e)
