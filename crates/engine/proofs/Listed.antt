-- Tests of the elements of a list, one by one: two lists are compared, and each element is tested with its place.
use mathlib.Core.Path.{◌≡◌, refl, sym, ap, ap₂, ◌∙◌}
use mathlib.Core.Bool.{Bool, ◌&&◌, and_assoc, and-true}
use mathlib.Core.List.{List, [], ◌∷◌}
use Prim.Native.Nat.{ℕ, zero, suc, ◌+◌, ◌<◌}
use native.Mathlib.Omega.{arith}
use lib.Dec.{eqb}
use lib.IntN.{ℤ, pos}
use lib.ListN.{length, get_or, take, drop, length-drop}
use lib.Pointwise.{pointwise}
use Rattle.std.specs.List.{list_all, enumerate_from}
use Rattle.std.proofs.lemmas.List.{get_or-take, get_or-drop, length-take}
use Rattle.maths.specs.Tests.{all}
use Rattle.maths.proofs.Tests.{all_same}

-- from the front
all-front : (n : ℕ) (p : ℕ → Bool) → all (suc n) p ≡ p 0 && all n (λ k. p (suc k))
unfolding all
all-front zero p = sym (and-true (p 0))
all-front (suc n) p = ap (λ t. t && p (suc n)) (all-front n p) ∙ and_assoc (p 0) (all n (λ k. p (suc k))) (p (suc n))

-- two lists of a length are compared number by number
pairs : (xs ys : List ℕ) → length xs ≡ length ys → pointwise eqb xs ys ≡ all (length xs) (λ k. eqb (get_or xs k 0) (get_or ys k 0))
unfolding all
pairs [] [] e = refl
pairs [] (y ∷ ys) e = absurd (omega arith)
pairs (x ∷ xs) [] e = absurd (omega arith)
pairs (x ∷ xs) (y ∷ ys) e = ap (λ t. eqb x y && t) (pairs xs ys (omega arith)) ∙ sym (all-front (length xs) (λ k. eqb (get_or (x ∷ xs) k 0) (get_or (y ∷ ys) k 0)))

-- each element of a list with its place, from k on
listed : (t : ℕ → ℤ → Bool) (k : ℕ) (xs : List ℤ) → list_all (λ (x : ℕ × ℤ). t x.0 x.1) (enumerate_from k xs) ≡ all (length xs) (λ i. t (k + i) (get_or xs i (pos 0)))
unfolding all
listed t k [] = refl
listed t k (x ∷ xs) =
    ap₂ ◌&&◌ (ap (λ i. t i x) (omega arith))
    (listed t (k + 1) xs ∙ all_same (length xs) (λ i l. ap (λ j. t j (get_or xs i (pos 0))) (omega arith)))
    ∙ sym (all-front (length xs) (λ i. t (k + i) (get_or (x ∷ xs) i (pos 0))))

pub tested-each : (t : ℕ → ℤ → Bool) (xs : List ℤ) → length xs ≡ 96 → list_all (λ (x : ℕ × ℤ). t x.0 x.1) (enumerate_from 0 xs) ≡ all 96 (λ i. t i (get_or xs i (pos 0)))
tested-each t xs long =
    listed t 0 xs ∙ ap (λ n. all n (λ i. t (0 + i) (get_or xs i (pos 0)))) long
    ∙ all_same 96 (λ i l. ap (λ j. t j (get_or xs i (pos 0))) (omega arith))

-- the base counts of a script, compared with those of a pattern
module _ (s counts : List ℕ) (h : 4 < length s) (four : length counts ≡ 4) where
  base_long : length (take 4 (drop 1 s)) ≡ 4
  base_long = simp (length-take, length-drop) (omega arith)

  pub bases-same : pointwise eqb (take 4 (drop 1 s)) counts ≡ all 4 (λ k. eqb (get_or s (k + 1) 0) (get_or counts k 0))
  bases-same =
      pairs (take 4 (drop 1 s)) counts (base_long ∙ sym four)
      ∙ ap (λ n. all n (λ k. eqb (get_or (take 4 (drop 1 s)) k 0) (get_or counts k 0))) base_long
      ∙ all_same 4 (λ k l. rw (get_or-take, get_or-drop) (ap (λ i. eqb (get_or s i 0) (get_or counts k 0)) (omega arith)))
