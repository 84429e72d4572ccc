-- A seam by its two ends: they tell its column, and which seam stands between two corners.
use mathlib.Core.Path.{◌≡◌, refl, sym, ap, ◌∙◌}
use mathlib.Core.Logic.{◌≢◌}
use mathlib.Core.Bool.{true, cond}
use Prim.Native.Nat.{ℕ, zero, suc, pred, ◌<◌, ◌≤◌}
use native.Mathlib.Omega.{arith}
use borrow.Author.Tests.{eqb-true}
use lib.Dec.{eqb}
use lib.IntN.{ℤ, pos, negsuc, nat_abs, neg_ℤ, ◌-ℤ◌, ◌*ℤ◌, +ℤ_comm}
use Rattle.maths.specs.Sums.{δ}
use Rattle.maths.proofs.Integers.{ints, one_*ℤ, minus_one_*ℤ}
use Rattle.maths.proofs.Cases.{eq_or, by_bool, and_left, and_right}
use Rattle.maths.proofs.Sums.{δ_same, δ_no}
use Rattle.rules.specs.Complex.{Complex, Chain}
use Rattle.rules.specs.Good.{Good}
use Rattle.rules.proofs.Layers.Seams.{Ends as EndsAt, tail-is, head-is}
use Rattle.rules.proofs.Cells.Columns.{sound-at}
use Rattle.off.specs.Sewing.{SeamEnds, ends_of, goes_from, seam_among, seam_of, signum}

-- a seam's column has its ends where they are found
pub ends_at : {X : Complex} → Good X → (j : ℕ) → j < (X 1).n → EndsAt (λ i. (X 1).d i j) ((ends_of (X 1)).tail j) ((ends_of (X 1)).head j)
ends_at G j h = let E = ((sound-at G 1).cell j h).seam refl in rw (tail-is E.2, head-is E.2) E.2

-- and is head minus tail
pub ends_entry : {v : Chain} {a b : ℕ} → EndsAt v a b → (i : ℕ) → v i ≡ δ b i -ℤ δ a i
ends_entry {v} {a} {b} E i =
    eq_or i a (λ e. rw (e, E.tail, δ_same, δ_no b a E.apart)) λ e.
    eq_or i b (λ f. rw (f, E.head, δ_same, δ_no a b (λ q. E.apart (sym q)))) λ f.
    rw (E.only i e f, δ_no a i e, δ_no b i f)

-- what holds of no seam, of one from a to b and of one from b to a, holds of the seam between a and b
module _ (E : SeamEnds) (a b : ℕ) (P : ℤ → Type 0) (none : P (pos 0)) where
  goes_says : (x y j : ℕ) → goes_from E x y j ≡ true → (E.tail j ≡ x) × (E.head j ≡ y)
  unfolding goes_from
  goes_says x y j e = (eqb-true (E.tail j) x (and_left _ _ e), eqb-true (E.head j) y (and_right (eqb (E.tail j) x) _ e))

  pub seam_each : (n : ℕ) → ((j : ℕ) → j < n → E.tail j ≡ a → E.head j ≡ b → P (pos (suc j))) →
      ((j : ℕ) → j < n → E.tail j ≡ b → E.head j ≡ a → P (negsuc j)) → P (seam_among E n a b)
  unfolding seam_among
  seam_each zero along against = none
  seam_each (suc n) along against =
      by_bool (goes_from E a b n) (λ t. P (cond t (pos (suc n)) (cond (goes_from E b a n) (negsuc n) (seam_among E n a b))))
      (λ e. let g = goes_says a b n e in along n (omega arith) g.0 g.1) λ _.
      by_bool (goes_from E b a n) (λ t. P (cond t (negsuc n) (seam_among E n a b)))
      (λ e. let g = goes_says b a n e in against n (omega arith) g.0 g.1) λ _.
      seam_each n (λ j h. along j (omega arith)) (λ j h. against j (omega arith))

module _ (E : SeamEnds) (n a b : ℕ) where
  -- it is one of the first n, counted from 1
  pub seam_small : nat_abs (seam_among E n a b) ≤ n
  seam_small = seam_each E a b (λ z. nat_abs z ≤ n) (omega arith) n (λ j h _ _. h) (λ j h _ _. h)

  pub seam_below : seam_among E n a b ≢ pos 0 → pred (nat_abs (seam_among E n a b)) < n
  seam_below = seam_each E a b (λ z. z ≢ pos 0 → pred (nat_abs z) < n) (λ f. absurd (f refl)) n (λ j h _ _ _. h) (λ j h _ _ _. h)

  pub seam_sign : nat_abs (signum (seam_among E n a b)) ≡ 1
  seam_sign = seam_each E a b (λ z. nat_abs (signum z) ≡ 1) refl n (λ j h _ _. refl) (λ j h _ _. refl)

  -- its two ends, one way or the other
  pub seam_two : seam_among E n a b ≢ pos 0 → (j : ℕ) → pred (nat_abs (seam_among E n a b)) ≡ j → {A : Type 0} →
      (E.tail j ≡ a → E.head j ≡ b → A) → (E.tail j ≡ b → E.head j ≡ a → A) → A
  seam_two f j e {A} along against =
      seam_each E a b (λ z. z ≢ pos 0 → pred (nat_abs z) ≡ j → A) (λ f. absurd (f refl)) n
      (λ k h p q _ e. along (rw e at p) (rw e at q))
      (λ k h p q _ e. against (rw e at p) (rw e at q)) f e

-- two pairs of corners with one seam are the same, one way or the other
pub seam_tells : (E : SeamEnds) (n a b x y : ℕ) → seam_among E n a b ≢ pos 0 → seam_among E n x y ≢ pos 0 →
    pred (nat_abs (seam_among E n a b)) ≡ pred (nat_abs (seam_among E n x y)) → {A : Type 0} → (a ≡ x → A) → (a ≡ y → b ≡ x → A) → A
seam_tells E n a b x y f g e same turned =
    seam_two E n a b f _ e
    (λ p q. seam_two E n x y g _ refl (λ r s. same (sym p ∙ r)) (λ r s. turned (sym p ∙ r) (sym q ∙ s)))
    (λ p q. seam_two E n x y g _ refl (λ r s. turned (sym q ∙ s) (sym p ∙ r)) (λ r s. same (sym q ∙ s)))

turned_round : (x y : ℤ) → neg_ℤ (x -ℤ y) ≡ y -ℤ x
turned_round x y = simp (ints, +ℤ_comm)

-- a side's seam with its sign goes from corner a to corner b
pub side_entry : {X : Complex} → Good X → (a b i : ℕ) → seam_of (X 1) a b ≢ pos 0 →
    signum (seam_of (X 1) a b) *ℤ (X 1).d i (pred (nat_abs (seam_of (X 1) a b))) ≡ δ b i -ℤ δ a i
side_entry {X} G a b i =
    seam_each (ends_of (X 1)) a b (λ z. z ≢ pos 0 → signum z *ℤ (X 1).d i (pred (nat_abs z)) ≡ δ b i -ℤ δ a i) (λ f. absurd (f refl)) (X 1).n
    (λ j h p q _. one_*ℤ ((X 1).d i j) ∙ ends_entry (ends_at G j h) i ∙ rw (p, q))
    (λ j h p q _. minus_one_*ℤ ((X 1).d i j) ∙ ap neg_ℤ (ends_entry (ends_at G j h) i) ∙ rw (p, q) (turned_round (δ a i) (δ b i)))

-- where there is no seam one way, there is none the other way
pub none_turned : (E : SeamEnds) (n a b : ℕ) → seam_among E n a b ≡ pos 0 → seam_among E n b a ≡ pos 0
unfolding seam_among
none_turned E zero a b = λ _. refl
none_turned E (suc j) a b =
    by_bool (goes_from E a b j) (λ t. cond t (pos (suc j)) (cond (goes_from E b a j) (negsuc j) (seam_among E j a b)) ≡ pos 0 →
    cond (goes_from E b a j) (pos (suc j)) (cond t (negsuc j) (seam_among E j b a)) ≡ pos 0)
    (λ _ e. let z : suc j ≡ 0 = cc in absurd (omega arith))
    (λ _. by_bool (goes_from E b a j) (λ t. cond t (negsuc j) (seam_among E j a b) ≡ pos 0 → cond t (pos (suc j)) (seam_among E j b a) ≡ pos 0)
    (λ _ e. let z : ◌≡◌ {A = ℕ} 0 1 = cc in absurd (omega arith))
    (λ _ e. none_turned E j a b e))
