-- What the tests on columns say.
use mathlib.Core.Path.{◌≡◌, ◌∙◌, sym, ap}
use mathlib.Core.Logic.{◌≢◌}
use mathlib.Core.Bool.{Bool, true, false, not}
use Prim.Native.Nat.{ℕ, ◌<◌, ◌≤◌}
use native.Mathlib.Omega.{arith}
use borrow.Author.Tests.{eqb-true, eq-eqb, not-true}
use lib.Dec.{eqb}
use lib.IntN.{pos, negsuc, nat_abs, *ℤ-zero}
use Rattle.maths.specs.Tests.{is_zero, is_unit, all}
use Rattle.maths.specs.Sums.{dot}
use Rattle.maths.proofs.Cases.{lt_or, bool_or, and_left, and_right, and_both}
use Rattle.maths.proofs.Tests.{zero_is, zero-true, zero-false, not-zero, unit-true, unit-is, all-at, all_of, all-not, all-false}
use Rattle.maths.proofs.Dots.{dot_0_l, dot_more}
use Rattle.rules.specs.Complex.{Layer, Chain}
use Rattle.rules.specs.Good.{times, OneEach, one_each, all_zero, closes}
use Rattle.rules.specs.Operators.{proper}
use Rattle.rules.proofs.Layers.Frame.{Within}

module _ (v : Chain) where
  pub one_each_true : one_each v ≡ true → OneEach v
  unfolding one_each
  one_each_true e = record {
    tail = eqb-true (times (negsuc 0) v) 1 (and_left _ _ e);
    head = eqb-true (times (pos 1) v) 1 (and_right (eqb (times (negsuc 0) v) 1) _ e);
  }

  pub one_each_is : OneEach v → one_each v ≡ true
  unfolding one_each
  one_each_is o = and_both (eq-eqb (times (negsuc 0) v) 1 o.tail) (eq-eqb (times (pos 1) v) 1 o.head)

  pub all-zero-at : all_zero v ≡ true → (i : ℕ) → i < 96 → v i ≡ pos 0
  unfolding all_zero
  all-zero-at e i h = zero-true (all-at 96 (λ i. is_zero (v i)) e i h)

  pub some_entry : all_zero v ≡ false → (i : ℕ) × (i < 96) × (v i ≢ pos 0)
  unfolding all_zero
  some_entry e = let f = all-false 96 (λ i. is_zero (v i)) e in (f.0, f.1, zero-false f.2)

  pub has_face : (i : ℕ) → i < 96 → v i ≢ pos 0 → all_zero v ≡ false
  unfolding all_zero
  has_face i h n = all-not 96 (λ i. is_zero (v i)) i h (not-zero n)

  pub proper-units : proper v ≡ true → (i : ℕ) → i < 96 → nat_abs (v i) ≤ 1
  unfolding proper
  proper-units e i h = unit-true (v i) (all-at 96 (λ i. is_unit (v i)) (and_left _ _ e) i h)

  pub proper_face : proper v ≡ true → (i : ℕ) × (i < 96) × (v i ≢ pos 0)
  unfolding proper
  proper_face e = some_entry (not-true (all_zero v) (and_right (all 96 (λ i. is_unit (v i))) _ e))

  pub proper-is : ((i : ℕ) → i < 96 → nat_abs (v i) ≤ 1) → (i : ℕ) → i < 96 → v i ≢ pos 0 → proper v ≡ true
  unfolding proper
  proper-is u i h n = and_both (all_of 96 (λ i h. unit-is (v i) (u i h))) (ap not (has_face i h n))

  -- past the rows in use every sum is 0
  pub closes-rows : (rows : ℕ) (A : Layer) → rows ≤ 96 → ((i j : ℕ) → rows ≤ i → A.d i j ≡ pos 0) → closes rows A v ≡ closes 96 A v
  unfolding closes
  closes-rows rows A short past = bool_or (all rows zero)
      (λ t. t ∙ sym (all_of 96 (λ r _. lt_or r rows (all-at rows zero t r) (past-zero r))))
      (λ t. let f = all-false rows zero t in t ∙ sym (all-not 96 zero f.0 (omega (arith, f.1)) f.2))
    where
      zero : ℕ → Bool
      zero r = is_zero (dot A.n (λ i. A.d r i) (λ i. v i))

      past-zero : (r : ℕ) → rows ≤ r → zero r ≡ true
      past-zero r h = rw (dot_0_l A.n (λ i. v i) (λ i _. past r i h)) zero_is

  -- a chain of the cells of A
  module _ (rows : ℕ) (A : Layer) (few : A.n ≤ 96) (w : Within A.n v) where
    whole_row : (r : ℕ) → dot 96 (λ i. A.d r i) (λ i. v i) ≡ dot A.n (λ i. A.d r i) (λ i. v i)
    whole_row r = dot_more A.n 96 _ _ few (λ i l h. rw (w i l) (*ℤ-zero (A.d r i)))

    pub closes_at : closes rows A v ≡ true → (r : ℕ) → r < rows → dot 96 (λ i. A.d r i) (λ i. v i) ≡ pos 0
    unfolding closes
    closes_at e r h = whole_row r ∙ zero-true (all-at rows (λ r. is_zero (dot A.n (λ i. A.d r i) (λ i. v i))) e r h)

    pub closes-is : ((r : ℕ) → dot 96 (λ i. A.d r i) (λ i. v i) ≡ pos 0) → closes rows A v ≡ true
    unfolding closes
    closes-is z = all_of rows (λ r h. rw (← whole_row r, z r) zero_is)
