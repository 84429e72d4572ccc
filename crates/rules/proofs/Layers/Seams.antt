-- A seam's column by its ends: -1 at the tail, 1 at the head, and 0 elsewhere.
use mathlib.Core.Path.{◌≡◌, sym, ◌∙◌, ap, fun_ext}
use mathlib.Core.Logic.{◌≢◌}
use mathlib.Core.Bool.{false}
use Prim.Native.Nat.{ℕ, ◌<◌, ◌≤◌}
use native.Mathlib.Omega.{arith}
use lib.IntN.{ℤ, pos, negsuc, nat_abs}
use Rattle.maths.specs.Tests.{eq_z}
use Rattle.maths.proofs.Cases.{eq_or, lt_or, no_eq}
use Rattle.maths.proofs.Tests.{eq_z-true, eq_z-refl, unit-rest, count_one, one_found, last-is}
use Rattle.rules.specs.Complex.{Chain}
use Rattle.rules.specs.Good.{OneEach}
use Rattle.rules.specs.Mesh.{face_with, tail_of, head_of}
use Rattle.rules.proofs.Layers.Frame.{Within}

-- v has its tail at a and its head at b
pub record Ends (v : Chain) (a b : ℕ) : Type 0 where
  pub apart : a ≢ b
  pub low : a < 96
  pub high : b < 96
  pub tail : v a ≡ negsuc 0
  pub head : v b ≡ pos 1
  pub only : (i : ℕ) → i ≢ a → i ≢ b → v i ≡ pos 0

minus-not_one : {z : ℤ} → z ≡ negsuc 0 → z ≢ pos 1
minus-not_one e f = let z : ◌≡◌ {A = ℕ} 0 1 = cc in omega arith

pub minus-not-zero : {z : ℤ} → z ≡ negsuc 0 → z ≢ pos 0
minus-not-zero e f = let z : ◌≡◌ {A = ℕ} 0 1 = cc in omega arith

pub one_not_zero : {z : ℤ} → z ≡ pos 1 → z ≢ pos 0
one_not_zero e f = let z : ◌≡◌ {A = ℕ} 0 1 = cc in omega arith

pub ends_of_lem : {v : Chain} → OneEach v → ((i : ℕ) → nat_abs (v i) ≤ 1) → Within 96 v → (a : ℕ) × (b : ℕ) × Ends v a b
ends_of_lem {v} o units w =
    let t = one_found 96 (λ i. eq_z (v i) (negsuc 0)) o.tail in
    let h = one_found 96 (λ i. eq_z (v i) (pos 1)) o.head in (
      t.0,
      h.0,
      record {
        apart = λ e. minus-not_one (eq_z-true t.2) (ap v e ∙ eq_z-true h.2);
        low = t.1;
        high = h.1;
        tail = eq_z-true t.2;
        head = eq_z-true h.2;
        only = λ i f g. lt_or i 96 (λ l. unit-rest (units i) (h.3 i l g) (t.3 i l f)) (w i);
      },
    )

face_is : {z : ℤ} (v : Chain) (t : ℕ) → t < 96 → v t ≡ z → ((i : ℕ) → i ≢ t → eq_z (v i) z ≡ false) → face_with z v ≡ t
face_is {z} v t h e n = last-is 96 t h (rw e (eq_z-refl z)) (λ i a b. n i (omega arith))

module _ {v : Chain} {a b : ℕ} (E : Ends v a b) where
  -- nothing else is a tail, or a head
  no_tail : (i : ℕ) → i ≢ a → eq_z (v i) (negsuc 0) ≡ false
  unfolding eq_z
  no_tail i e = eq_or i b (λ f. rw (f, E.head)) (λ f. rw (E.only i e f))

  no_head : (i : ℕ) → i ≢ b → eq_z (v i) (pos 1) ≡ false
  unfolding eq_z
  no_head i e = eq_or i a (λ f. rw (f, E.tail)) (λ f. rw (E.only i f e))

  pub tail_at : (t : ℕ) → v t ≡ negsuc 0 → a ≡ t
  tail_at t e = eq_or t a sym (λ f. no_eq (sym (no_tail t f) ∙ rw e (eq_z-refl (negsuc 0))))

  pub head_at : (t : ℕ) → v t ≡ pos 1 → b ≡ t
  head_at t e = eq_or t b sym (λ f. no_eq (sym (no_head t f) ∙ rw e (eq_z-refl (pos 1))))

  pub one_each_of : OneEach v
  one_each_of = record {
    tail = count_one 96 a E.low (rw E.tail (eq_z-refl (negsuc 0))) (λ i l e. no_tail i e);
    head = count_one 96 b E.high (rw E.head (eq_z-refl (pos 1))) (λ i l e. no_head i e);
  }

  pub tail-is : tail_of v ≡ a
  tail-is = face_is v a E.low E.tail no_tail

  pub head-is : head_of v ≡ b
  head-is = face_is v b E.high E.head no_head

  pub same_ends_lem : {w : Chain} → Ends w a b → v ≡ w
  same_ends_lem F = fun_ext λ i.
      eq_or i a (λ e. rw (e, E.tail, F.tail)) λ e.
      eq_or i b (λ f. rw (f, E.head, F.head)) λ f.
      E.only i e f ∙ sym (F.only i e f)
