-- Laws of `at3`, which changes three neighbouring places of a sequence, of `put`, which changes one coefficient, and of `part` and `rest`.
use mathlib.Core.Path.{◌≡◌, refl, sym, fun_ext}
use mathlib.Core.Logic.{◌≢◌}
use mathlib.Core.Bool.{Bool, true, false, cond}
use Prim.Native.Nat.{ℕ, suc}
use native.Mathlib.Omega.{arith}
use borrow.Author.Tests.{ne_eqb}
use lib.IntN.{ℤ, pos, ◌+ℤ◌, ◌-ℤ◌, ◌*ℤ◌, +ℤ_idl, +ℤ_idr, +ℤ_invr, -ℤ-+ℤ_cancel, *ℤ-zero}
use Rattle.maths.specs.Sums.{δ}
use Rattle.maths.proofs.Integers.{*ℤ_1}
use Rattle.maths.proofs.Cases.{eqb_same, eq_or, by_bool}
use Rattle.maths.proofs.Sums.{δ_same, δ_no}
use Rattle.rules.specs.Complex.{Chain}
use Rattle.rules.specs.Edits.{at3, put, part, rest}

module _ {A : Type 0} (m : ℕ) (f : ℕ → A) (x y z : A) where
  pub at3_0 : at3 m f x y z m ≡ x
  unfolding at3
  at3_0 = rw eqb_same

  pub at3_1 : at3 m f x y z (suc m) ≡ y
  unfolding at3
  at3_1 = rw (ne_eqb (suc m) m (omega arith), eqb_same)

  pub at3_2 : at3 m f x y z (suc (suc m)) ≡ z
  unfolding at3
  at3_2 = rw (ne_eqb (suc (suc m)) m (omega arith), ne_eqb (suc (suc m)) (suc m) (omega arith), eqb_same)

  pub at3_no : (q : ℕ) → q ≢ m → q ≢ suc m → q ≢ suc (suc m) → at3 m f x y z q ≡ f q
  unfolding at3
  at3_no q h₀ h₁ h₂ = rw (ne_eqb q m h₀, ne_eqb q (suc m) h₁, ne_eqb q (suc (suc m)) h₂)

  -- what holds of each place holds of each place of the changed sequence, if it does at the three that changed
  pub at3_each : (P : ℕ → A → Type 0) → ((q : ℕ) → q ≢ m → q ≢ suc m → q ≢ suc (suc m) → P q (f q)) → P m x → P (suc m) y → P (suc (suc m)) z →
      (q : ℕ) → P q (at3 m f x y z q)
  at3_each P h h₀ h₁ h₂ q =
      eq_or q m (λ e. rw (e, at3_0) h₀) λ e₀.
      eq_or q (suc m) (λ e. rw (e, at3_1) h₁) λ e₁.
      eq_or q (suc (suc m)) (λ e. rw (e, at3_2) h₂) λ e₂.
      rw (at3_no q e₀ e₁ e₂) (h q e₀ e₁ e₂)

  -- the same of neighbours, at the four pairs that changed
  pub at3-next : (P : ℕ → A → A → Type 0) → ((q : ℕ) → P q (f q) (f (suc q))) → ((q : ℕ) → suc q ≡ m → P q (f q) x) →
      P m x y → P (suc m) y z → P (suc (suc m)) z (f (suc (suc (suc m)))) → (q : ℕ) → P q (at3 m f x y z q) (at3 m f x y z (suc q))
  at3-next P h h₀ h₁ h₂ h₃ q =
      eq_or q m (λ e. rw (e, at3_0, at3_1) h₁) λ e₀.
      eq_or q (suc m) (λ e. rw (e, at3_1, at3_2) h₂) λ e₁.
      eq_or q (suc (suc m)) (λ e. rw (e, at3_2, at3_no (suc (suc (suc m))) (omega arith) (omega arith) (omega arith)) h₃) λ e₂.
      eq_or (suc q) m (λ e. rw (at3_no q e₀ e₁ e₂, e, at3_0) (h₀ q e)) λ e₃.
      rw (at3_no q e₀ e₁ e₂, at3_no (suc q) e₃ (omega arith) (omega arith)) (h q)

pub put_same : (t : ℕ) (z : ℤ) (c : Chain) → put t z c t ≡ z
unfolding put
put_same t z c = rw eqb_same

pub put_no : (t : ℕ) (z : ℤ) (c : Chain) (i : ℕ) → i ≢ t → put t z c i ≡ c i
unfolding put
put_no t z c i h = rw (ne_eqb i t h)

-- by cases on the place
pub put_each : (t : ℕ) (z : ℤ) (c : Chain) (P : ℕ → ℤ → Type 0) → P t z → ((i : ℕ) → i ≢ t → P i (c i)) → (i : ℕ) → P i (put t z c i)
put_each t z c P here there i = eq_or i t (λ e. rw (e, put_same) here) (λ e. rw (put_no t z c i e) (there i e))

-- where the chain was 0, the change is a sum
pub put_is : (t : ℕ) (z : ℤ) (c : Chain) → c t ≡ pos 0 → put t z c ≡ (λ i. c i +ℤ z *ℤ δ t i)
put_is t z c h = fun_ext (put_each t z c (λ i x. x ≡ c i +ℤ z *ℤ δ t i)
    (rw (h, δ_same, *ℤ_1, +ℤ_idl))
    (λ i e. rw (δ_no t i e, *ℤ-zero, +ℤ_idr)))

-- 0 put where it is 0 changes nothing
pub put-zero : (t : ℕ) (c : Chain) → c t ≡ pos 0 → put t (pos 0) c ≡ c
put-zero t c h = fun_ext (put_each t (pos 0) c (λ i x. x ≡ c i) (sym h) (λ i e. refl))

module _ (p : ℕ → Bool) (v : Chain) where
  -- by cases on whether i is chosen
  pub part_each : (P : ℤ → Type 0) (i : ℕ) → (p i ≡ true → P (v i)) → (p i ≡ false → P (pos 0)) → P (part p v i)
  unfolding part
  part_each P i = by_bool (p i) (λ t. P (cond t (v i) (pos 0)))

  pub rest_each : (P : ℤ → Type 0) (i : ℕ) → (p i ≡ true → P (pos 0)) → (p i ≡ false → P (v i)) → P (rest p v i)
  unfolding rest
  rest_each P i = by_bool (p i) (λ t. P (cond t (pos 0) (v i)))

  pub part-zero : (i : ℕ) → v i ≡ pos 0 → part p v i ≡ pos 0
  part-zero i h = part_each (λ z. z ≡ pos 0) i (λ _. h) (λ _. refl)

  -- the rest is what is left of the whole without the part
  pub rest-is : (i : ℕ) → rest p v i ≡ v i -ℤ part p v i
  unfolding part rest
  rest-is i = by_bool (p i) (λ t. cond t (pos 0) (v i) ≡ v i -ℤ cond t (v i) (pos 0)) (λ _. sym (+ℤ_invr (v i))) (λ _. sym (+ℤ_idr (v i)))

  pub rest_part : (i : ℕ) → rest p v i +ℤ part p v i ≡ v i
  rest_part i = rw (rest-is i, -ℤ-+ℤ_cancel)
