-- The Euler number: an alternating sum over the dimensions, what each operator adds to it by the table of amounts, and how large it is.
use mathlib.Core.Path.{◌≡◌, refl, sym, ◌∙◌, ap}
use mathlib.Core.Bool.{Bool}
use Prim.Native.Nat.{ℕ, zero, suc, pred, ◌<◌, ◌≤◌}
use native.Mathlib.Numerals.{add-one}
use native.Mathlib.Omega.{arith}
use borrow.Author.Tests.{lt-ltb, le-ltb}
use lib.IntN.{ℤ, pos, negsuc, neg_ℤ, nat_abs, ◌+ℤ◌, ◌-ℤ◌, ◌*ℤ◌, +ℤ_idr, +ℤ_assoc, +ℤ-neg_ℤ_cancel}
use Rattle.maths.specs.Sums.{sum, dot, δ}
use Rattle.maths.proofs.Integers.{*ℤ_distr_r, ints}
use Rattle.maths.proofs.Cases.{lt_or}
use Rattle.maths.proofs.Sums.{δ_same, δ_no}
use Rattle.maths.proofs.Dots.{dot_+r, dot_*front, dot-δ_r}
use Rattle.maths.proofs.Sizes.{add_size}
use Rattle.rules.specs.Complex.{Layer, Complex, Chain, euler}
use Rattle.rules.specs.Edits.{layers, at3, make, kill, without_column, without_row, split, divider, halves, repeated, merge, merged, flip}
use Rattle.rules.specs.Operators.{amount_at}
use Rattle.rules.proofs.Layers.Changes.{at3_each}
use Rattle.rules.proofs.Accepting.Allowed.{CanKill, CanMerge}
use Rattle.rules.proofs.Edits.Fitted.{layers-at3}

-- 1 for even dimensions, -1 for odd
unfoldable pub sign : ℕ → ℤ
sign zero = pos 1
sign (suc k) = neg_ℤ (sign k)

sign-suc : (k : ℕ) → sign (suc k) ≡ neg_ℤ (sign k)
unfolding sign
sign-suc k = refl

euler-is : (X : Complex) → euler X ≡ dot 4 (λ k. sign k) (λ k. pos (X k).n)
unfolding euler dot sum sign
euler-is X = simp ints

-- the counts of the dimensions k and k + 1 change by x and y
module _ (X : Complex) (k : ℕ) (A B U : Layer) (x y : ℤ)
    (here : pos A.n ≡ pos (X k).n +ℤ x) (above : pos B.n ≡ pos (X (suc k)).n +ℤ y) (over : U.n ≡ (X (suc (suc k))).n) where
  counts : (q : ℕ) → pos (at3 k X A B U q).n ≡ pos (X q).n +ℤ (x *ℤ δ k q +ℤ y *ℤ δ (suc k) q)
  counts = at3_each k X A B U (λ q L. pos L.n ≡ pos (X q).n +ℤ (x *ℤ δ k q +ℤ y *ℤ δ (suc k) q))
      (λ q e₀ e₁ e₂. simp (δ_no, ints))
      (rw (here, δ_same, δ_no (suc k) k (omega arith)) (simp ints))
      (rw (above, δ_same, δ_no k (suc k) (omega arith)) (simp ints))
      (rw (over, δ_no k (suc (suc k)) (omega arith), δ_no (suc k) (suc (suc k)) (omega arith)) (simp ints))

  -- a block has nothing above it
  euler-at3 : k ≤ 3 → (3 ≤ k → y ≡ pos 0) → euler (at3 k X A B U) ≡ euler X +ℤ (x -ℤ y) *ℤ sign k
  euler-at3 l top =
      let l' : k < 4 = omega arith in
      rw (euler-is X, euler-is (at3 k X A B U)) (simp (counts, dot_+r, dot_*front, dot-δ_r)
      (lt_or (suc k) 4
      (λ h. simp (dot-δ_r, sign-suc, *ℤ_distr_r, ints))
      (λ h. rw (top (omega arith)) (simp ints))))

-- one more, one less, the same
more : (n : ℕ) → pos (suc n) ≡ pos n +ℤ pos 1
more n = ap pos (sym (add-one n))

less : {t : ℕ} (n : ℕ) → t < n → pos (pred n) ≡ pos n +ℤ negsuc 0
less zero l = absurd (omega arith)
less (suc n) l = sym (+ℤ-neg_ℤ_cancel (pos n) (pos 1)) ∙ ap (λ z. z -ℤ pos 1) (sym (more n))

same : (n : ℕ) → pos n ≡ pos n +ℤ pos 0
same n = sym (+ℤ_idr (pos n))

-- what holds at 0, 1, 2 and 3 holds up to 3
each : (P : ℕ → Type 0) → P 0 → P 1 → P 2 → P 3 → (k : ℕ) → k ≤ 3 → P k
each P p₀ p₁ p₂ p₃ zero l = p₀
each P p₀ p₁ p₂ p₃ (suc zero) l = p₁
each P p₀ p₁ p₂ p₃ (suc (suc zero)) l = p₂
each P p₀ p₁ p₂ p₃ (suc (suc (suc zero))) l = p₃
each P p₀ p₁ p₂ p₃ (suc (suc (suc (suc k)))) l = absurd (omega arith)

-- the table, row by row
pub amount_make : (k : ℕ) → k ≤ 3 → amount_at 0 k ≡ sign k
unfolding sign
amount_make = each (λ k. amount_at 0 k ≡ sign k) refl refl refl refl

pub amount_kill : (k : ℕ) → k ≤ 3 → amount_at 1 k ≡ neg_ℤ (sign k)
unfolding sign
amount_kill = each (λ k. amount_at 1 k ≡ neg_ℤ (sign k)) refl refl refl refl

pub amount_split : (k : ℕ) → k ≤ 3 → amount_at 2 k ≡ pos 0
amount_split = each (λ k. amount_at 2 k ≡ pos 0) refl refl refl refl

pub amount_merge : (k : ℕ) → k ≤ 3 → amount_at 3 k ≡ pos 0
amount_merge = each (λ k. amount_at 3 k ≡ pos 0) refl refl refl refl

pub amount_flip : (k : ℕ) → k ≤ 3 → amount_at 4 k ≡ pos 0
amount_flip = each (λ k. amount_at 4 k ≡ pos 0) refl refl refl refl

-- what each operator adds
pub make-euler : (k : ℕ) (v : Chain) (X : Complex) → k ≤ 3 → euler (layers (make k v X)) ≡ euler X +ℤ amount_at 0 k
unfolding make
make-euler k v X l =
    rw (layers-at3 X k _ _ _, amount_make k l)
    (euler-at3 X k _ _ _ (pos 1) (pos 0) (more _) (same _) refl l (λ _. refl) ∙ simp ints)

pub kill-euler : {k c : ℕ} {X : Complex} → CanKill k c X → euler (kill k c X) ≡ euler X +ℤ amount_at 1 k
unfolding kill without_column without_row
kill-euler {k} {c} {X} C =
    rw (amount_kill k C.dim)
    (euler-at3 X k _ _ _ (negsuc 0) (pos 0) (less _ C.cell) (same _) refl C.dim (λ _. refl) ∙ simp ints)

pub split-euler : (m s : ℕ) (p : ℕ → Bool) (X : Complex) → m < 3 → euler (layers (split m s p X)) ≡ euler X +ℤ amount_at 2 (suc m)
unfolding split divider halves repeated
split-euler m s p X l =
    rw (layers-at3 X m _ _ _, amount_split (suc m) l)
    (euler-at3 X m _ _ _ (pos 1) (pos 1) (more _) (more _) refl (omega arith) (λ h. absurd (omega arith)) ∙ simp ints)

pub merge-euler : {k t a b : ℕ} {X : Complex} → CanMerge k t a b X → euler (merge k t a b X) ≡ euler X +ℤ amount_at 3 k
unfolding merge without_column merged without_row
merge-euler {k} {t} {a} {b} {X} C =
    let dim : k < 3 = C.dim in
    rw (amount_merge k (omega arith))
    (euler-at3 X k _ _ _ (negsuc 0) (negsuc 0) (less _ C.cell) (less _ C.high) refl (omega arith) (λ h. absurd (omega arith)) ∙ simp ints)

pub flip-euler : (k c : ℕ) (X : Complex) → k ≤ 3 → euler (layers (flip k c X)) ≡ euler X +ℤ amount_at 4 k
unfolding flip
flip-euler k c X l =
    rw (layers-at3 X k _ _ _, amount_flip k l)
    (euler-at3 X k _ _ _ (pos 0) (pos 0) (same _) (same _) refl l (λ _. refl) ∙ simp ints)

-- of two numbers up to k, the one less the other
difference_size : (a b k : ℕ) → a ≤ k → b ≤ k → nat_abs (pos a -ℤ pos b) ≤ k
difference_size a zero k h l = omega arith
difference_size a (suc b) k h l = lt_or a (suc b) (λ e. rw (lt-ltb a (suc b) e) (omega arith)) (λ e. rw (le-ltb a (suc b) e) (omega arith))

pub euler-size : (X : Complex) → ((k : ℕ) → (X k).n ≤ 96) → nat_abs (euler X) ≤ 192
unfolding euler
euler-size X few =
    let n : ℕ → ℤ = λ k. pos (X k).n in
    rw (+ℤ_assoc (n 0 -ℤ n 1) (n 2) (neg_ℤ (n 3)))
    (omega (arith, add_size (n 0 -ℤ n 1) (n 2 -ℤ n 3), difference_size (X 0).n (X 1).n 96 (few 0) (few 1), difference_size (X 2).n (X 3).n 96 (few 2) (few 3)))
