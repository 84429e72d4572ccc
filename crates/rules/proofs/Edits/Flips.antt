-- Flip: a cell's sign changes, in its column and in its row. The layers still fit, and chains are carried.
use mathlib.Core.Path.{◌≡◌, refl, sym, ◌∙◌, ap, fun_ext}
use Prim.Native.Nat.{ℕ, suc}
use lib.IntN.{ℤ, pos, negsuc, ◌*ℤ◌}
use Rattle.maths.specs.Sums.{dot}
use Rattle.maths.proofs.Integers.{*ℤ_assoc, *ℤ_left_comm, one_*ℤ, minus_one_*ℤ, ints}
use Rattle.maths.proofs.Cases.{eq_or}
use Rattle.maths.proofs.Dots.{dot_*l, dot_*front}
use Rattle.rules.specs.Complex.{Layer, Complex, Chain}
use Rattle.rules.specs.Edits.{Step, kept, layers, put, boundary, negated, flip}
use Rattle.rules.proofs.Layers.Changes.{put_same, put_no, put_each}
use Rattle.rules.proofs.Layers.Frame.{Fit, Frame, few-at}
use Rattle.rules.proofs.Edits.Fitted.{fitted_layers}
use Rattle.rules.proofs.Edits.Carries.{Carries, Keeps, kept_keeps, at3_carries}

-- -1 at c and 1 elsewhere
unfoldable signs : ℕ → Chain
signs c = put c (negsuc 0) (λ i. pos 1)

signs_twice : (c i : ℕ) (x : ℤ) → signs c i *ℤ (signs c i *ℤ x) ≡ x
unfolding signs
signs_twice c i x = rw (← (*ℤ_assoc (signs c i) (signs c i) x)) (put_each c (negsuc 0) (λ i. pos 1) (λ i y. (y *ℤ y) *ℤ x ≡ x) (one_*ℤ x) (λ i e. one_*ℤ x) i)

-- to negate the coefficient of c is to multiply by these signs
negated-at : (c : ℕ) (v : Chain) (i : ℕ) → negated c v i ≡ signs c i *ℤ v i
unfolding negated signs
negated-at c v i = eq_or i c
    (λ e. rw e (simp (put_same, minus_one_*ℤ)))
    (λ e. rw (put_no c _ v i e, put_no c (negsuc 0) (λ i. pos 1) i e, one_*ℤ))

negated_twice : (c : ℕ) (v : Chain) → negated c (negated c v) ≡ v
negated_twice c v = fun_ext λ i. simp (negated-at, signs_twice)

-- the two signs of a product cancel
signs_pair : (c i : ℕ) (x y : ℤ) → (signs c i *ℤ x) *ℤ (signs c i *ℤ y) ≡ x *ℤ y
signs_pair c i x y = rw (*ℤ_assoc (signs c i) x (signs c i *ℤ y), *ℤ_left_comm x (signs c i) y, signs_twice)

dot_signs : (n c : ℕ) (x y : Chain) → dot n (λ i. signs c i *ℤ x i) (λ i. signs c i *ℤ y i) ≡ dot n (λ i. x i) (λ i. y i)
unfolding dot
dot_signs n c x y = simp signs_pair

abbrev flipped : ℕ → Layer → Step
flipped c A = record { layer = record { n = A.n; d = λ i. negated c (A.d i) }; carried = negated c }

abbrev flipped_row_lem : ℕ → Layer → Layer
flipped_row_lem c B = record { n = B.n; d = λ i j. negated c (λ i. B.d i j) i }

module _ (c : ℕ) where
  fit_flipped : (K A : Layer) → Fit K A → Fit K (flipped c A).layer
  fit_flipped K A F = record {
    few = F.few;
    rows = λ i j l. rw negated-at (simp (F.rows, ints));
    columns = λ i j l. rw negated-at (simp (F.columns, ints));
    null = λ r j. simp (negated-at, dot_*front, F.null, ints);
  }

  fit_both : (A B : Layer) → Fit A B → Fit (flipped c A).layer (flipped_row_lem c B)
  fit_both A B F = record {
    few = F.few;
    rows = λ i j l. rw negated-at (simp (F.rows, ints));
    columns = λ i j l. rw negated-at (simp (F.columns, ints));
    null = λ r j. simp (negated-at, dot_signs, F.null);
  }

  fit_row : (B W : Layer) → Fit B W → Fit (flipped_row_lem c B) W
  fit_row B W F = record { few = F.few; rows = F.rows; columns = F.columns; null = λ r j. simp (negated-at, dot_*l, F.null, ints) }

  flipped_keeps : (A : Layer) → Keeps A (flipped c A)
  flipped_keeps A = record {
    within = λ v w i l. rw (negated-at, w i l) (simp ints);
    faithful = λ v v' w w' h i. ap (λ f. f i) (sym (negated_twice c v) ∙ ap (negated c) (fun_ext h) ∙ negated_twice c v');
  }

pub flip_frame : (k c : ℕ) {X : Complex} → Frame X → Frame (layers (flip k c X))
unfolding flip
flip_frame k c {X} F = fitted_layers (flipped c (X k)) (kept (flipped_row_lem c (X (suc k)))) (kept (X (suc (suc k)))) F (record {
  few = few-at F k;
  ground = λ e i j. rw negated-at (rw e (simp (F.ground, ints)));
  below = λ q e. fit_flipped c (X q) (X k) (rw (← e) (F.fit q));
  here = fit_both c (X k) (X (suc k)) (F.fit k);
  above = fit_row c (X (suc k)) (X (suc (suc k))) (F.fit (suc k));
  over = F.fit (suc (suc k));
  top = F.top k;
  top_above = F.top (suc k);
  top-over = F.top (suc (suc k));
})

pub flip_carries : (k c : ℕ) (X : Complex) → Carries X (flip k c X)
unfolding flip boundary
flip_carries k c X = at3_carries (flipped c (X k)) (kept (flipped_row_lem c (X (suc k)))) (kept (X (suc (suc k))))
    (flipped_keeps c (X k))
    (kept_keeps (X (suc k)) (flipped_row_lem c (X (suc k))) refl)
    (kept_keeps _ (X (suc (suc k))) refl)
    (λ q e v w r. simp (negated-at, dot_signs))
    (λ v w r. simp (negated-at, dot_*l))
    (λ v w r. refl)
    (λ v w r. refl)
