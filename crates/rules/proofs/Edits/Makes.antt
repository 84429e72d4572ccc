-- Make: one more cell in a layer, and what comes of it. The layers still fit, and chains are carried.
use mathlib.Core.Path.{◌≡◌, refl, ap}
use mathlib.Core.Logic.{◌≢◌}
use Prim.Native.Nat.{ℕ, suc, ◌<◌, ◌≤◌}
use native.Mathlib.Omega.{arith}
use lib.IntN.{pos, ◌+ℤ◌, ◌*ℤ◌}
use Rattle.maths.specs.Sums.{dot, δ}
use Rattle.maths.proofs.Integers.{ints}
use Rattle.maths.proofs.Sums.{δ_no}
use Rattle.maths.proofs.Dots.{dot_+l, dot_+r, dot_*l, dot_*r, dot-δ_l, dot_0_l}
use Rattle.rules.specs.Complex.{Layer, Complex, Chain}
use Rattle.rules.specs.Edits.{Step, kept, layers, put, boundary, make}
use Rattle.rules.proofs.Layers.Changes.{at3_0, at3_each, put_is, put-zero}
use Rattle.rules.proofs.Layers.Frame.{Within, Fit, Frame, columns-at}
use Rattle.rules.proofs.Accepting.Allowed.{CanMake}
use Rattle.rules.proofs.Edits.Fitted.{fitted_layers}
use Rattle.rules.proofs.Edits.Carries.{Carries, Keeps, Maps, kept_keeps, at3_carries}

-- A with one more cell, of the boundary v, and 0 for it in a chain
abbrev pub added : Chain → Layer → Step
added v A = record { layer = record { n = suc A.n; d = λ i. put A.n (v i) (A.d i) }; carried = put A.n (pos 0) }

module _ (v : Chain) (A : Layer) (columns : (i j : ℕ) → A.n ≤ j → A.d i j ≡ pos 0) (room : A.n < 96) where
  -- the matrix is the old one and a column times a row
  pub added_is : (i j : ℕ) → put A.n (v i) (A.d i) j ≡ A.d i j +ℤ v i *ℤ δ A.n j
  added_is i j = ap (λ f. f j) (put_is A.n (v i) (A.d i) (columns i A.n (omega arith)))

  pub added_ground : ((i j : ℕ) → A.d i j ≡ pos 0) → ((i : ℕ) → v i ≡ pos 0) → (i j : ℕ) → (added v A).layer.d i j ≡ pos 0
  added_ground z h i j = rw added_is (simp (z, h, ints))

  pub added_below : (K : Layer) → Fit K A → Within K.n v → ((r : ℕ) → dot 96 (λ i. K.d r i) (λ i. v i) ≡ pos 0) → Fit K (added v A).layer
  added_below K F w closed = record {
    few = room;
    rows = λ i j l. rw added_is (simp (F.rows, w, ints));
    columns = λ i j l. let k : A.n ≤ j = omega arith in let e : j ≢ A.n = omega arith in simp (added_is, columns, δ_no, ints);
    null = λ r j. simp (added_is, dot_+r, dot_*r, F.null, closed, ints);
  }

  added_above : (B : Layer) → Fit A B → Fit (added v A).layer B
  added_above B F = record {
    few = F.few;
    rows = λ i j l. F.rows i j (omega arith);
    columns = F.columns;
    null = λ r j. let z : B.d A.n j ≡ pos 0 = F.rows A.n j (omega arith) in simp (added_is, dot_+l, dot_*l, dot-δ_l, F.null, z, ints);
  }

  pub added_keeps : Keeps A (added v A)
  added_keeps = record {
    within = λ c w i l. rw (put-zero A.n c (w A.n (omega arith))) (w i (omega arith));
    faithful = λ c c' w w' h. rw (put-zero A.n c (w A.n (omega arith)), put-zero A.n c' (w' A.n (omega arith))) at h;
  }

  -- the boundary of a chain of A is what it was
  pub added_maps : (K : Layer) → Maps (kept K) A (added v A)
  unfolding boundary
  added_maps K c w r =
      let z : c A.n ≡ pos 0 = w A.n (omega arith) in
      rw (put-zero A.n c z) (simp (added_is, dot_+l, dot_*l, dot-δ_l, z, ints))

  added_maps_above : (B : Layer) → Fit A B → Maps (added v A) B (kept B)
  unfolding boundary
  added_maps_above B F c w r = rw (put-zero A.n (boundary B c) (dot_0_l 96 _ (λ j l. F.rows A.n j (omega arith))))

-- the layers after a cell is made
module _ (k : ℕ) (v : Chain) (X : Complex) where
  pub make-here : layers (make k v X) k ≡ record { n = suc (X k).n; d = λ i. put (X k).n (v i) ((X k).d i) }
  unfolding make
  make-here = ap (λ S. S.layer) (at3_0 k (λ q. kept (X q)) _ _ _)

  pub make_other : (q : ℕ) → q ≢ k → layers (make k v X) q ≡ X q
  unfolding make
  make_other = at3_each k (λ q. kept (X q)) _ _ _ (λ q S. q ≢ k → S.layer ≡ X q) (λ q _ _ _ _. refl) (λ n. absurd (n refl)) (λ _. refl) (λ _. refl)

module _ {k : ℕ} {v : Chain} {X : Complex} (F : Frame X) (C : CanMake k v X) where
  pub make_frame : Frame (layers (make k v X))
  unfolding make
  make_frame =
      let dim : k ≤ 3 = C.dim in
      fitted_layers (added v (X k)) (kept (X (suc k))) (kept (X (suc (suc k)))) F (record {
        few = C.room;
        ground = λ e. added_ground v (X k) (columns-at F k) C.room (rw e F.ground) (C.corner e);
        below = λ q e. added_below v (X k) (columns-at F k) C.room (X q) (rw (← e) (F.fit q)) (C.faces q e) (C.closed q e);
        here = added_above v (X k) (columns-at F k) C.room (X (suc k)) (F.fit k);
        above = F.fit (suc k);
        over = F.fit (suc (suc k));
        top = λ l. absurd (omega arith);
        top_above = F.top (suc k);
        top-over = F.top (suc (suc k));
      })

  pub make_carries : Carries X (make k v X)
  unfolding make
  make_carries = at3_carries (added v (X k)) (kept (X (suc k))) (kept (X (suc (suc k))))
      (added_keeps v (X k) (columns-at F k) C.room)
      (kept_keeps _ (X (suc k)) refl)
      (kept_keeps _ (X (suc (suc k))) refl)
      (λ q e. added_maps v (X k) (columns-at F k) C.room (X q))
      (added_maps_above v (X k) (columns-at F k) C.room (X (suc k)) (F.fit k))
      (λ c w r. refl)
      (λ c w r. refl)
