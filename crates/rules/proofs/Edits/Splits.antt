-- Split: the layers still fit, and chains are carried.
use mathlib.Core.Path.{◌≡◌, refl, sym, ◌∙◌}
use mathlib.Core.Logic.{◌≢◌}
use mathlib.Core.Bool.{Bool}
use Prim.Native.Nat.{ℕ, suc, ◌<◌, ◌≤◌}
use native.Mathlib.Omega.{arith}
use lib.IntN.{pos, ◌+ℤ◌, ◌*ℤ◌}
use Rattle.maths.specs.Sums.{dot, δ}
use Rattle.maths.proofs.Integers.{*ℤ_distr_r, *ℤ_distr_l, sorted, ints}
use Rattle.maths.proofs.Cases.{eq_or}
use Rattle.maths.proofs.Sums.{δ_same, δ_no}
use Rattle.maths.proofs.Dots.{dot_+l, dot_+r, dot_*l, dot_*r, dot_neg_l, dot_neg_r, dot-δ_l, dot-δ_r, dot_0_l, dot_assoc}
use Rattle.rules.specs.Complex.{Layer, Complex, Chain}
use Rattle.rules.specs.Edits.{Step, kept, layers, put, boundary, part, divider, halves, repeated, split}
use Rattle.rules.proofs.Layers.Changes.{put_no, put-zero, part-zero}
use Rattle.rules.proofs.Layers.Frame.{Fit, Frame, columns-at}
use Rattle.rules.proofs.Accepting.Allowed.{CanSplit}
use Rattle.rules.proofs.Edits.SplitRows.{put_front, halves_are, repeated_is}
use Rattle.rules.proofs.Edits.Fitted.{fitted_layers}
use Rattle.rules.proofs.Edits.Carries.{Carries, Keeps, Maps, kept_keeps, at3_carries}
use Rattle.rules.proofs.Edits.Makes.{added, added_is, added_ground, added_below, added_keeps, added_maps}

pub boundary_0 : (A : Layer) (c : Chain) (r : ℕ) → ((j : ℕ) → A.d r j ≡ pos 0) → boundary A c r ≡ pos 0
unfolding boundary
boundary_0 A c r h = dot_0_l 96 _ (λ j l. h j)

-- a boundary has no boundary
boundary-closed : (K A : Layer) (c : Chain) → Fit K A → (r : ℕ) → dot 96 (λ i. K.d r i) (λ i. boundary A c i) ≡ pos 0
unfolding boundary
boundary-closed K A c F r = simp (dot_assoc, F.null) (dot_0_l 96 _ (λ j l. refl))

-- the boundary of the divider of s, a cell of D
abbrev border : ℕ → (ℕ → Bool) → Layer → Layer → Chain
border s p L D = boundary L (part p (λ f. D.d f s))

-- D with s divided, and a coefficient of s for both
abbrev halved : ℕ → (ℕ → Bool) → Layer → Layer → Step
halved s p L D = record { layer = halves s p L D; carried = λ c. put D.n (c s) c }

-- what a split of cell s needs of the three layers that it changes
record Room (s : ℕ) (L D U : Layer) : Type 0 where
  columns : (i j : ℕ) → L.n ≤ j → L.d i j ≡ pos 0
  here : Fit L D
  above : Fit D U
  cell : s < D.n
  room-below : L.n < 96
  room : D.n < 96

module _ (s : ℕ) (p : ℕ → Bool) (L D U : Layer) (R : Room s L D U) where
  left_0 : (r : ℕ) → L.d r L.n ≡ pos 0
  left_0 r = R.columns r L.n (omega arith)

  row_0 : (j : ℕ) → D.d L.n j ≡ pos 0
  row_0 j = R.here.rows L.n j (omega arith)

  column_0 : (i : ℕ) → D.d i D.n ≡ pos 0
  column_0 i = R.here.columns i D.n (omega arith)

  above_0 : (j : ℕ) → U.d D.n j ≡ pos 0
  above_0 j = R.above.rows D.n j (omega arith)

  other : s ≢ D.n
  other = omega arith

  divider-is : (r i : ℕ) → (divider s p L D).d r i ≡ L.d r i +ℤ dot 96 (λ i. L.d r i) (λ i. part p (λ i. D.d i s) i) *ℤ δ L.n i
  unfolding divider boundary
  divider-is = added_is (border s p L D) L R.columns R.room-below

  fit_halves : Fit (divider s p L D) (halves s p L D)
  unfolding divider
  fit_halves = rw (halves_are s p L D row_0 column_0 other) (record {
    few = R.room;
    rows = λ i j h.
        let z : (j : ℕ) → D.d i j ≡ pos 0 = λ j. R.here.rows i j (omega arith) in
        let e : i ≢ L.n = omega arith in
        simp (z, δ_no, part-zero, ints);
    columns = λ i j h.
        let z : D.d i j ≡ pos 0 = R.here.columns i j (omega arith) in
        let e : j ≢ s = omega (arith, R.cell) in
        let e' : j ≢ D.n = omega arith in
        simp (z, δ_no, ints);
    null = λ r j.
        let l : L.n < 96 = R.room-below in
        simp (divider-is, R.here.null, dot_+l, dot_*l, dot_+r, dot_*r, dot_neg_r, dot-δ_r, dot-δ_l, left_0, row_0, part-zero, δ_same, ints) (simp (*ℤ_distr_r, *ℤ_distr_l, sorted, ints));
  })

  fit_repeated : Fit (halves s p L D) (repeated s D U)
  fit_repeated = rw (halves_are s p L D row_0 column_0 other, repeated_is s D U above_0) (record {
    few = R.above.few;
    rows = λ i j h.
        let z : U.d i j ≡ pos 0 = R.above.rows i j (omega arith) in
        let e : i ≢ D.n = omega arith in
        simp (z, δ_no, ints);
    columns = λ i j h. simp (R.above.columns, ints);
    null = λ r j.
        let l : s < 96 = omega arith in
        let l' : D.n < 96 = R.room in
        let e : D.n ≢ s = omega arith in
        simp (R.above.null, dot_+l, dot_*l, dot_+r, dot_*r, dot_neg_l, dot-δ_r, dot-δ_l, column_0, above_0, δ_same, δ_no, ints) (simp (*ℤ_distr_r, *ℤ_distr_l, sorted, ints));
  })

  fit_over : (W : Layer) → Fit U W → Fit (repeated s D U) W
  fit_over W F = rw (repeated_is s D U above_0) (record { few = F.few; rows = F.rows; columns = F.columns; null = λ r j. simp (dot_+l, dot_*l, F.null, ints) })

  halves_keeps : Keeps D (halved s p L D)
  unfolding halves
  halves_keeps = record {
    within = λ c w i l. rw (put_no D.n (c s) c i (omega arith)) (w i (omega arith));
    faithful = λ c c' w w' h i. eq_or i D.n
        (λ e. rw e (w D.n (omega arith) ∙ sym (w' D.n (omega arith))))
        (λ e. rw (put_no D.n (c s) c i e, put_no D.n (c' s) c' i e) at (h i));
  }

  maps_halves : Maps (added (border s p L D) L) D (halved s p L D)
  unfolding boundary
  maps_halves c w r =
      let z : c D.n ≡ pos 0 = w D.n (omega arith) in
      let l : s < 96 = omega arith in
      let l' : D.n < 96 = R.room in
      let e : D.n ≢ s = omega arith in
      rw (put-zero L.n (boundary D c) (boundary_0 D c L.n row_0), put_front D.n (c s) c z, halves_are s p L D row_0 column_0 other)
      (simp (dot_+l, dot_*l, dot_+r, dot_*r, dot_neg_l, dot-δ_r, dot-δ_l, δ_same, δ_no, z, column_0, ints) (simp (*ℤ_distr_r, *ℤ_distr_l, sorted, ints)))

  maps_repeated : Maps (halved s p L D) U (kept (repeated s D U))
  unfolding boundary
  maps_repeated c w r = rw (put_front D.n (boundary U c s) (boundary U c) (boundary_0 U c D.n above_0), repeated_is s D U above_0) (simp (dot_+l, dot_*l))

module _ {m s : ℕ} {p : ℕ → Bool} {X : Complex} (F : Frame X) (C : CanSplit m s p X) where
  abbrev L : Layer
  L = X m

  abbrev D : Layer
  D = X (suc m)

  abbrev U : Layer
  U = X (suc (suc m))

  the_room : Room s L D U
  the_room = record { columns = columns-at F m; here = F.fit m; above = F.fit (suc m); cell = C.cell; room-below = C.room-below; room = C.room }

  pub split_frame : Frame (layers (split m s p X))
  unfolding split divider repeated
  split_frame =
      let dim : m < 3 = C.dim in
      let v = border s p L D in
      fitted_layers (added v L) (halved s p L D) (kept (repeated s D U)) F (record {
        few = C.room-below;
        ground = λ e.
            let z : (i j : ℕ) → L.d i j ≡ pos 0 = rw e F.ground in
            added_ground v L (columns-at F m) C.room-below z (λ i. boundary_0 L _ i (z i));
        below = λ q e.
            let G : Fit (X q) L = rw (← e) (F.fit q) in
            added_below v L (columns-at F m) C.room-below (X q) G (λ i l. boundary_0 L _ i (λ j. G.rows i j l)) (boundary-closed (X q) L _ G);
        here = fit_halves s p L D U the_room;
        above = fit_repeated s p L D U the_room;
        over = fit_over s p L D U the_room (X (suc (suc (suc m)))) (F.fit (suc (suc m)));
        top = λ l. absurd (omega arith);
        top_above = λ l. absurd (omega arith);
        top-over = λ l. F.top (suc (suc m)) l;
      })

  pub split_carries : Carries X (split m s p X)
  unfolding split divider repeated
  split_carries =
      let v = border s p L D in
      at3_carries (added v L) (halved s p L D) (kept (repeated s D U))
      (added_keeps v L (columns-at F m) C.room-below)
      (halves_keeps s p L D U the_room)
      (kept_keeps U (repeated s D U) refl)
      (λ q e. added_maps v L (columns-at F m) C.room-below (X q))
      (maps_halves s p L D U the_room)
      (maps_repeated s p L D U the_room)
      (λ c w r. refl)
