-- Merge: the two cells on either side of t become one, and the layers still fit.
use mathlib.Core.Path.{◌≡◌, refl, sym, ◌∙◌}
use mathlib.Core.Logic.{◌≢◌}
use Prim.Native.Nat.{ℕ, suc, pred, ◌<◌, ◌≤◌}
use native.Mathlib.Omega.{arith}
use lib.IntN.{pos, neg_ℤ, ◌+ℤ◌, ◌-ℤ◌, ◌*ℤ◌, +ℤ_idr, neg_ℤ-neg_ℤ, *ℤ-zero}
use Rattle.maths.specs.Sums.{dot, δ, up}
use Rattle.maths.proofs.Integers.{*ℤ_assoc, one_*ℤ, *ℤ_1, neg_unique, ints}
use Rattle.maths.proofs.Cases.{eq_or}
use Rattle.maths.proofs.Sums.{δ_same, δ_no, up_lt, up_no, up-past, up_other}
use Rattle.maths.proofs.Dots.{dot_same, dot_+l, dot_+r, dot_*l, dot_*r, dot_neg_l, dot-δ_l, dot_up}
use Rattle.rules.specs.Complex.{Layer, Complex}
use Rattle.rules.specs.Edits.{without_column, without_row, merged, merge}
use Rattle.rules.proofs.Layers.Changes.{put_same, put_no}
use Rattle.rules.proofs.Layers.Frame.{same_layer, Fit, Frame, few-at, columns-at}
use Rattle.rules.proofs.Accepting.Allowed.{CanMerge}
use Rattle.rules.proofs.Edits.Fitted.{fitted}
use Rattle.rules.proofs.Edits.Kills.{without_few, without_ground, fit_without_column, fit_without_row}

-- the new layer is the old one without row t and column b, and a column times a row
merged-is : (t a b : ℕ) (D : Layer) → a < b → merged t a b D ≡ record { n = pred D.n; d = λ i j. D.d (up t i) (up b j) +ℤ D.d (up t i) b *ℤ δ a j }
unfolding merged
merged-is t a b D l = same_layer refl λ i j. eq_or j a
    (λ e. rw (e, put_same, δ_same, up_lt b a l, *ℤ_1))
    (λ e. rw (put_no a _ (λ j. D.d (up t i) (up b j)) j e, δ_no a j e, *ℤ-zero, +ℤ_idr))

module _ {k t a b : ℕ} {X : Complex} (F : Frame X) (C : CanMerge k t a b X) where
  -- the row of t
  row_t : (j : ℕ) → (X (suc k)).d t j ≡ (X (suc k)).d t a *ℤ (δ a j -ℤ δ b j)
  row_t j =
      let ab : a ≢ b = omega (arith, C.less) in
      let ba : b ≢ a = omega (arith, C.less) in
      eq_or j a (λ e. rw e (simp (δ_same, δ_no, ints))) λ e.
      eq_or j b (λ f. rw f (simp (δ_same, δ_no, C.opposite, ints))) λ f.
      simp (δ_no, C.only, ints)

  -- the boundary of a boundary is 0 at t
  null_t : (j : ℕ) → (X (suc k)).d t a *ℤ ((X (suc (suc k))).d a j -ℤ (X (suc (suc k))).d b j) ≡ pos 0
  null_t j =
      let few : (X (suc k)).n ≤ 96 = few-at F (suc k) in
      let la : a < 96 = omega (arith, C.less, C.high) in
      let lb : b < 96 = omega (arith, C.high) in
      sym (simp (dot_*l, dot_+l, dot_neg_l, dot-δ_l) at (dot_same 96 {y = λ i. (X (suc (suc k))).d i j} (λ i _. row_t i) (λ i _. refl)))
      ∙ (F.fit (suc k)).null t j

  -- so the rows of a and b above are the same
  pub same_rows : (j : ℕ) → (X (suc (suc k))).d a j ≡ (X (suc (suc k))).d b j
  same_rows j =
      let U = (X (suc (suc k))).d in
      neg_unique (U a j) (neg_ℤ (U b j)) (sym (one_*ℤ _) ∙ rw (← C.unit, *ℤ_assoc, null_t, *ℤ-zero)) ∙ neg_ℤ-neg_ℤ (U b j)

  -- the row of t in the sum of both columns
  sum_t : (j : ℕ) → (X (suc k)).d t (up b j) +ℤ (X (suc k)).d t b *ℤ δ a j ≡ pos 0
  sum_t j = eq_or j a
      (λ e. rw e (simp (up_lt b a C.less, δ_same, C.opposite, ints)))
      (λ e. rw (δ_no a j e, C.only (up b j) (up_other a b j C.less e) (up_no b j), *ℤ-zero))

  fit_merged : Fit (without_column t (X k)) (merged t a b (X (suc k)))
  unfolding without_column
  fit_merged =
      let L = X k in
      let D = X (suc k) in
      let G : Fit L D = F.fit k in
      let few-L : L.n ≤ 96 = few-at F k in
      let few-D : D.n ≤ 96 = few-at F (suc k) in
      let less : a < b = C.less in
      let high : b < D.n = C.high in
      let cell : t < L.n = C.cell in
      rw (merged-is t a b D C.less) (record {
        few = omega arith;
        rows = λ i j h. let z : (j : ℕ) → D.d (up t i) j ≡ pos 0 = λ j. G.rows (up t i) j (up-past t L.n i cell h) in simp (z, ints);
        columns = λ i j h.
            let z : D.d (up t i) (up b j) ≡ pos 0 = G.columns (up t i) (up b j) (up-past b D.n j high h) in
            let e : j ≢ a = let h' : pred D.n ≤ j = h in omega arith in
            simp (z, δ_no, ints);
        null = λ r j.
            simp (sum_t, ints) at (dot_up 96 t (λ i. L.d r i) (λ i. D.d i (up b j) +ℤ D.d i b *ℤ δ a j) (omega arith) (columns-at F k r 96 few-L))
            ∙ simp (dot_+r, dot_*r, G.null, ints);
      })

  fit_above : Fit (merged t a b (X (suc k))) (without_row b (X (suc (suc k))))
  unfolding without_row
  fit_above =
      let D = X (suc k) in
      let U = X (suc (suc k)) in
      let G : Fit D U = F.fit (suc k) in
      let few-D : D.n ≤ 96 = few-at F (suc k) in
      let less : a < b = C.less in
      let high : b < D.n = C.high in
      rw (merged-is t a b D C.less) (record {
        few = G.few;
        rows = λ i j h. G.rows (up b i) j (up-past b D.n i high h);
        columns = λ i j h. G.columns (up b i) j h;
        null = λ r j.
            let la : a < 96 = omega arith in
            let g : dot 96 (λ i. D.d (up t r) (up b i)) (λ i. U.d (up b i) j) +ℤ D.d (up t r) b *ℤ U.d (up b a) j ≡ pos 0 =
            rw (up_lt b a less, same_rows j)
            (dot_up 96 b (λ i. D.d (up t r) i) (λ i. U.d i j) (omega arith) (columns-at F (suc k) (up t r) 96 few-D) ∙ G.null (up t r) j) in
            simp (dot_+l, dot_*l, dot-δ_l) g;
      })

  pub merge_frame : Frame (merge k t a b X)
  unfolding merge merged without_row
  merge_frame =
      let dim : k < 3 = C.dim in
      fitted F (record {
        few = without_few t (X k) (few-at F k);
        ground = λ e. without_ground t (X k) (rw e F.ground);
        below = λ q e. fit_without_column t (X k) (X q) C.cell (rw (← e) (F.fit q));
        here = fit_merged;
        above = fit_above;
        over = fit_without_row b (X (suc (suc k))) (X (suc (suc (suc k)))) (F.fit (suc (suc k)));
        top = λ l. absurd (omega arith);
        top_above = λ l. absurd (omega arith);
        top-over = F.top (suc (suc k));
      })
