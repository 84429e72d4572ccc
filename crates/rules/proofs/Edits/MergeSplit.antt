-- The merge at the divider of a split: it is accepted, and leaves every layer as it was before the split.
use mathlib.Core.Path.{◌≡◌, refl, sym, ◌∙◌, fun_ext}
use mathlib.Core.Logic.{◌≢◌}
use mathlib.Core.Bool.{Bool}
use Prim.Native.Nat.{ℕ, suc, ◌<◌}
use native.Mathlib.Omega.{arith}
use borrow.Author.Tests.{lt-ltb}
use lib.IntN.{ℤ, pos, ◌+ℤ◌}
use Rattle.maths.specs.Sums.{up}
use Rattle.maths.proofs.Cases.{eq_or, no_eq}
use Rattle.maths.proofs.Sums.{up_lt, up_no, up_other, up_end}
use Rattle.rules.specs.Complex.{Layer, Complex, Chain}
use Rattle.rules.specs.Good.{Good}
use Rattle.rules.specs.Edits.{layers, at3, put, divider, halves, repeated, split, without_column, without_row, merged, merge}
use Rattle.rules.specs.Operators.{removed, merge_step}
use Rattle.rules.proofs.Layers.Changes.{at3_0, at3_1, at3_2, at3_no, at3_each, put_same, put_no, part_each, rest_each}
use Rattle.rules.proofs.Layers.Frame.{same_layer}
use Rattle.rules.proofs.Layers.Judged.{one_each_is}
use Rattle.rules.proofs.Accepting.Allowed.{CanSplit}
use Rattle.rules.proofs.Accepting.Shared.{share_only_is}
use Rattle.rules.proofs.Accepting.Accepted.{merge-step-is}
use Rattle.rules.proofs.Edits.Fitted.{layers-at3}
use Rattle.rules.proofs.Layers.Seams.{Ends, one_each_of}
use Rattle.rules.proofs.Accepting.Sides.{head_first, higher-is, lower-is}
use Rattle.rules.proofs.Cells.SplitCells.{outer, inner, halves-columns, halves-sum, no_row, good-split}

-- a chain with x at a and y at b, where x + y was at a: their sum at a, and b closed up
put_back : (a b : ℕ) (x y : ℤ) (c : Chain) → a < b → x +ℤ y ≡ c a → (j : ℕ) →
    put a (put a x (put b y c) a +ℤ put a x (put b y c) b) (λ j. put a x (put b y c) (up b j)) j ≡ c (up b j)
put_back a b x y c l e j = eq_or j a
    (λ f. rw (f, put_same a _ (λ j. put a x (put b y c) (up b j)), put_same, put_no a x (put b y c) b (omega arith), put_same, e, up_lt b a l))
    (λ f. rw (put_no a _ (λ j. put a x (put b y c) (up b j)) j f, put_no a x (put b y c) (up b j) (up_other a b j l f), put_no b y c (up b j) (up_no b j)))

module _ {m s : ℕ} {p : ℕ → Bool} {X : Complex} (G : Good X) (C : CanSplit m s p X) where
  abbrev L : Layer
  L = X m

  abbrev D : Layer
  D = X (suc m)

  abbrev U : Layer
  U = X (suc (suc m))

  abbrev Y : Complex
  Y = layers (split m s p X)

  split-is : layers (split m s p X) ≡ at3 m X (divider s p L D) (halves s p L D) (repeated s D U)
  unfolding split
  split-is = layers-at3 X m _ _ _

  below : (Y m).n ≡ suc L.n
  unfolding divider
  below = rw (split-is, at3_0)

  entry : (i j : ℕ) → (Y (suc m)).d i j ≡ put s (outer s p L D i) (put D.n (inner s p L D i) (D.d i)) j
  entry i j = rw (split-is, at3_1, halves-columns s p L D (no_row G C))

  at_s : (i : ℕ) → (Y (suc m)).d i s ≡ outer s p L D i
  at_s i = entry i s ∙ put_same s _ _

  at_s' : (i : ℕ) → (Y (suc m)).d i D.n ≡ inner s p L D i
  at_s' i = entry i D.n ∙ put_no s _ _ D.n (omega (arith, C.cell)) ∙ put_same D.n _ _

  -- the row of the divider is 1 at s and -1 at s'
  row : Ends (λ j. (Y (suc m)).d L.n j) D.n s
  row = record {
    apart = omega (arith, C.cell);
    low = C.room;
    high = omega (arith, C.cell, C.room);
    tail = at_s' L.n ∙ put_same L.n _ _;
    head = at_s L.n ∙ put_same L.n _ _;
    only = λ j e f. entry L.n j ∙ put_no s _ _ j f ∙ put_no D.n _ _ j e ∙ no_row G C j;
  }

  -- the two halves share the divider alone: each other face is in the chosen part or in the rest
  halves_share : (i : ℕ) → i ≢ L.n → (Y (suc m)).d i s ≢ pos 0 → (Y (suc m)).d i D.n ≡ pos 0
  halves_share i n f =
      let v : Chain = λ i. D.d i s in
      at_s' i ∙ put_no L.n _ _ i n ∙ part_each p v (λ z. z ≡ pos 0) i
      (λ q. absurd (f (at_s i ∙ put_no L.n _ _ i n ∙ rest_each p v (λ z. z ≡ pos 0) i (λ _. refl) (λ r. no_eq (sym r ∙ q)))))
      (λ _. refl)

  pub merge-accepted : merge_step m (X m).n (layers (split m s p X)) ≡ removed (merge m (X m).n s (X (suc m)).n (layers (split m s p X)))
  merge-accepted =
      let S = head_first row C.cell in
      let t : L.n < (Y m).n = rw below (omega arith) in
      rw (
        merge-step-is (good-split G C) m L.n,
        lower-is S,
        higher-is S,
        lt-ltb L.n (Y m).n t,
        one_each_is _ (one_each_of row),
        share_only_is L.n (λ i. (Y (suc m)).d i s) (λ i. (Y (suc m)).d i D.n) halves_share,
      )

  lower-back : without_column L.n (divider s p L D) ≡ L
  unfolding without_column divider
  lower-back = same_layer refl λ i j. put_no L.n _ (L.d i) (up L.n j) (up_no L.n j) ∙ up_end L.n j (λ j. L.d i j) (G.columns m i)

  middle_back : merged L.n s D.n (halves s p L D) ≡ D
  unfolding merged
  middle_back = rw (halves-columns s p L D (no_row G C)) (same_layer refl λ i j.
      put_back s D.n _ _ (D.d (up L.n i)) C.cell (halves-sum s p L D (no_row G C) (up L.n i)) j
      ∙ up_end D.n j (λ j. D.d (up L.n i) j) (G.columns (suc m) (up L.n i))
      ∙ up_end L.n i (λ i. D.d i j) (λ i. G.rows m i j))

  upper_back : without_row D.n (repeated s D U) ≡ U
  unfolding without_row repeated
  upper_back = same_layer refl λ i j. put_no D.n _ (λ i. U.d i j) (up D.n i) (up_no D.n i) ∙ up_end D.n i (λ i. U.d i j) (λ i. G.rows (suc m) i j)

  pub merge-split : merge m (X m).n s (X (suc m)).n (layers (split m s p X)) ≡ X
  unfolding merge
  merge-split = rw split-is (fun_ext (at3_each {A = Layer} m _ _ _ _ (λ q A. A ≡ X q)
      (λ q e₀ e₁ e₂. rw (at3_no m _ _ _ _ q e₀ e₁ e₂))
      (rw at3_0 lower-back)
      (rw at3_1 middle_back)
      (rw at3_2 upper_back)))
