-- Two cells that share t alone: each of their faces but t is one of the sum, which so is within -1 to 1 and not all 0. A merge is never refused by 12.
use mathlib.Core.Path.{◌≡◌, refl, sym, ◌∙◌, ap}
use mathlib.Core.Logic.{◌≢◌}
use mathlib.Core.Bool.{true, ◌||◌}
use Prim.Native.Nat.{ℕ, zero, suc, ◌<◌, ◌≤◌}
use native.Mathlib.Omega.{arith}
use borrow.Author.Tests.{eq-eqb, ne_eqb}
use lib.Dec.{eqb}
use lib.IntN.{ℤ, pos, nat_abs, ◌+ℤ◌, ◌*ℤ◌, +ℤ_idl, +ℤ_idr, +ℤ_invr, *ℤ-zero}
use Rattle.maths.specs.Tests.{is_zero}
use Rattle.maths.specs.Sums.{δ}
use Rattle.maths.proofs.Integers.{*ℤ_assoc, one_*ℤ, *ℤ_1}
use Rattle.maths.proofs.Cases.{eq_or, bool_or}
use Rattle.maths.proofs.Tests.{zero_is, zero-true, zero-false, not-zero, all-at, all_of}
use Rattle.maths.proofs.Sums.{δ_same, δ_no}
use Rattle.maths.proofs.Dots.{dot_same, dot_*front, dot-δ_r}
use Rattle.rules.specs.Complex.{Complex, Chain}
use Rattle.rules.specs.Good.{Good, all_zero}
use Rattle.rules.specs.Edits.{put}
use Rattle.rules.specs.Operators.{proper, share_only}
use Rattle.rules.proofs.Layers.Changes.{put_same, put_no}
use Rattle.rules.proofs.Layers.Frame.{Within, face_below, within-rows}
use Rattle.rules.proofs.Layers.Judged.{all-zero-at, some_entry, proper-is}
use Rattle.rules.proofs.Layers.Seams.{minus-not-zero, one_not_zero}
use Rattle.rules.proofs.Accepting.Allowed.{CanMerge}
use Rattle.rules.proofs.Cells.Columns.{bounds_face, sound-at}

-- what the test of shared faces says
module _ (t : ℕ) (v w : Chain) where
  pub share_only_at : share_only t v w ≡ true → (i : ℕ) → i < 96 → i ≢ t → v i ≢ pos 0 → w i ≡ pos 0
  unfolding share_only
  share_only_at e i h n f = zero-true (rw (ne_eqb i t n, not-zero f) at (all-at 96 (λ i. eqb i t || is_zero (v i) || is_zero (w i)) e i h))

  pub share_only_is : ((i : ℕ) → i ≢ t → v i ≢ pos 0 → w i ≡ pos 0) → share_only t v w ≡ true
  unfolding share_only
  share_only_is h = all_of 96 λ i _.
      eq_or i t (λ e. rw (eq-eqb i t e)) λ e.
      bool_or (is_zero (v i)) (λ z. rw (ne_eqb i t e, z)) (λ z. rw (ne_eqb i t e, z, h i e (zero-false z), zero_is))

-- a cell with the face t has another face
module _ {X : Complex} (G : Good X) where
  -- t alone: the boundary of the cell would be that of t, plus or minus, but t has a face
  not_alone : (k t a : ℕ) → t < (X (suc k)).n → (X (suc (suc k))).d t a *ℤ (X (suc (suc k))).d t a ≡ pos 1 →
      ((i : ℕ) → i < 96 → i ≢ t → (X (suc (suc k))).d i a ≡ pos 0) → ⊥
  not_alone k t a h unit alone =
      let z : ℤ = (X (suc (suc k))).d t a in
      let f = bounds_face k ((sound-at G (suc k)).cell t h) in
      let x : ℤ = (X (suc k)).d f.0 t in
      let column : (i : ℕ) → i < 96 → (X (suc (suc k))).d i a ≡ z *ℤ δ t i =
      λ i l. eq_or i t (λ e. rw (e, δ_same, *ℤ_1)) (λ e. rw (alone i l e, δ_no t i e, *ℤ-zero)) in
      let none : z *ℤ x ≡ pos 0 =
      sym (dot_same 96 (λ i _. refl) column ∙ dot_*front 96 z _ _ ∙ ap (λ y. z *ℤ y) (dot-δ_r 96 t _ (omega (arith, G.few (suc k))))) ∙ G.null k f.0 a in
      f.1 (sym (one_*ℤ x) ∙ rw (← unit, *ℤ_assoc, none, *ℤ-zero))

  another_face : (k t a : ℕ) → t < (X k).n → a < (X (suc k)).n → (X (suc k)).d t a *ℤ (X (suc k)).d t a ≡ pos 1 →
      (i : ℕ) × (i ≢ t) × ((X (suc k)).d i a ≢ pos 0)
  another_face zero t a h l unit =
      let E = ((sound-at G 1).cell a l).seam refl in
      eq_or E.0 t
      (λ e. (E.1, λ f. E.2.apart (e ∙ sym f), one_not_zero E.2.head))
      (λ e. (E.0, e, minus-not-zero E.2.tail))
  another_face (suc k) t a h l unit =
      let v : Chain = λ i. (X (suc (suc k))).d i a in
      let others : Chain = put t (pos 0) v in
      bool_or (all_zero others)
      (λ e. absurd (not_alone k t a h unit (λ i b n. sym (put_no t _ v i n) ∙ all-zero-at others e i b)))
      (λ e. let f = some_entry others e in
      let n : f.0 ≢ t = λ q. f.2 (ap others q ∙ put_same t _ v) in
      (f.0, n, λ z. f.2 (put_no t _ v f.0 n ∙ z)))

-- the sum of both columns
module _ {k t a b : ℕ} {X : Complex} (G : Good X) (C : CanMerge k t a b X) where
  abbrev low : Chain
  low i = (X (suc k)).d i a

  abbrev high : Chain
  high i = (X (suc k)).d i b

  -- t goes, and elsewhere the sum is the one entry or the other
  pub sum_t : low t +ℤ high t ≡ pos 0
  sum_t = rw C.opposite (+ℤ_invr (low t))

  sum_each : (P : ℤ → Type 0) (i : ℕ) → i ≢ t → (low i ≡ pos 0 → P (high i)) → (high i ≡ pos 0 → P (low i)) → P (low i +ℤ high i)
  sum_each P i n f g = bool_or (is_zero (low i))
      (λ e. let z = zero-true e in rw (z, +ℤ_idl) (f z))
      (λ e. let z = C.alone i n (zero-false e) in rw (z, +ℤ_idr) (g z))

  -- a face of either but t is one of the sum
  pub low-kept : (i : ℕ) → i ≢ t → low i ≢ pos 0 → low i +ℤ high i ≢ pos 0
  low-kept i n f = sum_each (λ z. z ≢ pos 0) i n (λ z. absurd (f z)) (λ _. f)

  pub high-kept : (i : ℕ) → i ≢ t → high i ≢ pos 0 → low i +ℤ high i ≢ pos 0
  high-kept i n f = sum_each (λ z. z ≢ pos 0) i n (λ _. f) (λ z. absurd (f z))

  pub sum-units : (i : ℕ) → nat_abs (low i +ℤ high i) ≤ 1
  sum-units i = eq_or i t
      (λ e. rw (e, sum_t) (omega arith))
      (λ e. sum_each (λ z. nat_abs z ≤ 1) i e (λ _. G.units (suc k) i b) (λ _. G.units (suc k) i a))

  pub sum-some : (i : ℕ) × (low i +ℤ high i ≢ pos 0)
  sum-some = let f = another_face G k t a C.cell (omega (arith, C.less, C.high)) C.unit in (f.0, low-kept f.0 f.1 f.2)

  sum-within : Within 96 (λ i. low i +ℤ high i)
  sum-within i h = rw (within-rows G k a i h, within-rows G k b i h)

  pub sum-proper : proper (λ i. low i +ℤ high i) ≡ true
  sum-proper = let f = sum-some in proper-is (λ i. low i +ℤ high i) (λ i _. sum-units i) f.0 (face_below sum-within f.0 f.1) f.1
