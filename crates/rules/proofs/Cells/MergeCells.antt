-- Two seams become one; after merge every column is still one of its dimension, so the pattern is good.
use mathlib.Core.Path.{◌≡◌, refl, sym, ◌∙◌, ap, ap₂, subst, fun_ext}
use mathlib.Core.Logic.{◌≢◌}
use Prim.Native.Nat.{ℕ, suc, pred, ◌<◌, ◌≤◌}
use native.Mathlib.Omega.{arith}
use lib.IntN.{pos, negsuc, nat_abs, neg_ℤ, ◌+ℤ◌, ◌*ℤ◌, +ℤ_comm}
use Rattle.maths.specs.Tables.{Entries}
use Rattle.maths.specs.Sums.{up}
use Rattle.maths.proofs.Cases.{eq_or}
use Rattle.maths.proofs.Sums.{up_lt, up_no, up_other, up-below}
use Rattle.maths.proofs.Tests.{by_sign}
use Rattle.rules.specs.Complex.{Complex, Chain}
use Rattle.rules.specs.Good.{Good}
use Rattle.rules.specs.Edits.{without_row, merged, merge}
use Rattle.rules.proofs.Layers.Frame.{Cells, frame_of, good_of}
use Rattle.rules.proofs.Accepting.Allowed.{CanMerge}
use Rattle.rules.proofs.Accepting.Shared.{sum_t, sum-units, sum-some}
use Rattle.rules.proofs.Layers.Seams.{Ends, one_not_zero, tail_at, head_at}
use Rattle.rules.proofs.Cells.Columns.{Bounds, Sound, sound-at, cells_at3, put-column}
use Rattle.rules.proofs.Edits.Merges.{same_rows, merge_frame}
use Rattle.rules.proofs.Cells.KillCells.{face_closed, bounds_closed, column-removed}

-- a seam to t and one from t: together from the one's tail to the other's head, unless these are the same
joined_ends : {v w : Chain} {a t b : ℕ} → Ends v a t → Ends w t b → (i : ℕ) × (v i +ℤ w i ≢ pos 0) → Ends (λ i. v i +ℤ w i) a b
joined_ends {v} {w} {a} {t} {b} E F some = record {
  apart = apart;
  low = E.low;
  high = F.high;
  tail = ap₂ ◌+ℤ◌ E.tail (F.only a E.apart apart);
  head = ap₂ ◌+ℤ◌ (E.only b (λ e. apart (sym e)) (λ e. F.apart (sym e))) F.head;
  only = λ i f g. eq_or i t (λ e. rw (e, E.head, F.tail)) (λ e. ap₂ ◌+ℤ◌ (E.only i f e) (F.only i e g));
}
  where
    apart : a ≢ b
    apart e =
        let i = some.0 in
        some.1 (
        eq_or i t (λ f. rw (f, E.head, F.tail)) λ f.
        eq_or i a (λ g. ap₂ ◌+ℤ◌ (ap v g ∙ E.tail) (ap w (g ∙ e) ∙ F.head)) λ g.
        ap₂ ◌+ℤ◌ (E.only i g f) (F.only i f (λ h. g (h ∙ sym e))))

-- the same, told by the values at t
through_ends : {v w : Chain} {a b c d : ℕ} (t : ℕ) → Ends v a b → Ends w c d → v t ≡ pos 1 → w t ≡ negsuc 0 → (i : ℕ) × (v i +ℤ w i ≢ pos 0) →
    Ends (λ i. v i +ℤ w i) a d
through_ends {v} {w} {a} {d} t E F into from = joined_ends (subst (λ b. Ends v a b) (head_at E t into) E) (subst (λ c. Ends w c d) (tail_at F t from) F)

-- the sum of two seams that have t with opposite signs
sum-ends : {v w : Chain} {a b c d : ℕ} (t : ℕ) → Ends v a b → Ends w c d → nat_abs (v t) ≤ 1 → v t *ℤ v t ≡ pos 1 → w t ≡ neg_ℤ (v t) →
    (i : ℕ) × (v i +ℤ w i ≢ pos 0) → (x : ℕ) × (y : ℕ) × Ends (λ i. v i +ℤ w i) x y
sum-ends {v} {w} {a} {b} {c} {d} t E F small unit opposite some =
    let swapped : (i : ℕ) × (w i +ℤ v i ≢ pos 0) = (some.0, λ e. some.1 (+ℤ_comm (v some.0) (w some.0) ∙ e)) in
    by_sign (λ z. v t ≡ z → (x : ℕ) × (y : ℕ) × Ends (λ i. v i +ℤ w i) x y)
    (λ z. (c, b, rw (fun_ext (λ i. +ℤ_comm (v i) (w i))) (through_ends t F E (opposite ∙ ap neg_ℤ z) z swapped)))
    (λ z. absurd (one_not_zero unit (ap (λ x. x *ℤ x) z)))
    (λ z. (a, d, through_ends t E F z (opposite ∙ ap neg_ℤ z) some))
    (v t) small refl

module _ {k t a b : ℕ} {X : Complex} (G : Good X) (C : CanMerge k t a b X) where
  abbrev D : Entries
  D = (X (suc k)).d

  abbrev U : Entries
  U = (X (suc (suc k))).d

  low : a < (X (suc k)).n
  low = omega (arith, C.less, C.high)

  sum_bounds : Bounds (suc k) (λ i. D i a +ℤ D i b)
  sum_bounds = record {
    seam = λ e. sum-ends t (((sound-at G (suc k)).cell a low).seam e).2 (((sound-at G (suc k)).cell b C.high).seam e).2
        (G.units (suc k) t a) C.unit C.opposite (sum-some G C);
    some = λ _. sum-some G C;
  }

  kept_bounds : (j : ℕ) → j < pred (X (suc k)).n → j ≢ a → Bounds (suc k) (λ i. D (up t i) (up b j))
  kept_bounds j h e = bounds_closed (λ i. D i (up b j)) t (C.only (up b j) (up_other a b j C.less e) (up_no b j))
      ((sound-at G (suc k)).cell (up b j) (up-below b (X (suc k)).n j h))

  merged-sound : Sound (suc k) (merged t a b (X (suc k)))
  unfolding merged
  merged-sound = put-column (pred (X (suc k)).n) a (λ i. D (up t i) a +ℤ D (up t i) b) (λ i j. D (up t i) (up b j))
      (λ i j. G.units (suc k) (up t i) (up b j)) kept_bounds (λ i. sum-units G C (up t i))
      (λ _. bounds_closed (λ i. D i a +ℤ D i b) t (sum_t G C) sum_bounds)

  face_merged : (j i : ℕ) → U i j ≢ pos 0 → (i : ℕ) × (U (up b i) j ≢ pos 0)
  face_merged j i n = eq_or i b (λ e. (a, rw (up_lt b a C.less, same_rows (frame_of G) C j, ← e) n)) (face_closed (λ i. U i j) b i n)

  row-merged : Sound (suc (suc k)) (without_row b (X (suc (suc k))))
  unfolding without_row
  row-merged = record {
    units = λ i j. G.units (suc (suc k)) (up b i) j;
    cell = λ j h. record { seam = λ e. absurd (omega arith); some = λ _. let f = G.faces k j h in face_merged j f.0 f.1 };
  }

  merge_cells : Cells (merge k t a b X)
  unfolding merge
  merge_cells = cells_at3 G k _ _ _ (column-removed G k t) merged-sound row-merged

  pub good-merged : Good (merge k t a b X)
  good-merged = good_of (merge_frame (frame_of G) C) merge_cells
