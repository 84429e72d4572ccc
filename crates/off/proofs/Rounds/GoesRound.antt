-- A panel is one ring wherever there is one: if as many corners as it has seams, all distinct, are joined one after the other by its seams, the walk finds them.
use mathlib.Core.Path.{◌≡◌, sym, ap, ◌∙◌}
use mathlib.Core.Logic.{◌≢◌}
use mathlib.Core.Bool.{true, not}
use Prim.Native.Nat.{ℕ, ◌<◌, ◌≤◌}
use native.Mathlib.Omega.{arith}
use borrow.Author.Tests.{eqb-true, eq-eqb, not-true}
use lib.IntN.{pos}
use lib.ListN.{length}
use Rattle.maths.specs.Tests.{is_zero}
use Rattle.maths.proofs.Cases.{bool_or, and_left, and_right, and_both}
use Rattle.maths.proofs.Tests.{zero-false, not-zero}
use Rattle.rules.specs.Complex.{Complex, Chain}
use Rattle.rules.specs.Mesh.{face_count}
use Rattle.off.specs.Plain.{Ring}
use Rattle.off.specs.Rings.{corner_at, next_at, corners_below, is_ring, SameRing}
use Rattle.off.specs.Sewing.{SeamEnds, ends_of}
use Rattle.off.specs.Exporting.{comes_from, goes_to, leaves_by, next_of, ring_of, one_ring}
use Rattle.off.proofs.sewing.RingSides.{corners-apart}
use Rattle.off.proofs.Rounds.Counting.{all_listed}
use Rattle.off.proofs.Rounds.Turning.{Along, walk_same, walk_closes}
use Rattle.off.proofs.Rounds.PanelRound.{next-is, next-none}

-- the panel v goes round the ring r: from each corner to the next by a seam of its own
pub record GoesRound (X : Complex) (v : Chain) (r : Ring) : Type 0 where
  pub ring : is_ring r ≡ true
  pub low : corners_below 96 r ≡ true
  pub long : face_count v ≡ length r
  pub seam : ℕ → ℕ
  pub there : (l : ℕ) → l < length r → seam l < (X 1).n
  pub some : (l : ℕ) → l < length r → v (seam l) ≢ pos 0
  pub from : (l : ℕ) → l < length r → comes_from (ends_of (X 1)) v (seam l) ≡ corner_at r l
  pub to : (l : ℕ) → l < length r → goes_to (ends_of (X 1)) v (seam l) ≡ next_at r l

module _ {X : Complex} (few : (X 1).n ≤ 96) {v : Chain} {r : Ring} (R : GoesRound X v r) where
  abbrev E : SeamEnds
  E = ends_of (X 1)

  -- different sides have different seams
  apart : (k l : ℕ) → k < length r → l < length r → k ≢ l → R.seam k ≢ R.seam l
  apart k l h i d e = d (corners-apart r R.ring k l h i (sym (R.from k h) ∙ ap (comes_from E v) e ∙ R.from l i))

  -- so every seam of the panel is that of a side
  side_of : (j : ℕ) → j < (X 1).n → v j ≢ pos 0 → (l : ℕ) × (l < length r) × (R.seam l ≡ j)
  side_of j h f = all_listed 96 (length r) R.seam (λ i. not (is_zero (v i))) (λ l i. omega (arith, R.there l i)) apart
      (λ l i. ap not (not-zero (R.some l i))) R.long j (omega arith) (ap not (not-zero f))

  -- by a seam that the panel leaves a by, a is the corner before it
  left_by : (a j : ℕ) → j < (X 1).n → leaves_by E v a j ≡ true → (l : ℕ) × (l < length r) × (R.seam l ≡ j) × (corner_at r l ≡ a)
  unfolding leaves_by
  left_by a j h e =
      let s = side_of j h (zero-false (not-true (is_zero (v j)) (and_left (not (is_zero (v j))) _ e))) in
      (s.0, s.1, s.2, sym (R.from s.0 s.1) ∙ rw s.2 (eqb-true (comes_from E v j) a (and_right (not (is_zero (v j))) _ e)))

  leaves : (l : ℕ) → l < length r → leaves_by E v (corner_at r l) (R.seam l) ≡ true
  unfolding leaves_by
  leaves l h = and_both (ap not (not-zero (R.some l h))) (eq-eqb (comes_from E v (R.seam l)) (corner_at r l) (R.from l h))

  along : Along (next_of X v) r
  along = record {
    ring = R.ring;
    low = R.low;
    goes = λ l h. next-is E v (corner_at r l) (X 1).n (next_at r l) (R.seam l) (R.there l h) (leaves l h) (λ j i e.
        let s = left_by (corner_at r l) j i e in
        let q : s.0 ≡ l = corners-apart r R.ring s.0 l s.1 h s.3 in
        rw (← s.2, q) (R.to l h));
    off = λ a none. rw (next-none E v a (X 1).n (λ j h. bool_or (leaves_by E v a j)
        (λ e. let s = left_by a j h e in absurd (none s.0 s.1 s.3))
        (λ e. e))) (omega arith);
  }

  -- it is one ring for the export, which finds the same one
  pub round_found : one_ring X v ≡ true
  round_found = rw R.long (walk_closes along)

  pub round_same : SameRing r (ring_of X v)
  round_same = rw R.long (walk_same along)
