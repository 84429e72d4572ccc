-- The ends that were taken are those of the pattern: so are its tests and its text.
use mathlib.Core.Path.{◌≡◌, ap, fun_ext}
use mathlib.Core.List.{List}
use Prim.Native.Nat.{ℕ}
use native.Mathlib.Omega.{arith}
use lib.IntN.{ℤ, pos, negsuc}
use lib.ListN.{length}
use Rattle.maths.specs.Tests.{all}
use Rattle.maths.specs.Sums.{join}
use Rattle.maths.specs.Tables.{column}
use Rattle.maths.proofs.Tests.{all_same}
use Rattle.maths.proofs.Sums.{join_same}
use Rattle.rules.specs.declared.counts.Counts.{Counts}
use Rattle.rules.specs.Counts.{count_of}
use Rattle.rules.specs.Complex.{layer}
use Rattle.rules.specs.Mesh.{face_count}
use Rattle.off.specs.declared.ends.Ends.{Ends}
use Rattle.off.specs.Sewing.{ends_of}
use Rattle.off.specs.Exporting.{next_of, is_alone, is_sewn, is_plain, walked, closes_up, one_ring, ring_of, ring_line, export_text}
use Rattle.off.specs.Lying.{drawn}
use Rattle.off.specs.Walking.{ends_by, EndsTaken, EndsLow, next_by, panel_closes, ring_lines}
use Rattle.off.specs.Writing.{plain_by, text_by}
use Rattle.off.proofs.ends.SameWays.{SameBelow, same_next, same_alone}
use Rattle.off.proofs.ends.EndsFound.{face_low}

-- ends of columns are corners below 96
pub ends_low : {m1 : List ℤ} {ends : List Ends} → EndsTaken m1 ends → EndsLow ends
ends_low {m1} T = record {
  few = T.columns.few;
  tail = λ j h. rw (T.are j h) (face_low (negsuc 0) (column m1 j));
  head = λ j h. rw (T.are j h) (face_low (pos 1) (column m1 j));
}

module _ (c : Counts) (m1 m2 : List ℤ) {ends : List Ends} (T : EndsTaken m1 ends) (n : length ends ≡ count_of c 1) where
  same : SameBelow (count_of c 1) (ends_by ends) (ends_of (layer (count_of c 1) m1))
  same = record {
    tail = λ j h. ap (λ s. s.tail) (T.are j (omega (arith, n)));
    head = λ j h. ap (λ s. s.head) (T.are j (omega (arith, n)));
  }

  next_same : (j : ℕ) → next_by m2 j ends ≡ next_of (drawn c m1 m2) (column m2 j)
  next_same j = fun_ext (λ a. rw n (same_next (count_of c 1) same (column m2 j) a))

  pub plain-taken : plain_by c m2 ends ≡ is_plain (drawn c m1 m2)
  unfolding plain_by is_plain is_sewn
  plain-taken =
      let X = drawn c m1 m2 in
      let alone : all (count_of c 1) (is_alone (ends_by ends)) ≡ all (count_of c 1) (is_alone (ends_of (X 1))) =
      all_same (count_of c 1) (same_alone same) in
      let close : all (count_of c 2) (panel_closes m2 ends) ≡ all (count_of c 2) (λ j. one_ring X (column m2 j)) =
      all_same (count_of c 2) (λ j h. ap (λ next. closes_up next (face_count (column m2 j))) (next_same j)) in
      rw (alone, close)

  pub text-taken : (list : List ℤ) → text_by c m2 list ends ≡ export_text (drawn c m1 m2) list
  unfolding text_by export_text ring_lines
  text-taken list =
      let X = drawn c m1 m2 in
      let lines : ring_lines m2 ends (count_of c 2) ≡ join (count_of c 2) (λ j. ring_line (ring_of X (column m2 j))) =
      join_same (count_of c 2) (λ j h. ap (λ next. ring_line (walked next (face_count (column m2 j)))) (next_same j)) in
      rw lines
