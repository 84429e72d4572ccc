-- The lines of the panels, measured one after the other.
use mathlib.Core.Path.{◌≡◌}
use mathlib.Core.Bool.{true, not}
use mathlib.Core.List.{List}
use Prim.Native.Nat.{ℕ, ◌+◌, ◌*◌, ◌≤◌}
use native.Mathlib.Omega.{arith}
use lib.IntN.{ℤ}
use lib.ListN.{length as long, length-append}
use Rattle.maths.specs.Tests.{is_zero, all}
use Rattle.maths.specs.Tables.{column}
use Rattle.maths.proofs.Tests.{all_none, all_more, count_le}
use Rattle.maths.proofs.Sums.{join-zero, join-next, join-most}
use Rattle.rules.specs.Mesh.{face_count}
use Rattle.off.specs.declared.ends.Ends.{Ends}
use Rattle.off.specs.Plain.{Ring}
use Rattle.off.specs.Exporting.{ring_line}
use Rattle.off.specs.Walking.{next_by, panel_closes, panel_ring, ring_lines}
use Rattle.off.proofs.lengths.Decimal.{number-most}
use Rattle.off.proofs.lengths.LineLengths.{spaced-most}
use Rattle.off.proofs.Rounds.Listed.{walked-length}

ring-most : (r : Ring) → long (ring_line r) ≤ 8 * long r + 8
unfolding ring_line
ring-most r = simp length-append (omega (arith, number-most (long r), spaced-most r (long r)))

-- a panel has at most 96 seams
pub few-seams : (m2 : List ℤ) (j : ℕ) → face_count (column m2 j) ≤ 96
few-seams m2 j = count_le 96 (λ i. not (is_zero (column m2 j i)))

module _ (m2 : List ℤ) (ends : List Ends) where
  pub line-most : (j : ℕ) → long (ring_line (panel_ring m2 ends j)) ≤ 776
  line-most j =
      let n = face_count (column m2 j) in
      omega (arith, ring-most (panel_ring m2 ends j), walked-length (next_by m2 j ends) n, few-seams m2 j)

  pub lines-most : (n : ℕ) → long (ring_lines m2 ends n) ≤ n * 776
  unfolding ring_lines
  lines-most n = join-most n 776 (λ j. ring_line (panel_ring m2 ends j)) (λ j _. line-most j)

  lines_none : 0 ≡ long (ring_lines m2 ends 0)
  unfolding ring_lines
  lines_none = rw (join-zero (λ j. ring_line (panel_ring m2 ends j)))

  lines_more : (j : ℕ) → long (ring_lines m2 ends (j + 1)) ≡ long (ring_lines m2 ends j) + long (ring_line (panel_ring m2 ends j))
  unfolding ring_lines
  lines_more j = rw (join-next, length-append)

-- the panels before j close up, and how long their lines are
pub record Measuring (m2 : List ℤ) (ends : List Ends) (length j : ℕ) : Type 0 where
  pub closes : all j (panel_closes m2 ends) ≡ true
  pub is : length ≡ long (ring_lines m2 ends j)

module _ {m2 : List ℤ} {ends : List Ends} where
  pub measuring_none : Measuring m2 ends 0 0
  measuring_none = record { closes = all_none (panel_closes m2 ends); is = lines_none m2 ends }

  module _ {length j : ℕ} (s : Measuring m2 ends length j) where
    -- how long the line of panel j is
    module _ {k : ℕ} (e : k ≡ long (ring_line (panel_ring m2 ends j))) where
      pub measuring_fits : length + k ≤ (j + 1) * 776
      measuring_fits = omega (arith, s.is, e, lines_more m2 ends j, lines-most m2 ends (j + 1))

      pub measuring_more : panel_closes m2 ends j ≡ true → Measuring m2 ends (length + k) (j + 1)
      measuring_more t = record {
        closes = all_more j (panel_closes m2 ends) s.closes t;
        is = omega (arith, s.is, e, lines_more m2 ends j);
      }
