-- After flip every column is still one of its dimension, so the pattern is good.
use mathlib.Core.Path.{sym, ap}
use mathlib.Core.Logic.{◌≢◌}
use Prim.Native.Nat.{ℕ, suc, ◌<◌}
use native.Mathlib.Omega.{arith}
use lib.IntN.{ℤ, pos, neg_ℤ}
use Rattle.maths.proofs.Integers.{neg_inj}
use Rattle.maths.proofs.Sizes.{neg_size}
use Rattle.rules.specs.Complex.{Complex, Chain}
use Rattle.rules.specs.Good.{Good}
use Rattle.rules.specs.Edits.{layers, negated, flip}
use Rattle.rules.proofs.Layers.Frame.{Cells, frame_of, good_of}
use Rattle.rules.proofs.Edits.Flips.{flip_frame}
use Rattle.rules.proofs.Cells.Columns.{Bounds, Sound, sound-at, cells_layers, put-column, put-row}

neg_not-zero : {z : ℤ} → z ≢ pos 0 → neg_ℤ z ≢ pos 0
neg_not-zero {z} h e = h (neg_inj z (pos 0) e)

neg_bounds : {q : ℕ} {v : Chain} → Bounds q v → Bounds q (λ i. neg_ℤ (v i))
neg_bounds B = record {
  seam = λ e. let s = B.seam e in
      let E = s.2 in (
        s.1,
        s.0,
        record {
          apart = λ f. E.apart (sym f);
          low = E.high;
          high = E.low;
          tail = ap neg_ℤ E.head;
          head = ap neg_ℤ E.tail;
          only = λ i f g. ap neg_ℤ (E.only i g f);
        },
      );
  some = λ h. let f = B.some h in (f.0, neg_not-zero f.1);
}

-- A seam whose corner is flipped would have two tails or two heads, so k is not 0.
module _ {X : Complex} (k c : ℕ) (G : Good X) (positive : 0 < k) where
  flipped_column : Sound k (record { n = (X k).n; d = λ i. negated c ((X k).d i) })
  unfolding negated
  flipped_column = put-column (X k).n c (λ i. neg_ℤ ((X k).d i c)) (X k).d (G.units k) (λ j h e. (sound-at G k).cell j h)
      (λ i. rw neg_size (G.units k i c)) (λ h. neg_bounds ((sound-at G k).cell c h))

  flipped_row : Sound (suc k) (record { n = (X (suc k)).n; d = λ i j. negated c (λ i. (X (suc k)).d i j) i })
  unfolding negated
  flipped_row = put-row c (λ j. neg_ℤ ((X (suc k)).d c j)) (X (suc k)) (omega arith) (sound-at G (suc k)) (λ j. rw neg_size (G.units (suc k) c j)) (λ j. neg_not-zero)

  flip_cells : Cells (layers (flip k c X))
  unfolding flip
  flip_cells = cells_layers G k _ _ _ flipped_column flipped_row (sound-at G (suc (suc k)))

  pub good_flipped : Good (layers (flip k c X))
  good_flipped = good_of (flip_frame k c (frame_of G)) flip_cells
