-- Where numbers close up a column stays one of its dimension; so it does after kill, and the pattern is good.
use mathlib.Core.Path.{◌≡◌, sym, ◌∙◌, ap}
use mathlib.Core.Logic.{◌≢◌}
use Prim.Native.Nat.{ℕ, suc}
use native.Mathlib.Omega.{arith}
use lib.IntN.{pos}
use Rattle.maths.specs.Sums.{up}
use Rattle.maths.proofs.Sums.{up-below, up_inj, up_reach}
use Rattle.rules.specs.Complex.{Complex, Chain}
use Rattle.rules.specs.Good.{Good}
use Rattle.rules.specs.Edits.{without_column, without_row, kill}
use Rattle.rules.proofs.Layers.Frame.{Cells, frame_of, good_of}
use Rattle.rules.proofs.Accepting.Allowed.{CanKill}
use Rattle.rules.proofs.Layers.Seams.{Ends, minus-not-zero, one_not_zero}
use Rattle.rules.proofs.Edits.Kills.{kill_frame}
use Rattle.rules.proofs.Cells.Columns.{Bounds, Sound, sound-at, cells_at3}

pub face_closed : (v : Chain) (c i : ℕ) → v i ≢ pos 0 → i ≢ c → (j : ℕ) × (v (up c j) ≢ pos 0)
face_closed v c i n e = let x = up_reach c i e in (x.0, λ z. n (ap v (sym x.1) ∙ z))

-- a column without row c, where it is 0
module _ (v : Chain) (c : ℕ) (free : v c ≡ pos 0) where
  used : (i : ℕ) → v i ≢ pos 0 → i ≢ c
  used i n e = n (ap v e ∙ free)

  ends-closed : {a b : ℕ} → Ends v a b → (a' : ℕ) × (b' : ℕ) × Ends (λ i. v (up c i)) a' b'
  ends-closed {a} {b} E =
      let x = up_reach c a (used a (minus-not-zero E.tail)) in
      let y = up_reach c b (used b (one_not_zero E.head)) in (
        x.0,
        y.0,
        record {
          apart = λ e. E.apart (sym x.1 ∙ ap (up c) e ∙ y.1);
          low = omega (arith, E.low, x.2);
          high = omega (arith, E.high, y.2);
          tail = ap v x.1 ∙ E.tail;
          head = ap v y.1 ∙ E.head;
          only = λ i f g. E.only (up c i) (λ e. f (up_inj c i x.0 (e ∙ sym x.1))) (λ e. g (up_inj c i y.0 (e ∙ sym y.1)));
        },
      )

  pub bounds_closed : {q : ℕ} → Bounds q v → Bounds q (λ i. v (up c i))
  bounds_closed B = record {
    seam = λ e. ends-closed (B.seam e).2;
    some = λ h. let f = B.some h in face_closed v c f.0 f.1 (used f.0 f.1);
  }

pub column-removed : {X : Complex} → Good X → (k c : ℕ) → Sound k (without_column c (X k))
unfolding without_column
column-removed {X} G k c = record { units = λ i j. G.units k i (up c j); cell = λ j h. (sound-at G k).cell (up c j) (up-below c (X k).n j h) }

module _ {k c : ℕ} {X : Complex} (G : Good X) (C : CanKill k c X) where
  row-removed : Sound (suc k) (without_row c (X (suc k)))
  unfolding without_row
  row-removed = record {
    units = λ i j. G.units (suc k) (up c i) j;
    cell = λ j h. bounds_closed (λ i. (X (suc k)).d i j) c (C.free j) ((sound-at G (suc k)).cell j h);
  }

  kill_cells : Cells (kill k c X)
  unfolding kill
  kill_cells = cells_at3 G k _ _ _ (column-removed G k c) row-removed (sound-at G (suc (suc k)))

  pub good_killed : Good (kill k c X)
  good_killed = good_of (kill_frame (frame_of G) C) kill_cells
