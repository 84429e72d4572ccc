-- The columns of a layer by its dimension: what each is, and that it stays so where layers change, and where a column or a row is put.
use mathlib.Core.Path.{◌≡◌, refl, sym, fun_ext}
use mathlib.Core.Logic.{◌≢◌}
use Prim.Native.Nat.{ℕ, zero, suc, ◌<◌, ◌≤◌}
use native.Mathlib.Omega.{arith}
use lib.IntN.{pos, nat_abs}
use Rattle.maths.specs.Tables.{Entries}
use Rattle.maths.proofs.Cases.{eq_or}
use Rattle.rules.specs.Complex.{Layer, Complex, Chain}
use Rattle.rules.specs.Good.{Good}
use Rattle.rules.specs.Edits.{Step, kept, layers, at3, put}
use Rattle.rules.proofs.Layers.Changes.{at3_each, put_same, put_no, put_each}
use Rattle.rules.proofs.Layers.Frame.{Cells, within-rows}
use Rattle.rules.proofs.Accepting.Allowed.{CanMake}
use Rattle.rules.proofs.Edits.Fitted.{layers-at3}
use Rattle.rules.proofs.Layers.Seams.{Ends, minus-not-zero, ends_of_lem, one_each_of}

-- v is the boundary of a cell of dimension q
pub record Bounds (q : ℕ) (v : Chain) : Type 0 where
  pub seam : q ≡ 1 → (a : ℕ) × (b : ℕ) × Ends v a b
  pub some : 2 ≤ q → (i : ℕ) × (v i ≢ pos 0)

-- every cell but a corner has a face
pub bounds_face : {v : Chain} (q : ℕ) → Bounds (suc q) v → (i : ℕ) × (v i ≢ pos 0)
bounds_face zero B = let E = B.seam refl in (E.0, minus-not-zero E.2.tail)
bounds_face (suc q) B = B.some (omega arith)

pub made_bounds : {k : ℕ} {v : Chain} {X : Complex} → CanMake k v X → ((q : ℕ) → suc q ≡ k → (X q).n ≤ 96) → Bounds k v
made_bounds C few = record {
  seam = λ e. ends_of_lem (C.seam e) C.units (λ i h. C.faces 0 (sym e) i (omega (arith, few 0 (sym e))));
  some = C.some;
}

-- the columns of the layer A of dimension q are those of its cells
pub record Sound (q : ℕ) (A : Layer) : Type 0 where
  pub units : (i j : ℕ) → nat_abs (A.d i j) ≤ 1
  pub cell : (j : ℕ) → j < A.n → Bounds q (λ i. A.d i j)

module _ {X : Complex} where
  cells_from : ((q : ℕ) → Sound q (X q)) → Cells X
  cells_from S = record {
    units = λ k. (S k).units;
    seams = λ j h. one_each_of (((S 1).cell j h).seam refl).2;
    faces = λ k j h. ((S (suc (suc k))).cell j h).some (omega arith);
  }

  pub sound-at : Good X → (q : ℕ) → Sound q (X q)
  sound-at G q = record { units = G.units q; cell = cell_at q }
    where
      cell_at : (q j : ℕ) → j < (X q).n → Bounds q (λ i. (X q).d i j)
      cell_at zero j h = record { seam = λ e. absurd (omega arith); some = λ l. absurd (omega arith) }
      cell_at (suc zero) j h = record { seam = λ e. ends_of_lem (G.seams j h) (λ i. G.units 1 i j) (within-rows G 0 j); some = λ l. absurd (omega arith) }
      cell_at (suc (suc k)) j h = record { seam = λ e. absurd (omega arith); some = λ l. G.faces k j h }

-- three neighbouring layers change
module _ {X : Complex} (G : Good X) (k : ℕ) where
  pub cells_at3 : (A B U : Layer) → Sound k A → Sound (suc k) B → Sound (suc (suc k)) U → Cells (at3 k X A B U)
  cells_at3 A B U a b u = cells_from (at3_each k X A B U Sound (λ q _ _ _. sound-at G q) a b u)

  pub cells_layers : (x y z : Step) → Sound k x.layer → Sound (suc k) y.layer → Sound (suc (suc k)) z.layer →
      Cells (layers (at3 k (λ q. kept (X q)) x y z))
  cells_layers x y z a b u = rw (layers-at3 X k x y z) (cells_at3 x.layer y.layer z.layer a b u)

-- n columns d, of which that of t is now v
pub put-column : {q : ℕ} (n t : ℕ) (v : Chain) (d : Entries) → ((i j : ℕ) → nat_abs (d i j) ≤ 1) → ((j : ℕ) → j < n → j ≢ t → Bounds q (λ i. d i j)) →
    ((i : ℕ) → nat_abs (v i) ≤ 1) → (t < n → Bounds q v) → Sound q (record { n = n; d = λ i. put t (v i) (d i) })
put-column n t v d old-units old units new = record {
  units = λ i. put_each t (v i) (d i) (λ j z. nat_abs z ≤ 1) (units i) (λ j e. old-units i j);
  cell = λ j h. eq_or j t
      (λ e. rw (e, fun_ext (λ i. put_same t (v i) (d i))) (new (omega arith)))
      (λ e. rw (fun_ext (λ i. put_no t (v i) (d i) j e)) (old j h e));
}

-- panels or blocks of which row c is now w, with no new zero
pub put-row : {q : ℕ} (c : ℕ) (w : Chain) (A : Layer) → 2 ≤ q → Sound q A → ((j : ℕ) → nat_abs (w j) ≤ 1) → ((j : ℕ) → A.d c j ≢ pos 0 → w j ≢ pos 0) →
    Sound q (record { n = A.n; d = λ i j. put c (w j) (λ i. A.d i j) i })
put-row c w A l S units used = record {
  units = λ i j. put_each c (w j) (λ i. A.d i j) (λ i z. nat_abs z ≤ 1) (units j) (λ i e. S.units i j) i;
  cell = λ j h. record {
    seam = λ e. absurd (omega arith);
    some = λ _. let f = (S.cell j h).some l in
        (f.0, put_each c (w j) (λ i. A.d i j) (λ i z. A.d i j ≢ pos 0 → z ≢ pos 0) (used j) (λ i e n. n) f.0 f.1);
  };
}
