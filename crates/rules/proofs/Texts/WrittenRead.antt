-- What the mesh reader took is written as it stood.
use mathlib.Core.Path.{◌≡◌, refl, sym, ◌∙◌, ap, fun_ext}
use mathlib.Core.Logic.{◌≢◌}
use mathlib.Core.List.{List}
use Prim.Native.Nat.{ℕ, zero, suc, ◌<◌, ◌≤◌}
use native.Mathlib.Omega.{arith}
use lib.ListN.{length, take}
use Rattle.maths.specs.Sums.{join}
use Rattle.maths.specs.Repeat.{repeat}
use Rattle.maths.proofs.Sums.{join_same}
use Rattle.rules.specs.Complex.{Complex, Chain}
use Rattle.rules.specs.Edits.{layers, put, make}
use Rattle.rules.specs.Form.{byte_at}
use Rattle.rules.specs.Mesh.{Reading, taken, Place, corners, read_cell, read_section, read_mesh, write_cell, write_section, write_mesh}
use Rattle.rules.proofs.Layers.Changes.{put_same, put_no}
use Rattle.rules.proofs.Bytes.Fields.{Byte, byte_says, after_got}
use Rattle.rules.proofs.Texts.Texts.{Text, ends, byte, joined, text-length, text-within, text-is}
use Rattle.maths.proofs.Repeat.{repeat-last}
use Rattle.rules.proofs.Edits.Makes.{make-here, make_other}
use Rattle.rules.proofs.Texts.CellsWritten.{no_fault, cell_written}

-- X is X₀ with j cells more of dimension k, where it had none, and their bytes are those from `at` to `next`
record Grown (s : List ℕ) (k : ℕ) (X₀ : Complex) (at j : ℕ) (X : Complex) (next : ℕ) : Type 0 where
  kept : (q : ℕ) → q ≢ k → X q ≡ X₀ q
  number : (X k).n ≡ j
  text : Text s at (join j (λ j. write_cell k (λ i. (X k).d i j))) next

-- X is X₀ with a section more
record Section (s : List ℕ) (k : ℕ) (X₀ : Complex) (at : ℕ) (X : Complex) (next : ℕ) : Type 0 where
  kept : (q : ℕ) → q ≢ k → X q ≡ X₀ q
  few : (X k).n ≤ 96
  text : Text s at (write_section k X) next

-- one cell more
cells_more : {s : List ℕ} {k at j mid next : ℕ} {X₀ X : Complex} (v : Chain) → Grown s k X₀ at j X mid → Text s mid (write_cell k v) next →
    Grown s k X₀ at (suc j) (layers (make k v X)) next
unfolding join
cells_more {k = k} {j = j} {X = X} v c r =
    let old : join j (λ j'. write_cell k (λ i. put j (v i) ((X k).d i) j')) ≡ join j (λ j'. write_cell k (λ i. (X k).d i j')) =
    join_same j (λ j' h. ap (write_cell k) (fun_ext λ i. put_no j (v i) ((X k).d i) j' (omega arith))) in
    let new : write_cell k (λ i. put j (v i) ((X k).d i) j) ≡ write_cell k v = ap (write_cell k) (fun_ext λ i. put_same j (v i) ((X k).d i)) in
    record {
      kept = λ q h. make_other k v X q h ∙ c.kept q h;
      number = rw make-here (ap suc c.number);
      text = rw (make-here, c.number, old, new) (joined c.text r);
    }

module _ {s : List ℕ} {Y : Complex} {used : ℕ} where
  cells_written : {at : ℕ} (k j : ℕ) (X : Complex) → k < 3 → (X k).n ≤ 96 → (X (suc k)).n ≡ 0 →
      (go : Place → Reading) → repeat (read_cell s (suc k)) go j (X, at) ≡ taken Y used →
      (X' : Complex) × (next : ℕ) × Grown s (suc k) X at j X' next × (go (X', next) ≡ taken Y used)
  unfolding join repeat
  cells_written {at} k zero X l few none go e = (X, at, record { kept = λ q h. refl; number = none; text = ends }, e)
  cells_written {at} k (suc j) X l few none go e =
      let a = cells_written k j X l few none (λ y. read_cell s (suc k) y go) (sym (repeat-last (read_cell s (suc k)) go j (X, at)) ∙ e) in
      let few' : (a.0 k).n ≤ 96 = rw (a.2.kept k (omega arith)) few in
      let c = cell_written go k a.0 l few' a.3 in
      (layers (make (suc k) c.0 a.0), c.1, cells_more c.0 a.2 c.2, c.3)

  section_written : {at : ℕ} (k : ℕ) (X : Complex) → k < 3 → (X k).n ≤ 96 → (X (suc k)).n ≡ 0 →
      (go : Place → Reading) → read_section s (suc k) (X, at) go ≡ taken Y used →
      (X' : Complex) × (next : ℕ) × Section s (suc k) X at X' next × (go (X', next) ≡ taken Y used)
  unfolding read_section write_section
  section_written {at} k X l few none go e =
      let a = after_got (byte_at s at 0 96) no_fault e in
      let b = byte_says s at 0 96 a.0 a.1 in
      let c = cells_written k a.0 X l few none go a.2 in (
        c.0,
        c.1,
        record {
          kept = c.2.kept;
          few = rw c.2.number b.most;
          text = rw c.2.number (byte b.there (sym b.is) c.2.text);
        },
        c.3,
      )

-- a section speaks of its own layer
section_same : (k : ℕ) (X Y : Complex) → X k ≡ Y k → write_section k X ≡ write_section k Y
unfolding write_section
section_same k X Y e = rw e

mesh-text : {s : List ℕ} {n p q next used : ℕ} {A B C X : Complex} → Byte s 0 0 96 n → Section s 1 (corners n) 1 A p → Section s 2 A p B q → Section s 3 B q C next →
    taken C next ≡ taken X used → Text s 0 (write_mesh X) used
unfolding write_mesh
mesh-text {next = next} {used = used} {A = A} {B = B} {C = C} {X = X} b x y z e =
    let same : X ≡ C = cc in
    let place : used ≡ next = cc in
    rw (
      same,
      place,
      z.kept 0 (omega arith),
      y.kept 0 (omega arith),
      x.kept 0 (omega arith),
      section_same 1 C A (z.kept 1 (omega arith) ∙ y.kept 1 (omega arith)),
      section_same 2 C B (z.kept 2 (omega arith)),
    )
    (byte b.there (sym b.is) (joined x.text (joined y.text z.text)))

module _ (s : List ℕ) {X : Complex} {used : ℕ} where
  mesh_written : read_mesh s ≡ taken X used → Text s 0 (write_mesh X) used
  unfolding read_mesh
  mesh_written e =
      let a = after_got (byte_at s 0 0 96) no_fault e in
      let b = byte_says s 0 0 96 a.0 a.1 in
      let x = section_written 0 (corners a.0) (omega arith) b.most refl _ a.2 in
      let y = section_written 1 x.0 (omega arith) x.2.few (rw (x.2.kept 2 (omega arith))) _ x.3 in
      let z = section_written 2 y.0 (omega arith) y.2.few (rw (y.2.kept 3 (omega arith), x.2.kept 3 (omega arith))) _ y.3 in
      mesh-text {next = z.1} {C = z.0} b x.2 y.2 z.2 z.3

  -- as many bytes as were used
  pub written_length : read_mesh s ≡ taken X used → length (write_mesh X) ≡ used
  written_length e = omega (arith, text-length (mesh_written e))

  pub written_read : read_mesh s ≡ taken X used → (used ≤ length s) × (write_mesh X ≡ take used s)
  written_read e = let t = mesh_written e in (text-within t (omega arith), rw (written_length e) at (text-is t))
