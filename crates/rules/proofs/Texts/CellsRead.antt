-- A cell as it was written is read, and it is made.
use Rattle.std.specs.Prelude.{Ok}
use mathlib.Core.Path.{◌≡◌, refl, sym, ◌∙◌, ap, fun_ext}
use mathlib.Core.Logic.{◌≢◌}
use mathlib.Core.Bool.{true, not}
use mathlib.Core.List.{List, [], ◌∷◌}
use Prim.Native.Nat.{ℕ, zero, suc, pred, ◌+◌, ◌<◌, ◌≤◌}
use native.Mathlib.Nat.{add-zero}
use native.Mathlib.Omega.{arith}
use borrow.Author.Tests.{ne_eqb, lt-ltb}
use lib.Dec.{ltb}
use lib.IntN.{pos, nat_abs}
use Rattle.maths.specs.Tests.{all}
use Rattle.maths.proofs.Cases.{eq_or, lt_or, and_both}
use Rattle.maths.proofs.Tests.{all_of, count_le}
use Rattle.rules.specs.declared.operator.Operator.{Operator}
use Rattle.rules.specs.Complex.{Complex, Chain}
use Rattle.rules.specs.Good.{all_zero, closes}
use Rattle.rules.specs.Edits.{layers, make}
use Rattle.rules.specs.Operators.{Faces, chain_of, all_below, closed, make_step, step, edited}
use Rattle.rules.specs.Form.{entries_at, list_at, make_at, made_of}
use Rattle.rules.specs.Mesh.{one_face, each_face, write_cell, Place, Reading, read_cell}
use Rattle.rules.proofs.Layers.Frame.{Within, face_below}
use Rattle.rules.proofs.Accepting.Allowed.{CanMake}
use Rattle.rules.proofs.Layers.Seams.{Ends, minus-not-zero, one_not_zero, tail-is, head-is}
use Rattle.rules.proofs.Bytes.Faces.{ends-chain}
use Rattle.rules.proofs.Cells.Columns.{Bounds, bounds_face, made_bounds}
use Rattle.rules.proofs.Layers.Judged.{has_face, closes-is}
use Rattle.rules.proofs.Bytes.Fields.{byte_got}
use Rattle.rules.proofs.Texts.Texts.{Text, byte, two}
use Rattle.rules.proofs.Texts.ListsRead.{faces_below, face_text, below}
use Rattle.rules.proofs.Bytes.Decoded.{made}

-- the cell with the column v of dimension k, read from `at` to `next`
record CellRead (s : List ℕ) (k at : ℕ) (v : Chain) (next : ℕ) : Type 0 where
  form : make_at s k at ≡ Ok (Operator.Make k at, next)
  chain : chain_of (made_of s k at) ≡ v
  faces : (l : ℕ) → l < (made_of s k at).n → v ((made_of s k at).number l) ≢ pos 0

module _ {s : List ℕ} {at next : ℕ} {v : Chain} where
  seam_read : {a b : ℕ} → Ends v a b → Text s at (a ∷ b ∷ []) next → CellRead s 1 at v next
  unfolding make_at made_of
  seam_read {a} {b} E r =
      let t = two r in
      let form : make_at s 1 at ≡ Ok (Operator.Make 1 at, next) =
      rw (
        byte_got s at 0 255 a (record { there = omega arith; is = sym t.one; least = omega arith; most = omega (arith, E.low) }),
        byte_got s (at + 1) 0 255 b (record { there = t.there; is = sym t.other; least = omega arith; most = omega (arith, E.high) }),
        t.place,
      ) in
      record {
        form = form;
        chain = ends-chain (made_of s 1 at) ((made s at 1 (omega arith) form).1.1.seam refl) (rw add-zero t.one) t.other E;
        faces = λ l h. eq_or l 0
            (λ e. rw (e, add-zero, t.one) (minus-not-zero E.tail))
            (λ e. let q : l ≡ 1 = omega arith in rw (q, t.other) (one_not_zero E.head));
      }

  list_read : (k : ℕ) → ((i : ℕ) → nat_abs (v i) ≤ 1) → Within 96 v → Text s at (faces_below v 96 ∷ face_text v 96) next → CellRead s (suc (suc k)) at v next
  unfolding make_at made_of list_at entries_at chain_of
  list_read k u w (byte h e r) =
      let b = below 96 (omega arith) u r in
      let q : entries_at true s (faces_below v 96) (at + 1) ≡ Ok next = b.read (λ x. Ok x.0) in
      record {
        form = rw (
          ne_eqb (suc (suc k)) 0 (omega arith),
          ne_eqb (suc (suc k)) 1 (omega arith),
          byte_got s at 0 96 (faces_below v 96) (record { there = h; is = sym e; least = omega arith; most = count_le 96 _ }),
          q,
        );
        chain = fun_ext λ i. rw e (lt_or i 96 (λ l. b.has i l) (λ l. b.rest i l ∙ sym (w i l)));
        faces = λ l. rw e (b.each l);
      }

  cell_read : (k : ℕ) → ((i : ℕ) → nat_abs (v i) ≤ 1) → Within 96 v → Bounds (suc k) v → Text s at (write_cell (suc k) v) next → CellRead s (suc k) at v next
  unfolding write_cell each_face one_face
  cell_read zero u w b r = let E = (b.seam refl).2 in seam_read E (rw (tail-is E, head-is E) at r)
  cell_read (suc k) u w b r = list_read k u w (rw (ne_eqb (suc (suc k)) 1 (omega arith)) at r)

module _ {v : Chain} {X : Complex} (k : ℕ) (few : (X k).n ≤ 96) (c : CanMake (suc k) v X) where
  own : Within 96 v
  own i h = c.faces k refl i (omega arith)

  bounds : Bounds (suc k) v
  bounds = made_bounds c (λ q e. let q' : q ≡ k = omega arith in rw q' few)

  closed_is : closed (suc k) v X ≡ true
  unfolding closed
  closed_is =
      let f = bounds_face k bounds in
      let some : not (all_zero v) ≡ true = ap not (has_face v f.0 (face_below own f.0 f.1) f.1) in
      let shut : closes (X (pred k)).n (X k) v ≡ true = closes-is v (X (pred k)).n (X k) few (c.faces k refl) (c.closed k refl) in
      rw (ne_eqb (suc k) 0 (omega arith)) (and_both some shut)

  cell_made : (F : Faces) → chain_of F ≡ v → ((l : ℕ) → l < F.n → v (F.number l) ≢ pos 0) → make_step (suc k) F X ≡ edited (make (suc k) v X)
  unfolding make_step all_below
  cell_made F e f =
      let a : all F.n (λ l. ltb (F.number l) (X k).n) ≡ true =
      all_of F.n (λ l h. lt-ltb (F.number l) (X k).n (face_below (c.faces k refl) (F.number l) (f l h))) in
      let r : ltb (X (suc k)).n 96 ≡ true = lt-ltb (X (suc k)).n 96 c.room in
      rw (e, a, r, closed_is)

  -- the whole of reading one cell
  pub cell-taken : {s : List ℕ} {at next : ℕ} → Text s at (write_cell (suc k) v) next →
      (go : Place → Reading) → read_cell s (suc k) (X, at) go ≡ go (layers (make (suc k) v X), next)
  unfolding read_cell step
  cell-taken {s} {at} {next} r go = let q = cell_read k c.units own bounds r in rw (q.form, cell_made (made_of s (suc k) at) q.chain q.faces)
