-- A cell that was read and made is written as it stood.
use Rattle.std.specs.Prelude.{Ok}
use mathlib.Core.Path.{◌≡◌, refl, sym}
use mathlib.Core.Logic.{◌≢◌}
use mathlib.Core.Bool.{true}
use mathlib.Core.List.{List, [], ◌∷◌}
use Prim.Native.Nat.{ℕ, zero, suc, ◌+◌, ◌*◌, ◌<◌, ◌≤◌}
use native.Mathlib.Nat.{add-zero}
use native.Mathlib.Omega.{arith}
use borrow.Author.Tests.{ne_eqb}
use lib.ListN.{get_or}
use Rattle.rules.specs.declared.form.Fault.{Fault}
use Rattle.rules.specs.declared.operator.Operator.{Operator}
use Rattle.rules.specs.Complex.{Complex, Chain}
use Rattle.rules.specs.Edits.{layers, make}
use Rattle.rules.specs.Operators.{Faces, Outcome, after_step, chain_of, make_step, step}
use Rattle.rules.specs.Form.{make_at, made_of}
use Rattle.rules.specs.Mesh.{Reading, faulty, refused, taken, Place, read_cell, tail_of, head_of, one_face, each_face, write_cell}
use Rattle.rules.proofs.Bytes.Fields.{after_operator_lem}
use Rattle.rules.proofs.Layers.Seams.{tail-is, head-is}
use Rattle.rules.proofs.Bytes.Faces.{Distinct, TailHead, GivenFaces, chain-at, chain_off}
use Rattle.rules.proofs.Bytes.Listed.{Listed}
use Rattle.rules.proofs.Bytes.Decoded.{made, seam_bytes, list_bytes}
use Rattle.rules.proofs.Accepting.Passed.{MakeTests, make_tests}
use Rattle.rules.proofs.Accepting.Accepted.{made_below, made_ends}
use Rattle.rules.proofs.Texts.Texts.{Text, byte, two_text}
use Rattle.rules.proofs.Texts.ListsRead.{faces_below, face_text}
use Rattle.rules.proofs.Texts.ListsWritten.{Shown, list_written}

-- a fault or a refusal is nothing that was taken
pub no_fault : {Y : Complex} {used : ℕ} (f : Fault) → faulty f ≢ taken Y used
no_fault f e = let z : ◌≡◌ {A = ℕ} 0 1 = cc in omega arith

no_refusal : {Y : Complex} {used : ℕ} (r : ℕ) → refused r ≢ taken Y used
no_refusal r e = let z : ◌≡◌ {A = ℕ} 0 1 = cc in omega arith

-- a cell that was made, after which a pattern was taken
make-taken : {Y : Complex} {used : ℕ} (go : Complex → Reading) (k : ℕ) (F : Faces) (X : Complex) → after_step (make_step k F X) refused go ≡ taken Y used →
    MakeTests k F X (make_step k F X) × (go (layers (make k (chain_of F) X)) ≡ taken Y used)
make-taken go k F X e = let t = make_tests k F X (λ r q. no_refusal r (rw (← q) at e)) refl in (t, rw (← t.is) at e)

-- it is written with the bytes that it was read from
seam_text_lem : {s : List ℕ} {at next : ℕ} {o : Operator} {x : Outcome} (X : Complex) → (X 0).n ≤ 96 → make_at s 1 at ≡ Ok (o, next) →
    TailHead (made_of s 1 at) → MakeTests 1 (made_of s 1 at) X x → Text s at (tail_of (chain_of (made_of s 1 at)) ∷ head_of (chain_of (made_of s 1 at)) ∷ []) next
unfolding made_of
seam_text_lem {s} {at} X few e T m =
    let b = seam_bytes s at e in
    let E = made_ends 0 m few T in
    rw (tail-is E, head-is E, add-zero) (two_text (record { there = b.2; one = refl; other = refl; place = b.1 }))

module _ {s : List ℕ} {at next : ℕ} {x : Outcome} (k : ℕ) (X : Complex) (few : (X (suc k)).n ≤ 96) (D : Distinct (made_of s (suc (suc k)) at))
    (L : Listed true s at next) (m : MakeTests (suc (suc k)) (made_of s (suc (suc k)) at) X x) where
  shown : Shown s at (get_or s at 0) (chain_of (made_of s (suc (suc k)) at))
  unfolding made_of
  shown =
      let F = made_of s (suc (suc k)) at in
      record {
        inside = omega (arith, L.next-is, L.inside);
        rising = L.rising;
        signs = L.signs refl;
        below = made_below (suc k) m few;
        has = λ l h. chain-at F D l h;
        rest = λ i off. chain_off F i off;
      }

  list_text_lem : let v = chain_of (made_of s (suc (suc k)) at) in Text s at (faces_below v 96 ∷ face_text v 96) next
  list_text_lem =
      let w = list_written shown in
      let p : next ≡ at + 1 + 2 * get_or s at 0 = omega (arith, L.next-is) in
      rw p (byte L.there (sym w.0) w.1)

cell-text : {s : List ℕ} {at next : ℕ} {o : Operator} {x : Outcome} (k : ℕ) (X : Complex) → (X k).n ≤ 96 → make_at s (suc k) at ≡ Ok (o, next) →
    GivenFaces (suc k) (made_of s (suc k) at) → MakeTests (suc k) (made_of s (suc k) at) X x → Text s at (write_cell (suc k) (chain_of (made_of s (suc k) at))) next
unfolding write_cell each_face one_face
cell-text zero X few e g m = seam_text_lem X few e (g.seam refl) m
cell-text {s} {at} (suc k) X few e g m =
    rw (ne_eqb (suc (suc k)) 1 (omega arith)) (list_text_lem k X few (g.signed (omega arith)) (list_bytes s at k e).1 m)

module _ (go : Place → Reading) {Y : Complex} {used : ℕ} where
  pub cell_written : {s : List ℕ} {at : ℕ} (k : ℕ) (X : Complex) → k < 3 → (X k).n ≤ 96 → read_cell s (suc k) (X, at) go ≡ taken Y used →
      (v : Chain) × (next : ℕ) × Text s at (write_cell (suc k) v) next × (go (layers (make (suc k) v X), next) ≡ taken Y used)
  unfolding read_cell step
  cell_written {s} {at} k X l few e =
      let a = after_operator_lem (make_at s (suc k) at) no_fault e in
      let r = made s at (suc k) l a.2 in
      let m = make-taken (λ X. go (X, a.1)) (suc k) (made_of s (suc k) at) X (rw r.0 at a.3) in
      let g : (suc k ≤ 3) × GivenFaces (suc k) (made_of s (suc k) at) = rw r.0 at r.1 in
      (chain_of (made_of s (suc k) at), a.1, cell-text k X few a.2 g.1 m.0, m.1)
