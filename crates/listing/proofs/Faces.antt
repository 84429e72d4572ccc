-- The faces of a cell: which text each has, and how long the texts are.
use mathlib.Core.Path.{◌≡◌, refl, sym, ◌∙◌}
use mathlib.Core.Bool.{Bool, true, false, cond}
use mathlib.Core.List.{List, [], ◌++◌}
use Prim.Native.Nat.{ℕ, ◌+◌, ◌-◌, ◌*◌, ◌^◌, ◌<◌, ◌≤◌}
use native.Mathlib.Omega.{arith}
use lib.IntN.{ℤ, pos, negsuc}
use lib.ListN.{length, get_or, take, drop}
use lib.Signed.{lt_z, mag}
use mir.Syntax.{w8, w16}
use mir.Val.{Fits, to_z, of_z}
use borrow.Author.Tests.{ltb-true, ltb-false, ne_eqb}
use Rattle.maths.specs.Tests.{eq_z, is_zero, last}
use Rattle.std.proofs.lemmas.List.{get_or-take, get_or-drop}
use Rattle.maths.specs.Tables.{entries}
use Rattle.maths.proofs.Tables.{entries_in}
use Rattle.maths.proofs.Sizes.{back}
use Rattle.maths.proofs.Cases.{by_bool, no_eq}
use Rattle.maths.proofs.Tests.{last_le}
use Rattle.maths.proofs.Sums.{join-most}
use Rattle.maths.proofs.Buffers.{Pieces}
use Rattle.rules.specs.Complex.{Chain}
use Rattle.rules.specs.Printed.{text, decimal, signed_face}
use Rattle.rules.specs.Mesh.{one_face}
use Rattle.listing.proofs.Decimals.{decimal_2}

-- an entry below 0, above 0, and neither
pub face_minus : (i : ℕ) (z : ℤ) → lt_z z (pos 0) ≡ true → one_face signed_face i z ≡ text " -" ++ decimal i
unfolding one_face is_zero eq_z
face_minus i (pos n) e = let h = ltb-true n 0 e in absurd (omega arith)
face_minus i (negsuc n) e = refl

pub face_plus : (i : ℕ) (z : ℤ) → lt_z (pos 0) z ≡ true → one_face signed_face i z ≡ text " +" ++ decimal i
unfolding one_face is_zero eq_z
face_plus i (pos n) e = let h = ltb-true 0 n e in rw (ne_eqb n 0 (omega arith))
face_plus i (negsuc n) e = no_eq e

pub face_none : (i : ℕ) (z : ℤ) → lt_z z (pos 0) ≡ false → lt_z (pos 0) z ≡ false → one_face signed_face i z ≡ []
unfolding one_face is_zero eq_z
face_none i (pos n) e f = let h = ltb-false 0 n f in let q : n ≡ 0 = omega arith in rw q
face_none i (negsuc n) e f = no_eq (sym e)

-- a space, a sign and at most two digits
signed-most : (i : ℕ) (z : ℤ) → i < 96 → length (signed_face i z) ≤ 4
signed-most i (pos n) h = omega (arith, decimal_2 i (omega arith))
signed-most i (negsuc n) h = omega (arith, decimal_2 i (omega arith))

face_most : (i : ℕ) (z : ℤ) → i < 96 → length (one_face signed_face i z) ≤ 4
unfolding one_face
face_most i z h =
    by_bool (is_zero z) (λ t. length (cond t [] (signed_face i z)) ≤ 4) (λ e. omega arith) (λ e. signed-most i z h)

-- how far the faces below i reach
pub face_texts_most : (v : Chain) {i : ℕ} {x y : List ℕ} {at next : ℕ} →
    Pieces (λ i. one_face signed_face i (v i)) 96 i x at next y → next ≤ at + i * 4
face_texts_most v {i} p =
    omega (arith, p.put.place, join-most i 4 (λ i. one_face signed_face i (v i)) (λ k l. face_most k (v k) (omega (arith, p.most))))

-- the number of an entry of a column can be printed
pub last_fits : {r : ℕ} (p : ℕ → Bool) → r ≡ last 96 p → Fits w16 r
last_fits p e = omega (arith, last_le 96 p)

-- an entry of a stored column, read from its place
pub column_read : (m : List ℤ) (i j : ℕ) → i < 96 → j < 96 → let z = get_or (take (96 * j + 96 - 96 * j) (drop (96 * j) m)) i (pos 0) in
    mag z < 2 ^ 7 → to_z w8 (of_z w8 z) ≡ entries m i j
column_read m i j hi hj h =
    let e : get_or (take (96 * j + 96 - 96 * j) (drop (96 * j) m)) i (pos 0) ≡ get_or m (96 * j + i) (pos 0) =
    get_or-take (96 * j + 96 - 96 * j) (drop (96 * j) m) i (pos 0) (omega arith) ∙ get_or-drop (96 * j) m i (pos 0) in
    back w8 h ∙ e ∙ sym (entries_in m i j hi hj)
