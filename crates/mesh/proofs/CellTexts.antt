-- The texts of cells: how many faces they have, and how long they are.
use mathlib.Core.Path.{◌≡◌, refl, sym, ap, ◌∙◌}
use mathlib.Core.Bool.{not, cond}
use mathlib.Core.List.{List, [], map}
use Prim.Native.Nat.{ℕ, zero, suc, ◌+◌, ◌-◌, ◌*◌, ◌/◌, ◌<◌, ◌≤◌}
use native.Mathlib.Numerals.{add-one}
use native.Mathlib.Omega.{arith}
use lib.IntN.{ℤ, pos}
use lib.ListN.{length, length-append, get_or}
use mir.Syntax.{w8}
use mir.Val.{to_z, of_z}
use Rattle.std.specs.List.{sum, sum_by, range_with_len, between}
use Rattle.std.proofs.lemmas.List.Edits.{get_or-between}
use Rattle.std.proofs.lemmas.List.FromFn.{sum_by-map-range_with_len_more}
use Rattle.std.proofs.lemmas.List.Sums.{sum-map}
use Rattle.maths.specs.Tests.{eq_z, is_zero, count}
use Rattle.maths.specs.Sums.{join}
use Rattle.maths.specs.Tables.{column, entries}
use Rattle.maths.proofs.Tables.{entries_in}
use Rattle.maths.proofs.Cases.{by_bool}
use Rattle.maths.proofs.Tests.{count_le, last_le}
use Rattle.maths.proofs.Sums.{join-zero, join-next, join-most}
use Rattle.rules.specs.Complex.{Chain}
use Rattle.rules.specs.Mesh.{face_with, pair, each_face, write_cell, one_face, face_count}
use Rattle.rules.proofs.Texts.FaceTexts.{faces_are}
use Rattle.rules.proofs.Calls.Limits.{cell-length}
use Rattle.mesh.specs.Writing.{cell_texts}

-- two bytes for each face
faces-below : (n : ℕ) (v : Chain) → length (join n (λ i. one_face pair i (v i))) ≡ 2 * count n (λ i. not (is_zero (v i)))
unfolding join count one_face
faces-below zero v = refl
faces-below (suc n) v = rw (length-append, faces-below n v) (by_bool (is_zero (v n))
    (λ t. 2 * count n (λ i. not (is_zero (v i))) + length (cond t [] (pair n (v n))) ≡ 2 * (count n (λ i. not (is_zero (v i))) + cond (not t) 1 0))
    (λ e. omega arith)
    (λ e. omega arith))

pub faces_length : (v : Chain) → length (each_face pair v) ≡ 2 * face_count v
faces_length v = rw (← faces_are pair v) (faces-below 96 v)

-- how many there are, by the places before and after the count and them
pub faces_between : (v : Chain) (at : ℕ) {next : ℕ} → next ≡ at + 1 + length (each_face pair v) → (next - at) / 2 ≡ face_count v
faces_between v at e = omega (arith, faces_length v)

pub faces_most : (v : Chain) → face_count v ≤ 96
faces_most v = count_le 96 (λ i. not (is_zero (v i)))

-- a face's number
pub face_most : (z : ℤ) (v : Chain) → face_with z v ≤ 96
face_most z v = last_le 96 (λ i. eq_z (v i) z)

-- entry i of column j, as a byte of it is read
pub column_entry : (m : List ℤ) (i j : ℕ) → i < 96 → j < 96 → let z = get_or (between (96 * j) (96 * (j + 1)) m) i (pos 0) in
    to_z w8 (of_z w8 z) ≡ z → to_z w8 (of_z w8 z) ≡ entries m i j
column_entry m i j h l e = e ∙ get_or-between m (96 * j) (96 * (j + 1)) i (pos 0) (omega arith) ∙ sym (entries_in m i j h l)

module _ (k : ℕ) (m : List ℤ) where
  pub cells_none : length (cell_texts k m 0) ≡ 0
  unfolding cell_texts
  cells_none = rw join-zero

  pub cell_texts_more : (j : ℕ) → length (cell_texts k m (j + 1)) ≡ length (cell_texts k m j) + length (write_cell k (column m j))
  unfolding cell_texts
  cell_texts_more j = rw (join-next, length-append)

  pub cells_most : (n : ℕ) → length (cell_texts k m n) ≤ n * 193
  unfolding cell_texts
  cells_most n = join-most n 193 _ (λ j h. cell-length k (column m j))

  -- how long the first n are together
  abbrev long : ℕ → ℕ
  long j = length (write_cell k (column m j))

  pub cells-length : (n : ℕ) → sum_by long (range_with_len 0 n) ≡ length (cell_texts k m n)
  cells-length zero = sym cells_none
  cells-length (suc n) =
      sym (sum-map long (range_with_len 0 (suc n)))
      ∙ ap (λ i. sum (map long (range_with_len 0 i))) (sym (add-one n))
      ∙ sum_by-map-range_with_len_more (λ x. x) long 0 n n (omega arith)
      ∙ ap (λ l. l + long n) (sum-map long (range_with_len 0 n) ∙ cells-length n)
      ∙ sym (cell_texts_more n) ∙ ap (λ i. length (cell_texts k m i)) (add-one n)
