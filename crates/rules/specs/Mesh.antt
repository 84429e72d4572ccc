-- "The two files": reading and writing a mesh.
use Rattle.std.specs.Prelude.{not, cond, List, [], ◌∷◌, ◌++◌, ℕ, zero, suc, ◌+◌, eqb, ℤ, pos, negsuc}
use Rattle.maths.specs.Tests.{eq_z, is_zero, count, last}
use Rattle.maths.specs.Sums.{join}
use Rattle.maths.specs.Repeat.{repeat}
use Rattle.rules.specs.declared.form.Fault.{Fault}
use Rattle.rules.specs.Refusals.{no_place}
use Rattle.rules.specs.Complex.{Complex, Chain, bare}
use Rattle.rules.specs.Operators.{step, after_step}
use Rattle.rules.specs.Form.{byte_at, after, make_at, after_operator, faces_of, fault_number, fault_place}

-- What reading finds: a fault of the form, a refusal by meaning, or a pattern and how many bytes it took.
pub data Reading : Type 0 where
  faulty : Fault → Reading
  refused : ℕ → Reading
  taken : Complex → ℕ → Reading

-- a pattern read so far, and the next place
abbrev pub Place : Type 0
Place = Complex × ℕ

-- n corners
abbrev pub corners : ℕ → Complex
corners n zero = bare n
corners n (suc k) = bare 0

-- one cell of dimension k, as make reads and judges it: form, then 5, then 7
unfoldable pub read_cell : List ℕ → ℕ → Place → (Place → Reading) → Reading
read_cell s k x go =
    after_operator (make_at s k x.1) faulty λ o next.
    after_step (step o (faces_of s o) x.0) refused λ X. go (X, next)

-- a count, and that many cells of dimension k
unfoldable pub read_section : List ℕ → ℕ → Place → (Place → Reading) → Reading
read_section s k x go = after (byte_at s x.1 0 96) faulty λ n. repeat (read_cell s k) go n (x.0, x.1 + 1)

-- "Mesh: corner count; seam count, then tail and head of each; panel count, then each panel ..; block count, then blocks in the same way."
unfoldable pub read_mesh : List ℕ → Reading
read_mesh s =
    after (byte_at s 0 0 96) faulty λ n.
    read_section s 1 (corners n, 1) λ x.
    read_section s 2 x λ y.
    read_section s 3 y λ z. taken z.0 z.1

-- what follows reading: `bad` of the refusal's number and place, or `go` of the pattern and of the bytes used
abbrev pub after_reading : {A : Type 0} → Reading → (ℕ → ℕ → A) → (Complex → ℕ → A) → A
after_reading (faulty f) bad go = bad (fault_number f) (fault_place f)
after_reading (refused r) bad go = bad r no_place
after_reading (taken X used) bad go = go X used

-- the number of the face with the value z
abbrev pub face_with : ℤ → Chain → ℕ
face_with z v = last 96 (λ i. eq_z (v i) z)

abbrev pub tail_of : Chain → ℕ
tail_of v = face_with (negsuc 0) v

abbrev pub head_of : Chain → ℕ
head_of v = face_with (pos 1) v

-- the text of face i, whose entry is z: nothing where that is 0
unfoldable pub one_face : (ℕ → ℤ → List ℕ) → ℕ → ℤ → List ℕ
one_face f i z = cond (is_zero z) [] (f i z)

-- a text for each face of a column, rising
unfoldable pub each_face : (ℕ → ℤ → List ℕ) → Chain → List ℕ
each_face f v = join 96 (λ i. one_face f i (v i))

-- how many faces it has
abbrev pub face_count : Chain → ℕ
face_count v = count 96 (λ i. not (is_zero (v i)))

-- "pairs (number, sign), sign 1 for plus and 2 for minus"
abbrev pub pair : ℕ → ℤ → List ℕ
pair i z = i ∷ cond (eq_z z (pos 1)) 1 2 ∷ []

-- a cell of dimension k: tail and head of a seam; face count and pairs
unfoldable pub write_cell : ℕ → Chain → List ℕ
write_cell k v = cond (eqb k 1) (tail_of v ∷ head_of v ∷ []) (face_count v ∷ each_face pair v)

unfoldable pub write_section : ℕ → Complex → List ℕ
write_section k X = (X k).n ∷ join (X k).n (λ j. write_cell k (λ i. (X k).d i j))

unfoldable pub write_mesh : Complex → List ℕ
write_mesh X = (X 0).n ∷ (write_section 1 X ++ (write_section 2 X ++ write_section 3 X))
