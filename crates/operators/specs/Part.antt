-- The chosen part of a cell's boundary: what the code that takes it needs and gives.
use Rattle.std.specs.Prelude.{Option, Some, None, Bool, not, cond, ◌&&◌, List, [], ℕ, ◌+◌, ◌<◌, ◌≤◌, eqb, ℤ, pos, length, get_or}
use Rattle.std.specs.List.{between}
use Rattle.maths.specs.Tests.{eq_z, is_zero, all}
use Rattle.maths.specs.Tables.{table}
use Rattle.rules.specs.Complex.{Chain}
use Rattle.rules.specs.Edits.{part}
use Rattle.rules.specs.Operators.{Faces, is_part}

-- the bytes of the numbers that are listed at `list`, whose count stands before them; a seam lists none
abbrev pub listing : List ℕ → ℕ → ℕ → List ℕ
listing s dim list = cond (eqb dim 1) [] (between (list + 1) (list + 1 + get_or s list 0) s)

-- bytes that are the numbers of faces
abbrev pub numbers : List ℕ → Faces
numbers faces = record { n = length faces; number = λ l. get_or faces l 0; sign = λ l. pos 1 }

-- a list that is there, unless the cell is a seam
pub record ListForm (s : List ℕ) (dim list : ℕ) : Type 0 where
  pub least : 1 ≤ dim
  pub inside : 2 ≤ dim → list + get_or s list 0 < length s

-- the head of a seam
abbrev pub head : Chain → ℕ → Bool
head v i = eq_z (v i) (pos 1)

-- the chosen part of a column, as a list
abbrev pub part_of : (ℕ → Bool) → Chain → List ℤ
part_of p v = table 96 (part p v)

-- each listed face has a non-zero entry
unfoldable pub all_there : Faces → Chain → Bool
all_there F v = all F.n (λ l. not (is_zero (v (F.number l))))

-- w is all of v
abbrev pub is_all_of : Chain → Chain → Bool
is_all_of w v = all 96 (λ i. eq_z (v i) (w i))

-- w has a face, and is not all of v
unfoldable pub is_true_part : Chain → Chain → Bool
is_true_part w v = not (all 96 (λ i. is_zero (w i))) && not (is_all_of w v)

-- what is chosen of a column, where it is a part that can be split off
unfoldable pub part_taken : (ℕ → Bool) → Chain → Option (List ℤ)
part_taken p v = cond (is_part p v) (Some (part_of p v)) None
