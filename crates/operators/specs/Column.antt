-- The column that the faces of a cell add up to: what the code that adds them needs and gives.
use Rattle.std.specs.Prelude.{◌≡◌, Option, Some, None, cond, List, ℕ, ◌+◌, ◌*◌, ◌/◌, ◌≤◌, eqb, ℤ, pos, negsuc, length, get_or, Ok}
use Rattle.maths.specs.Tables.{table}
use Rattle.rules.specs.declared.operator.Operator.{Operator}
use Rattle.rules.specs.Operators.{Faces, chain_of, all_below}
use Rattle.rules.specs.Form.{make_at, sign_of}

-- the bytes from `list` on are those of a cell to be made
pub record MakeForm (s : List ℕ) (dim list : ℕ) : Type 0 where
  pub most : dim ≤ 3
  pub next : ℕ
  pub form : make_at s dim list ≡ Ok (Operator.Make dim list, next)

-- tail and head of a seam
abbrev pub ends : ℕ → ℕ → Faces
ends tail head = record { n = 2; number = λ l. cond (eqb l 0) tail head; sign = λ l. cond (eqb l 0) (negsuc 0) (pos 1) }

-- bytes that are pairs of a number and a sign
abbrev pub pairs_of : List ℕ → Faces
pairs_of b = record { n = length b / 2; number = λ l. get_or b (2 * l) 0; sign = λ l. sign_of (get_or b (2 * l + 1) 0) }

-- a cell to be made, of faces that are to be below n
pub record Drawable (s : List ℕ) (dim list n : ℕ) : Type 0 where
  pub bytes : MakeForm s dim list
  pub few : n ≤ 96

-- the chain of the faces as a column, where all are below n
unfoldable pub drawn : ℕ → Faces → Option (List ℤ)
drawn n F = cond (all_below n F) (Some (table 96 (chain_of F))) None
