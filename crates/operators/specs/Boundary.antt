-- The boundary of a chain of cells of a stored matrix: what the code that adds it up needs and gives.
use Rattle.std.specs.Prelude.{◌≡◌, Option, is_some, IfSome, List, ℕ, pred, ◌≤◌, ℤ}
use Rattle.maths.specs.Tables.{table}
use Rattle.grid.specs.Grid.{column_sum, Summands}
use Rattle.rules.specs.Complex.{Chain}
use Rattle.rules.specs.Operators.{divides}

-- the boundary of a chain in a stored matrix, and as a list
abbrev pub edge : List ℤ → Chain → Chain
edge low w = column_sum low 96 w

abbrev pub edge_of : List ℤ → Chain → List ℤ
edge_of low w = table 96 (edge low w)

-- a matrix and a chain of its cells, for a panel or block; no matrix is below a seam's
pub record BoundaryNeeds (dim : ℕ) (low taken : List ℤ) : Type 0 where
  pub least : 1 ≤ dim
  pub most : dim ≤ 3
  pub summands : 2 ≤ dim → Summands low 96 taken

-- the boundary of w, where a dividing cell can have it; that of a corner is not told
pub record BoundaryFound (dim : ℕ) (low : List ℤ) (w : Chain) (found : Option (List ℤ)) : Type 0 where
  pub fine : is_some found ≡ divides (pred dim) (edge low w)
  pub is : 2 ≤ dim → IfSome found (λ e. e ≡ edge_of low w)
