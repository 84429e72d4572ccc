-- The text of each piece of the printed result, and what putting one needs.
use Rattle.std.specs.Prelude.{List, ◌++◌, ℕ, ◌+◌, ◌*◌, ◌≤◌, ℤ, length}
use Rattle.maths.specs.Sums.{join}
use Rattle.maths.specs.Tables.{column}
use Rattle.rules.specs.declared.counts.Counts.{Counts}
use Rattle.rules.specs.Counts.{count_of}
use Rattle.rules.specs.Complex.{Chain}
use Rattle.rules.specs.Printed.{seam_line}
use Rattle.grid.specs.Grid.{Columns}
use Rattle.listing.specs.Lines.{ran_line, cells_line, euler_line}

-- a line for each of the first n columns of a stored matrix
unfoldable pub column_lines : (ℕ → Chain → List ℕ) → ℕ → List ℤ → List ℕ
column_lines f n m = join n (λ j. f j (column m j))

-- how a run ended, the counts, the Euler number and the seams
unfoldable pub run_text : ℕ → ℕ → ℕ → Counts → ℤ → List ℤ → List ℕ
run_text ran refusal place c z m = ran_line ran refusal place ++ (cells_line c ++ (euler_line z ++ column_lines seam_line (count_of c 1) m))

-- a stored matrix of n columns, and room for 96 lines of at most k bytes
pub record LinesRoom (k : ℕ) (m : List ℤ) (n : ℕ) (out : List ℕ) (at : ℕ) : Type 0 where
  pub columns : Columns m n
  pub room : at + 96 * k ≤ length out
