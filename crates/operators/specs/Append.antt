-- A column that is tested and then stored: in one matrix, and in the matrix of its dimension.
use Rattle.std.specs.Prelude.{◌≡◌, Bool, true, false, cond, List, ℕ, ◌<◌, ◌≤◌, ℤ, pos, nat_abs, length, get_or}
use Rattle.grid.specs.Grid.{Line, Summands, over, with_column}
use Rattle.rules.specs.Complex.{Pattern, Chain, complex, stored}
use Rattle.rules.specs.Edits.{layers, make}
use Rattle.rules.specs.Operators.{closed}
use Rattle.rules.specs.Calls.{Lent, lent}
use Rattle.rules.specs.Good.{Held}

-- whether a column was stored, and the matrix then
pub record Tried : Type 0 where
  pub done : Bool
  pub matrix : List ℤ

abbrev pub tried : Bool → List ℤ → Tried
tried done m = record { done = done; matrix = m }

-- the column v is stored at `at` where the test holds
unfoldable pub set_if : Bool → ℕ → List ℤ → List ℤ → Tried
set_if test at v m = cond test (tried true (over (with_column at v) m)) (tried false m)

-- the column v of a new cell of dimension k is stored where it closes
unfoldable pub appended : ℕ → Chain → Pattern → Lent Bool
appended k v p = cond (closed k v (complex p)) (lent true (stored (layers (make k v (complex p))))) (lent false p)

-- a column, and a matrix that it fits
pub record Storable (column m : List ℤ) (at : ℕ) : Type 0 where
  pub size : length column ≡ 96
  pub line : Line m at

-- the same, and the matrix below, of whose n cells the column is a chain
pub record Closable (low : List ℤ) (n : ℕ) (column m : List ℤ) (at : ℕ) : Type 0 where
  pub storable : Storable column m at
  pub summands : Summands low n column

-- the column of a new cell of dimension k
pub record Appendable (k : ℕ) (column : List ℤ) (p : Pattern) : Type 0 where
  pub dim : k ≤ 3
  pub held : Held p
  pub room : (complex p k).n < 96
  pub size : length column ≡ 96
  pub unit : (i : ℕ) → nat_abs (get_or column i (pos 0)) ≤ 1
