-- What the tests of one and of two stored matrices say, column by column, and what each needs.
use Rattle.std.specs.Prelude.{◌≡◌, Bool, ◌&&◌, List, ℕ, ◌+◌, ◌-◌, ◌≤◌, ℤ, length}
use Rattle.maths.specs.Tests.{is_zero, is_unit, all}
use Rattle.grid.specs.Grid.{Units, Columns, nth}

-- a column: -1, 0 or 1 in the rows below the count, and 0 past it
unfoldable pub column_in_place : List ℤ → ℕ → Bool
column_in_place c rows = all rows (λ i. is_unit (nth c i)) && all (96 - rows) (λ i. is_zero (nth c (rows + i)))

-- a stored matrix, with its rows and columns in use
pub record Matrix (m : List ℤ) (rows n : ℕ) : Type 0 where
  pub columns : Columns m n
  pub short : rows ≤ 96

-- a column of 96, of which some rows are in use
pub record Column (c : List ℤ) (rows : ℕ) : Type 0 where
  pub long : length c ≡ 96
  pub short : rows ≤ 96

-- two neighbouring matrices of -1, 0 and 1, the lower one with its columns in use
pub record Neighbours (low high : List ℤ) (between : ℕ) : Type 0 where
  pub lower : Columns low between
  pub size : length high ≡ 9216
  pub lower_units : Units low
  pub upper_units : Units high
