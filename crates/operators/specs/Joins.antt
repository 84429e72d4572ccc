-- Merge in the one matrix that has the cell's row: what is tested there, and what it then holds.
use Rattle.std.specs.Prelude.{Result, Ok, Err, ◌≡◌, Bool, not, cond, ◌||◌, List, ℕ, suc, ◌<◌, ℤ, length}
use Rattle.maths.specs.Tests.{is_zero, count}
use Rattle.maths.specs.Tables.{Entries}
use Rattle.rules.specs.declared.refusals.Refusal.{Refusal}
use Rattle.grid.specs.Grid.{Units}
use Rattle.rules.specs.Complex.{Pattern, Chain, complex}
use Rattle.rules.specs.Good.{one_each}
use Rattle.rules.specs.Operators.{share_only, lower, higher}
use Rattle.operators.specs.Cells.{Cell}

-- column a
abbrev pub column_of : Entries → ℕ → Chain
column_of f a i = f i a

-- how many faces columns a and b share
abbrev pub both : ℤ → ℤ → Bool
both x y = not (is_zero x || is_zero y)

unfoldable pub shared_by : Entries → ℕ → ℕ → ℕ
shared_by f a b = count 96 (λ i. both (f i a) (f i b))

-- the two cells that cell t lies between, the lower first; 11 or 20 where it is none that merges them
abbrev pub Sides : Type 0
Sides = Result (ℕ × ℕ) Refusal

unfoldable pub sides_of : Entries → ℕ → Sides
sides_of f t =
    let v : Chain = λ j. f t j in
    cond (one_each v)
    (cond (share_only t (column_of f (lower v)) (column_of f (higher v))) (Ok (lower v, higher v)) (Err Refusal.SharedFace))
    (Err Refusal.NotBetween)

-- a stored matrix, one of its rows, and two of its columns, the lower first
pub record Apart (m : List ℤ) (t a b : ℕ) : Type 0 where
  pub size : length m ≡ 9216
  pub units : Units m
  pub row : t < 96
  pub less : a < b
  pub high : b < 96

-- a cell of a good pattern that lies between cells a and b, the lower first
pub record Between (p : Pattern) (dim t a b : ℕ) : Type 0 where
  pub cell : Cell 0 2 p dim t
  pub less : a < b
  pub high : b < (complex p (suc dim)).n
