-- What an operator on one cell needs, before and after it is known that there is such a cell.
use Rattle.std.specs.Prelude.{ℕ, ◌<◌, ◌≤◌}
use Rattle.rules.specs.Complex.{Pattern, complex}
use Rattle.rules.specs.Good.{Held}

-- a dimension that the operator has, from `least` to `most`
pub record Dimension (least most dim : ℕ) : Type 0 where
  pub low : least ≤ dim
  pub high : dim ≤ most

-- a good pattern and one of its cells
pub record Cell (least most : ℕ) (p : Pattern) (dim cell : ℕ) : Type 0 where
  pub held : Held p
  pub range : Dimension least most dim
  pub there : cell < (complex p dim).n
