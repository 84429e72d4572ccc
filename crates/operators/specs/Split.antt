-- What the code of a split needs, and what it leaves in the matrix of its cell and in the neighbours.
use Rattle.std.specs.Prelude.{◌≡◌, Bool, cond, List, ℕ, pred, ◌<◌, ◌≤◌, eqb, ℤ, pos, length, Ok}
use Rattle.std.specs.List.{All}
use Rattle.maths.specs.Tests.{is_zero}
use Rattle.maths.specs.Tables.{Entries, entries, column, tab}
use Rattle.grid.specs.Grid.{Units, Lines, LineFor}
use Rattle.rules.specs.declared.operator.Operator.{Operator}
use Rattle.rules.specs.Refusals.{accepted, wrong_part, wrong_divider}
use Rattle.rules.specs.Complex.{Pattern, Complex, Chain, bare, complex, stored, layer}
use Rattle.rules.specs.Edits.{boundary, part, divider, halves, repeated, split}
use Rattle.rules.specs.Operators.{Faces, chosen, is_part, divides, Outcome, edited, unless, after_step}
use Rattle.rules.specs.Form.{split_at}
use Rattle.rules.specs.Calls.{Lent, lent, coefficients}
use Rattle.rules.specs.Good.{Held}
use Rattle.operators.specs.Boundary.{edge}
use Rattle.operators.specs.Part.{part_of}

-- the bytes up to `list`, and from it on, are those of a cell to be split
pub record SplitForm (s : List ℕ) (dim cell list : ℕ) : Type 0 where
  pub least : 1 ≤ dim
  pub most : dim ≤ 3
  pub at : ℕ
  pub next : ℕ
  pub form : split_at s dim at ≡ Ok (Operator.Split dim cell list, next)

-- a good pattern, a cell to be split, and room for the two new ones
pub record Prepared (p : Pattern) (faces : List ℕ) (dim cell : ℕ) : Type 0 where
  pub held : Held p
  pub least : 1 ≤ dim
  pub most : dim ≤ 3
  pub few : All (λ i. i < 96) faces
  pub there : cell < (complex p dim).n
  pub room-below : (complex p (pred dim)).n < 96
  pub room : (complex p dim).n < 96

-- the rest of a split, once its cells are there and there is room
unfoldable pub part_step : ℕ → ℕ → Faces → Complex → Outcome
part_step k s F X =
    let m = pred k in
    let v : Chain = λ i. (X k).d i s in
    let p = chosen k F v in
    unless (is_part p v) wrong_part
    (unless (divides m (boundary (X m) (part p v))) wrong_divider (edited (split m s p X)))

-- the refusal, and what an outcome leaves in the matrices
abbrev pub leaves : Pattern → Outcome → Lent ℕ
leaves p o = after_step o (λ r. lent r p) λ Y. lent accepted (stored Y)

-- a matrix of -1, 0 and 1
pub record Fine (m : List ℤ) : Type 0 where
  pub size : length m ≡ 9216
  pub units : Units m

-- a cell of `mid` with room for a new half, and for cell t of `low` between them
pub record Splittable (dim cell t new : ℕ) (low mid high : List ℤ) : Type 0 where
  pub least : 1 ≤ dim
  pub most : dim ≤ 3
  pub cell_in : cell < new
  pub room : new < 96
  pub room-below : t < 96
  pub here : Fine mid
  pub free : (j : ℕ) → entries mid t j ≡ pos 0
  pub below : 2 ≤ dim → Fine low
  pub above : dim ≤ 2 → length high ≡ 9216

-- a refusal, and three neighbouring matrices
pub record Around : Type 0 where
  pub refusal : ℕ
  pub low : List ℤ
  pub mid : List ℤ
  pub high : List ℤ

abbrev pub around : ℕ → List ℤ → List ℤ → List ℤ → Around
around r low mid high = record { refusal = r; low = low; mid = mid; high = high }

-- what a split leaves in the matrix of its cell and in its neighbours: there is none below seams, and none above blocks
unfoldable pub divided : ℕ → ℕ → ℕ → ℕ → (ℕ → Bool) → List ℤ → List ℤ → List ℤ → Around
divided dim cell t new p low mid high =
    let v = column mid cell in
    let D = layer new mid in
    cond (is_part p v)
    (cond (divides (pred dim) (edge low (part p v)))
    (around accepted
    (cond (eqb dim 1) low (tab (divider cell p (layer t low) D).d))
    (tab (halves cell p (bare t) D).d)
    (cond (eqb dim 3) high (tab (repeated cell D (layer 0 high)).d)))
    (around wrong_divider low mid high))
    (around wrong_part low mid high)

-- column c without what is taken of it
unfoldable pub with_rest : ℕ → List ℤ → Entries → Entries
with_rest c taken f i j = cond (eqb j c) (cond (is_zero (coefficients taken i)) (f i c) (pos 0)) (f i j)

-- a matrix in which the row of t is still zero, a cell, and a place for its new half
pub record Halvable (cell t new : ℕ) (taken m : List ℤ) : Type 0 where
  pub size : length m ≡ 9216
  pub long : length taken ≡ 96
  pub cell_in : cell < new
  pub room : new < 96
  pub room-below : t < 96
  pub free : (j : ℕ) → entries m t j ≡ pos 0

-- whatever was chosen, its part was taken off
pub record Halved (cell t new : ℕ) (taken m m' : List ℤ) : Type 0 where
  pub is : (p : ℕ → Bool) → taken ≡ part_of p (column m cell) → m' ≡ tab (halves cell p (bare t) (layer new m)).d

-- the matrix below, unless the cell is a seam, and a column for it
pub record Dividable (dim : ℕ) (low : List ℤ) (t : ℕ) (edge : List ℤ) : Type 0 where
  pub least : 1 ≤ dim
  pub line : 2 ≤ dim → LineFor low t edge

-- the matrix above, unless the cell is a block
pub record Repeatable (dim : ℕ) (high : List ℤ) (cell new : ℕ) : Type 0 where
  pub most : dim ≤ 3
  pub lines : dim ≤ 2 → Lines high cell new
