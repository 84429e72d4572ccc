-- A pattern as it is stored, and as a complex: a layer of cells for each dimension.
use Rattle.std.specs.Prelude.{◌≡◌, List, [], ◌∷◌, ℕ, zero, suc, ℤ, pos, ◌+ℤ◌, ◌-ℤ◌, length}
use Rattle.maths.specs.Tables.{Entries, entries, tab}
use Rattle.rules.specs.declared.counts.Counts.{Counts}
use Rattle.rules.specs.Counts.{count_of}

-- The counts and the three matrices. "Entry (row i, column j) stands at 96·j + i of a buffer of exactly 9,216 signed bytes."
pub record Pattern : Type 0 where
  pub counts : Counts
  pub m1 : List ℤ
  pub m2 : List ℤ
  pub m3 : List ℤ

abbrev pub pattern : Counts → List ℤ → List ℤ → List ℤ → Pattern
pattern c m1 m2 m3 = record { counts = c; m1 = m1; m2 = m2; m3 = m3 }

-- a stored pattern of the right lengths
pub record Sized (p : Pattern) : Type 0 where
  pub four : length p.counts.n ≡ 4
  pub size1 : length p.m1 ≡ 9216
  pub size2 : length p.m2 ≡ 9216
  pub size3 : length p.m3 ≡ 9216

-- The cells of one dimension k: how many, and matrix k. "A row per cell of dimension k-1 and a column per cell of dimension k."
pub record Layer : Type 0 where
  pub n : ℕ
  pub d : Entries

-- the cells whose matrix is stored in m
abbrev pub layer : ℕ → List ℤ → Layer
layer n m = record { n = n; d = entries m }

-- "Cells of dimension 0 (corner), 1 (seam), 2 (panel), 3 (block)"
abbrev pub Complex : Type 0
Complex = ℕ → Layer

-- a coefficient for each cell of one dimension; a column of a matrix is a chain of faces
abbrev pub Chain : Type 0
Chain = ℕ → ℤ

-- n cells that have no faces
abbrev pub bare : ℕ → Layer
bare n = record { n = n; d = λ i j. pos 0 }

-- "The empty pattern"
abbrev pub empty : Complex
empty k = bare 0

-- the complex of a stored pattern
abbrev pub complex : Pattern → Complex
complex p zero = bare (count_of p.counts 0)
complex p (suc zero) = layer (count_of p.counts 1) p.m1
complex p (suc (suc zero)) = layer (count_of p.counts 2) p.m2
complex p (suc (suc (suc zero))) = layer (count_of p.counts 3) p.m3
complex p (suc (suc (suc (suc k)))) = bare 0

abbrev pub counts_of : Complex → Counts
counts_of X = record { n = (X 0).n ∷ (X 1).n ∷ (X 2).n ∷ (X 3).n ∷ [] }

-- how a complex is stored
abbrev pub stored : Complex → Pattern
stored X = record { counts = counts_of X; m1 = tab (X 1).d; m2 = tab (X 2).d; m3 = tab (X 3).d }

-- "The Euler number is n0 - n1 + n2 - n3"
unfoldable pub euler : Complex → ℤ
euler X = pos (X 0).n -ℤ pos (X 1).n +ℤ pos (X 2).n -ℤ pos (X 3).n
