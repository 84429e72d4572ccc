-- The texts of a mesh by stored matrix, and what it is to put a text into a buffer.
use Rattle.std.specs.Prelude.{List, [], ◌∷◌, ℕ, ℤ}
use Rattle.maths.specs.Sums.{join}
use Rattle.maths.specs.Tables.{column}
use Rattle.maths.specs.Buffers.{Fits}
use Rattle.rules.specs.Complex.{Pattern, Chain, complex}
use Rattle.rules.specs.Mesh.{face_count, tail_of, head_of, pair, each_face, write_cell, write_mesh}
use Rattle.rules.specs.Good.{Held}
use Rattle.grid.specs.Grid.{Line, Columns}

-- a seam, and a cell of a higher dimension
abbrev pub seam_text : Chain → List ℕ
seam_text v = tail_of v ∷ head_of v ∷ []

abbrev pub list_text : Chain → List ℕ
list_text v = face_count v ∷ each_face pair v

-- the first n cells of dimension k
unfoldable pub cell_texts : ℕ → List ℤ → ℕ → List ℕ
cell_texts k m n = join n (λ j. write_cell k (column m j))

-- their section: how many, and the cells
abbrev pub section_text : ℕ → List ℤ → ℕ → List ℕ
section_text k m n = n ∷ cell_texts k m n

-- column j of a stored matrix, and room for its text
pub record ColumnFits (m : List ℤ) (j : ℕ) (out : List ℕ) (at : ℕ) (text : List ℕ) : Type 0 where
  pub line : Line m j
  pub room : Fits out at text

-- the first n columns of a stored matrix, and room for their text
pub record ColumnsFit (m : List ℤ) (n : ℕ) (out : List ℕ) (at : ℕ) (text : List ℕ) : Type 0 where
  pub columns : Columns m n
  pub room : Fits out at text

-- a good pattern, and room for its mesh
pub record MeshFits (p : Pattern) (out : List ℕ) : Type 0 where
  pub held : Held p
  pub room : Fits out 0 (write_mesh (complex p))
