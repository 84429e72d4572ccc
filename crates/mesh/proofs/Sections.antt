-- The mesh of a pattern, section by section.
use mathlib.Core.Path.{◌≡◌}
use mathlib.Core.List.{List, [], ◌∷◌, ◌++◌, append_assoc}
use Prim.Native.Nat.{ℕ, ◌+◌, ◌≤◌}
use native.Mathlib.Omega.{arith}
use lib.IntN.{ℤ}
use lib.ListN.{length, length-append}
use Rattle.rules.specs.Counts.{count_of}
use Rattle.rules.specs.Complex.{Pattern, complex}
use Rattle.rules.specs.Mesh.{write_section, write_mesh}
use Rattle.rules.specs.Good.{Held}
use Rattle.grid.specs.Grid.{Columns}
use Rattle.mesh.specs.Writing.{cell_texts, section_text}
use Rattle.mesh.proofs.CellTexts.{cells_most}

abbrev seams : Pattern → List ℕ
seams p = section_text 1 p.m1 (count_of p.counts 1)

abbrev panels : Pattern → List ℕ
panels p = section_text 2 p.m2 (count_of p.counts 2)

abbrev blocks : Pattern → List ℕ
blocks p = section_text 3 p.m3 (count_of p.counts 3)

pub mesh-is : (p : Pattern) → (((count_of p.counts 0 ∷ []) ++ seams p) ++ panels p) ++ blocks p ≡ write_mesh (complex p)
unfolding write_mesh write_section cell_texts
mesh-is p = simp append_assoc

pub mesh-size : (p : Pattern) → length (write_mesh (complex p)) ≡ 1 + length (seams p) + length (panels p) + length (blocks p)
mesh-size p = rw (← mesh-is p) (simp length-append (omega arith))

-- the columns of each section
module _ {p : Pattern} (H : Held p) where
  pub seam_columns : Columns p.m1 (count_of p.counts 1)
  seam_columns = record { size = H.sized.size1; few = H.good.few 1 }

  pub panel-columns : Columns p.m2 (count_of p.counts 2)
  panel-columns = record { size = H.sized.size2; few = H.good.few 2 }

  pub block_columns : Columns p.m3 (count_of p.counts 3)
  block_columns = record { size = H.sized.size3; few = H.good.few 3 }

pub section_most : (k : ℕ) (m : List ℤ) (n : ℕ) → n ≤ 96 → length (section_text k m n) ≤ 18_529
section_most k m n h = omega (arith, cells_most k m n)
