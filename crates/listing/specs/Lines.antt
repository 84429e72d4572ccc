-- The lines of the printed result, one by one, and what putting one needs and leaves.
use Rattle.std.specs.Prelude.{◌≡◌, true, List, ◌++◌, ℕ, ◌+◌, ◌<◌, ◌≤◌, ℤ, length}
use Rattle.maths.specs.Buffers.{Put}
use Rattle.rules.specs.declared.counts.Counts.{Counts}
use Rattle.rules.specs.Counts.{count_of}
use Rattle.rules.specs.Form.{is_fault}
use Rattle.rules.specs.Printed.{text, line, decimal, whole, place_text}
use Rattle.grid.specs.Grid.{Line}

-- a refusal, and the place of a fault
unfoldable pub stop_text : ℕ → ℕ → List ℕ
stop_text refusal place = text " refusal " ++ (decimal refusal ++ place_text refusal place)

-- the first line of a run: how many operators ran, the refusal, and the place of a fault
unfoldable pub ran_line : ℕ → ℕ → ℕ → List ℕ
ran_line ran refusal place = text "ran " ++ (decimal ran ++ (text " refusal " ++ (decimal refusal ++ (place_text refusal place ++ line))))

-- the four counts
unfoldable pub cells_line : Counts → List ℕ
cells_line c =
    text "cells " ++ (decimal (count_of c 0) ++ (text " " ++ (decimal (count_of c 1) ++ (text " " ++ (decimal (count_of c 2) ++ (text " " ++ (decimal (count_of c 3) ++ line)))))))

-- the Euler number
unfoldable pub euler_line : ℤ → List ℕ
euler_line z = text "euler " ++ (whole z ++ line)

-- a text of at most k bytes was put at a place
pub record PutWithin (k : ℕ) (before : List ℕ) (at : ℕ) (text : List ℕ) (next : ℕ) (after : List ℕ) : Type 0 where
  pub put : Put before at text next after
  pub most : next ≤ at + k

-- a fault's place has 16 bits
abbrev pub PlaceSmall : ℕ → ℕ → Type 0
PlaceSmall refusal place = is_fault refusal ≡ true → place < 65_536

-- column j of a stored matrix, and room for k bytes
pub record ColumnRoom (m : List ℤ) (j : ℕ) (out : List ℕ) (at k : ℕ) : Type 0 where
  pub line : Line m j
  pub room : at + k ≤ length out
