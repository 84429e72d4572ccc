-- What the code that writes an OFF text needs: coordinates in range, numbers that have a text, and room for it.
use Rattle.std.specs.Prelude.{◌≡◌, Bool, true, not, ◌&&◌, List, ◌++◌, ℕ, ◌<◌, ◌≤◌, eqb, ℤ, pos, nat_abs, length, get_or}
use Rattle.maths.specs.Tests.{is_zero, all}
use Rattle.maths.specs.Sums.{join}
use Rattle.maths.specs.Tables.{entries}
use Rattle.maths.specs.Buffers.{Fits}
use Rattle.rules.specs.Printed.{text}
use Rattle.rules.specs.declared.counts.Counts.{Counts}
use Rattle.rules.specs.Counts.{count_of}
use Rattle.grid.specs.Grid.{Columns}
use Rattle.off.specs.Words.{farthest}
use Rattle.off.specs.Exporting.{number, signed, corner_line, ring_line, head_lines, coordinates_near, is_alone}
use Rattle.off.specs.declared.ends.Ends.{Ends}
use Rattle.off.specs.RingBytes.{Corners}
use Rattle.off.specs.Walking.{ends_by, PanelRoom, PanelsIn, panel_closes, panel_ring, ring_lines}

-- 288 coordinates, of which those of the first n corners are in range
pub record Near (list : List ℤ) (n : ℕ) : Type 0 where
  pub size : length list ≡ 288
  pub few : n ≤ 96
  pub near : coordinates_near n list ≡ true

-- one corner
pub record NearCorner (corner : List ℤ) : Type 0 where
  pub size : length corner ≡ 3
  pub near : (k : ℕ) → k < 3 → nat_abs (get_or corner k (pos 0)) ≤ farthest

-- a number of at most seven digits, and room for its text
pub record NumberFits (n : ℕ) (out : List ℕ) (at : ℕ) : Type 0 where
  pub small : n < 10_000_000
  pub room : Fits out at (number n)

pub record SignedFits (z : ℤ) (out : List ℕ) (at : ℕ) : Type 0 where
  pub near : nat_abs z ≤ farthest
  pub room : Fits out at (signed z)

pub record CornerFits (corner : List ℤ) (out : List ℕ) (at : ℕ) : Type 0 where
  pub near : NearCorner corner
  pub room : Fits out at (corner_line corner 0)

pub record CornersFit (list : List ℤ) (n : ℕ) (out : List ℕ) (at : ℕ) : Type 0 where
  pub corners : Near list n
  pub room : Fits out at (join n (corner_line list))

-- a blank and a corner's number
abbrev pub after_blank : ℕ → List ℕ
after_blank c = text " " ++ number c

-- the corners of a ring, a blank before each
abbrev pub spaced : List ℕ → ℕ → List ℕ
spaced r n = join n (λ l. after_blank (get_or r l 0))

pub record SpacedFit (ring : List ℕ) (out : List ℕ) (at : ℕ) : Type 0 where
  pub corners : Corners ring
  pub room : Fits out at (spaced ring (length ring))

pub record RingFits (ring : List ℕ) (out : List ℕ) (at : ℕ) : Type 0 where
  pub corners : Corners ring
  pub room : Fits out at (ring_line ring)

pub record PanelFits (m2 : List ℤ) (j : ℕ) (ends : List Ends) (out : List ℕ) (at : ℕ) : Type 0 where
  pub panel : PanelRoom m2 j ends
  pub closes : panel_closes m2 ends j ≡ true
  pub room : Fits out at (ring_line (panel_ring m2 ends j))

pub record RingsFit (m2 : List ℤ) (panels : ℕ) (ends : List Ends) (out : List ℕ) (at : ℕ) : Type 0 where
  pub there : PanelsIn m2 panels ends
  pub close : (j : ℕ) → j < panels → panel_closes m2 ends j ≡ true
  pub room : Fits out at (ring_lines m2 ends panels)

pub record HeadFits (corners panels seams : ℕ) (out : List ℕ) : Type 0 where
  pub few-corners : corners ≤ 96
  pub few-panels : panels ≤ 96
  pub few-seams : seams ≤ 96
  pub room : Fits out 0 (head_lines corners panels seams)

-- a pattern's matrix of panels, its coordinates and the ends of its seams
pub record Measurable (c : Counts) (m2 list : List ℤ) (ends : List Ends) : Type 0 where
  pub four : length c.n ≡ 4
  pub near : Near list (count_of c 0)
  pub seams : length ends ≡ count_of c 1
  pub panels : PanelsIn m2 (count_of c 2) ends

-- whether they have a text, and the text
unfoldable pub plain_by : Counts → List ℤ → List Ends → Bool
plain_by c m2 ends =
    eqb (count_of c 3) 0
    && all (count_of c 1) (λ i. not (all 96 (λ j. is_zero (entries m2 i j))))
    && all (count_of c 1) (is_alone (ends_by ends))
    && all (count_of c 2) (panel_closes m2 ends)

unfoldable pub text_by : Counts → List ℤ → List ℤ → List Ends → List ℕ
text_by c m2 list ends =
    head_lines (count_of c 0) (count_of c 2) (count_of c 1)
    ++ (join (count_of c 0) (corner_line list) ++ ring_lines m2 ends (count_of c 2))

pub record TextFits (c : Counts) (m2 list : List ℤ) (ends : List Ends) (out : List ℕ) : Type 0 where
  pub measured : Measurable c m2 list ends
  pub close : (j : ℕ) → j < count_of c 2 → panel_closes m2 ends j ≡ true
  pub room : Fits out 0 (text_by c m2 list ends)

-- what is known of a good pattern without its blocks
pub record Layers (c : Counts) (m1 m2 list : List ℤ) : Type 0 where
  pub four : length c.n ≡ 4
  pub corners : count_of c 0 ≤ 96
  pub seams : Columns m1 (count_of c 1)
  pub panels : Columns m2 (count_of c 2)
  pub size : length list ≡ 288

-- 288 coordinates, and n corners
pub record NearRoom (list : List ℤ) (n : ℕ) : Type 0 where
  pub size : length list ≡ 288
  pub few : n ≤ 96
