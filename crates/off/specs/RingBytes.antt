-- A ring as bytes.
use Rattle.std.specs.Prelude.{◌≡◌, true, List, ℕ, ◌≤◌, length}
use Rattle.off.specs.Rings.{corners_below}

-- at most 96 corners, each below 96
pub record Corners (ring : List ℕ) : Type 0 where
  pub few : length ring ≤ 96
  pub low : corners_below 96 ring ≡ true
