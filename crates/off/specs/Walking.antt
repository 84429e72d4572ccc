-- What the code that goes round the panels needs and answers: ends, walks and lengths as bytes.
use Rattle.std.specs.Prelude.{◌≡◌, Bool, true, ◌&&◌, ◌||◌, List, ℕ, ◌<◌, ◌≤◌, eqb, ltb, ℤ, length, get_or, Option}
use Rattle.std.specs.Bool.{then_some}
use Rattle.maths.specs.Sums.{join}
use Rattle.maths.specs.Tables.{table, column}
use Rattle.rules.specs.Mesh.{tail_of, head_of, face_count}
use Rattle.grid.specs.Grid.{Line, Columns}
use Rattle.off.specs.declared.ends.Ends.{Ends}
use Rattle.off.specs.Plain.{Ring}
use Rattle.off.specs.Sewing.{SeamEnds}
use Rattle.off.specs.Exporting.{list_of, next_among, start_of, steps_from, walked, closes_up, ring_line}

-- what stands at a place of a list of bytes
abbrev pub byte_of : List ℕ → ℕ → ℕ
byte_of l a = get_or l a 0

-- the ends of seam j of a list
abbrev pub seam_at : List Ends → ℕ → Ends
seam_at ends j = get_or ends j (record { tail = 0; head = 0 })

-- the ends of seams, as a list
abbrev pub ends_by : List Ends → SeamEnds
ends_by ends = record { tail = λ j. (seam_at ends j).tail; head = λ j. (seam_at ends j).head }

-- the ends of seam column j of m1
abbrev pub column_ends : List ℤ → ℕ → Ends
column_ends m1 j = record { tail = tail_of (column m1 j); head = head_of (column m1 j) }

-- the ends of the first seam columns of m1
pub record EndsTaken (m1 : List ℤ) (ends : List Ends) : Type 0 where
  pub columns : Columns m1 (length ends)
  pub are : (j : ℕ) → j < length ends → seam_at ends j ≡ column_ends m1 j

-- the ends of at most 96 seams are corners below 96
pub record EndsLow (ends : List Ends) : Type 0 where
  pub few : length ends ≤ 96
  pub tail : (j : ℕ) → j < length ends → (seam_at ends j).tail < 96
  pub head : (j : ℕ) → j < length ends → (seam_at ends j).head < 96

-- two seams have the same two ends, in this order or the other
unfoldable pub same_ends : Ends → Ends → Bool
same_ends s t = (eqb s.tail t.tail && eqb s.head t.head) || (eqb s.tail t.head && eqb s.head t.tail)

-- the ends of a seam, and a list of where to go from each corner, and from nowhere
pub record StepRoom (next : List ℕ) (seam : Ends) : Type 0 where
  pub room : length next ≡ 97
  pub low-tail : seam.tail < 96
  pub low-head : seam.head < 96

-- panel j, and the ends of its seams
pub record PanelRoom (m2 : List ℤ) (j : ℕ) (ends : List Ends) : Type 0 where
  pub line : Line m2 j
  pub seams : EndsLow ends

-- the same, and a list that says nowhere
pub record NextRoom (m2 : List ℤ) (j : ℕ) (ends : List Ends) (next : List ℕ) : Type 0 where
  pub panel : PanelRoom m2 j ends
  pub blank : next ≡ table 97 (λ a. 96)

-- where the panel goes from each corner
abbrev pub next_by : List ℤ → ℕ → List Ends → ℕ → ℕ
next_by m2 j ends a = next_among (ends_by ends) (column m2 j) (length ends) a

-- the corner that a walk starts from, if there is one
abbrev pub start_found : (ℕ → ℕ) → Option ℕ
start_found next = then_some (ltb (start_of next) 96) (start_of next)

-- a list of where to go, and a corner
pub record WalkRoom (next : List ℕ) (start : ℕ) : Type 0 where
  pub size : length next ≡ 97
  pub low : (a : ℕ) → byte_of next a ≤ 96
  pub inside : start ≤ 96

-- the corners on the steps from `start`, and where these end
pub record Walk (next : List ℕ) (start end : ℕ) (ring : List ℕ) : Type 0 where
  pub comes : end ≡ steps_from (byte_of next) start (length ring)
  pub corners : ring ≡ list_of (length ring) (steps_from (byte_of next) start)

-- whether the walk of as many steps leads back to where it starts; then its corners
pub record WentRound (next : ℕ → ℕ) (r : Bool) (ring : List ℕ) : Type 0 where
  pub back : r ≡ ltb (start_of next) 96 && eqb (steps_from next (start_of next) (length ring)) (start_of next)
  pub corners : r ≡ true → ring ≡ walked next (length ring)

-- n panels, and the ends of their seams
pub record PanelsIn (m2 : List ℤ) (panels : ℕ) (ends : List Ends) : Type 0 where
  pub columns : Columns m2 panels
  pub seams : EndsLow ends

-- panel j closes up, and its ring
abbrev pub panel_closes : List ℤ → List Ends → ℕ → Bool
panel_closes m2 ends j = closes_up (next_by m2 j ends) (face_count (column m2 j))

abbrev pub panel_ring : List ℤ → List Ends → ℕ → Ring
panel_ring m2 ends j = walked (next_by m2 j ends) (face_count (column m2 j))

-- the lines of the first n panels
unfoldable pub ring_lines : List ℤ → List Ends → ℕ → List ℕ
ring_lines m2 ends n = join n (λ j. ring_line (panel_ring m2 ends j))
