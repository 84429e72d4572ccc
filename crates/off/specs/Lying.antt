-- A pattern while it is sewn: how it lies in the lent matrices, and what each piece of code needs and leaves of it.
use Rattle.std.specs.Prelude.{◌≡◌, ◌≢◌, true, List, ℕ, ◌<◌, ◌≤◌, ℤ, pos, nat_abs, length, Option, MatchOption, Result, MatchResult}
use Rattle.std.specs.Borrow.{Bor}
use Rattle.maths.specs.Tables.{Entries, entries, tab}
use Rattle.rules.specs.declared.counts.Counts.{Counts}
use Rattle.rules.specs.declared.refusals.Refusal.{Refusal}
use Rattle.rules.specs.Told.{refusal_number}
use Rattle.rules.specs.Counts.{count_of}
use Rattle.rules.specs.Complex.{pattern, Complex, layer, complex}
use Rattle.rules.specs.Good.{Held}
use Rattle.rules.specs.Operators.{chain_of}
use Rattle.rules.specs.Edits.{layers, put, make}
use Rattle.maths.specs.Repeat.{repeat}
use Rattle.off.specs.declared.lines.RingRead.{RingRead}
use Rattle.off.specs.Words.{Text, Found, none, found}
use Rattle.off.specs.Plain.{Ring}
use Rattle.off.specs.Rings.{corner_at, next_at, corners_below, is_ring}
use Rattle.off.specs.RingBytes.{Corners}
use Rattle.off.specs.Reading.{IsRead}
use Rattle.off.specs.Sewing.{Sewn, refused, sewn, tail_head, meet_side, sides, sew_ring, sew_all, seam_of}

-- the third matrix of a pattern with no block
abbrev pub no_block : List ℤ
no_block = tab (λ i j. pos 0)

-- the pattern that is sewn so far
abbrev pub drawn : Counts → List ℤ → List ℤ → Complex
drawn c m1 m2 = complex (pattern c m1 m2 no_block)

-- the seams by their two ends, which the third matrix has until all is sewn
abbrev pub seam_table : Counts → List ℤ → List ℤ
seam_table c m1 = tab (seam_of (layer (count_of c 1) m1))

pub record Drawn (c : Counts) (m1 m2 m3 : List ℤ) : Type 0 where
  pub held : Held (pattern c m1 m2 no_block)
  pub flat : count_of c 3 ≡ 0
  pub ends : m3 ≡ seam_table c m1

-- matrices of the right length
pub record Matrices (m1 m2 m3 : List ℤ) : Type 0 where
  pub size1 : length m1 ≡ 9216
  pub size2 : length m2 ≡ 9216
  pub size3 : length m3 ≡ 9216

-- an answer and matrices are what sewing came to
pub record Stands (x : Sewn) (a : Result Counts Refusal) (m1 m2 m3 : List ℤ) : Type 0 where
  pub sizes : Matrices m1 m2 m3
  pub is : MatchResult a (λ c. (x ≡ sewn (drawn c m1 m2)) × Drawn c m1 m2 m3) (λ r. x ≡ refused (refusal_number r))

-- seams that lie in m1 and m3, of a pattern with some panels
pub record Seams (c : Counts) (m1 m3 : List ℤ) : Type 0 where
  pub panels : List ℤ
  pub drawn : Drawn c m1 panels m3

-- two corners
pub record TwoCorners (c : Counts) (a b : ℕ) (m1 m3 : List ℤ) : Type 0 where
  pub seams : Seams c m1 m3
  pub apart : a ≢ b
  pub first : a < count_of c 0
  pub second : b < count_of c 0

-- the same, and room for a seam between them, which is not there
pub record NewSeam (c : Counts) (a b : ℕ) (m1 m3 : List ℤ) : Type 0 where
  pub corners : TwoCorners c a b m1 m3
  pub absent : seam_of (layer (count_of c 1) m1) a b ≡ pos 0
  pub room : count_of c 1 < 96

-- the pattern with that seam
unfoldable pub sewn_new : ℕ → ℕ → Complex → Sewn
sewn_new a b X = sewn (layers (make 1 (chain_of (tail_head a b)) X))

-- the pattern with all sides of the ring r
unfoldable pub meet_sides : Ring → Complex → Sewn
meet_sides r X = repeat (meet_side r) (λ x. sewn x.0) (length r) (X, 0)

-- what `part` makes of every pattern with the seams of m1 is left
pub record Joined (part : Complex → Sewn) (c : Counts) (m1 : List ℤ) (a : Result Counts Refusal) (m1' m3' : List ℤ) : Type 0 where
  pub stands : (m2 : List ℤ) → Held (pattern c m1 m2 no_block) → count_of c 3 ≡ 0 → Stands (part (drawn c m1 m2)) a m1' m2 m3'

-- a ring of at most 96 corners of a pattern, and the seams
pub record RingOn (c : Counts) (ring : Ring) : Type 0 where
  pub few : length ring ≤ 96
  pub below : corners_below (count_of c 0) ring ≡ true

pub record RingSeams (c : Counts) (r : Ring) (m1 m3 : List ℤ) : Type 0 where
  pub on : RingOn c r
  pub ring : is_ring r ≡ true
  pub seams : Seams c m1 m3

-- a panel column that is empty, and a seam for each side of a ring, each another
pub record SidesRoom (ring : Ring) (m3 m2 : List ℤ) (j : ℕ) : Type 0 where
  pub long : 1 ≤ length ring
  pub corners : Corners ring
  pub size3 : length m3 ≡ 9216
  pub size2 : length m2 ≡ 9216
  pub inside : j < 96
  pub blank : (i : ℕ) → entries m2 i j ≡ pos 0
  pub some : (l : ℕ) → l < length ring → entries m3 (corner_at ring l) (next_at ring l) ≢ pos 0
  pub small : (a b : ℕ) → nat_abs (entries m3 a b) ≤ 96
  pub apart : (k l : ℕ) → k < length ring → l < length ring → k ≢ l → (sides (entries m3) ring).number k ≢ (sides (entries m3) ring).number l

-- a panel column, and the number of a seam with a sign, counted from 1
pub record SideRoom (m2 : List ℤ) (j : ℕ) (z : ℤ) : Type 0 where
  pub size : length m2 ≡ 9216
  pub inside : j < 96
  pub some : z ≢ pos 0
  pub small : nat_abs z ≤ 96

-- column j with the chain of the sides of the ring r
unfoldable pub with_sides : Ring → Entries → ℕ → Entries → Entries
with_sides r seam j f i = put j (chain_of (sides seam r) i) (f i)

-- what a ring is sewn to
pub record RingDrawn (c : Counts) (ring : Ring) (m1 m2 m3 : List ℤ) : Type 0 where
  pub drawn : Drawn c m1 m2 m3
  pub on : RingOn c ring
  pub panels : count_of c 2 < 96

-- a ring that was read, to be sewn on
pub record NextRing (c : Counts) (read : RingRead) (bytes : List ℕ) (m1 m2 m3 : List ℤ) : Type 0 where
  pub drawn : Drawn c m1 m2 m3
  pub panels : count_of c 2 < 96
  pub room : length bytes ≡ 96
  pub ring : Ring
  pub here : IsRead (count_of c 0) ring read bytes

-- it is sewn on, whichever ring it is: of one that has no room in the bytes its length is enough to know
pub record NextSewn (c : Counts) (read : RingRead) (bytes : List ℕ) (m1 m2 : List ℤ) (a : Result Counts Refusal) (m1' m2' m3' : List ℤ) : Type 0 where
  pub stands : (ring : Ring) → IsRead (count_of c 0) ring read bytes → Stands (sew_ring ring (drawn c m1 m2)) a m1' m2' m3'

-- a pattern with no panel, and n to come
pub record PanelsRoom (c : Counts) (n : ℕ) (m1 m2 m3 : List ℤ) : Type 0 where
  pub drawn : Drawn c m1 m2 m3
  pub none : count_of c 2 ≡ 0
  pub few : n ≤ 96

-- the rings that were read, sewn one after the other
pub record PanelsHere (x : Found (List Ring)) (start : Sewn) (a : Result Counts Refusal) (rest : Text) (m1 m2 m3 : List ℤ) : Type 0 where
  pub rings : List Ring
  pub is : x ≡ found rings rest
  pub stands : Stands (sew_all start rings) a m1 m2 m3

-- and the matrices, whether all rings were there or not
pub record PanelsTaken (x : Found (List Ring)) (start : Sewn) (r : Option (Result Counts Refusal × Bor Text)) (m1 m2 m3 : List ℤ) : Type 0 where
  pub sizes : Matrices m1 m2 m3
  pub is : MatchOption r (x ≡ none) (λ p. PanelsHere x start p.0 p.1.now m1 m2 m3)
