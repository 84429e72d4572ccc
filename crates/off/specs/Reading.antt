-- What the code that reads an OFF text needs and answers, in the words of the definitions.
use Rattle.std.specs.Prelude.{◌≡◌, true, List, ℕ, ◌≤◌, ℤ, length, take, Option, None, Some}
use Rattle.std.specs.Borrow.{Bor}
use Rattle.off.specs.declared.lines.RingRead.{RingRead}
use Rattle.off.specs.Words.{Text, Found, none, found}
use Rattle.off.specs.Plain.{Ring}
use Rattle.off.specs.Rings.{corners_below}

-- what was read, and the text after it
abbrev pub found_of : {A : Type 0} → Option (A × Bor Text) → Found A
found_of None = none
found_of (Some (x, rest)) = found x rest.now

-- the text after the keyword
abbrev pub keyword_found : Option (Bor Text) → Found ℕ
keyword_found None = none
keyword_found (Some rest) = found 0 rest.now

-- coordinates that were read stand in the list
abbrev pub CoordinatesTaken : Found (List ℤ) → Option (Bor Text) → List ℤ → Type 0
CoordinatesTaken x None list = x ≡ none
CoordinatesTaken x (Some rest) list = x ≡ found list rest.now

-- 96 bytes for a ring, whose corners are below the limit
pub record RingRoom (limit : ℕ) (bytes : List ℕ) : Type 0 where
  pub room : length bytes ≡ 96
  pub small : limit ≤ 96

-- the ring that was read: if its corners are below the limit, and have room in the 96 bytes, they stand there
pub record IsRead (limit : ℕ) (ring : Ring) (read : RingRead) (bytes : List ℕ) : Type 0 where
  pub long : length ring ≡ read.length
  pub low : read.below ≡ corners_below limit ring
  pub stand : read.below ≡ true → read.length ≤ 96 → take read.length bytes ≡ ring

pub record RingHere (limit : ℕ) (x : Found Ring) (read : RingRead) (rest : Text) (bytes : List ℕ) : Type 0 where
  pub ring : Ring
  pub is : x ≡ found ring rest
  pub here : IsRead limit ring read bytes

abbrev pub RingTaken : ℕ → Found Ring → Option (RingRead × Bor Text) → List ℕ → Type 0
RingTaken limit x None bytes = x ≡ none
RingTaken limit x (Some (read, rest)) bytes = RingHere limit x read rest.now bytes
