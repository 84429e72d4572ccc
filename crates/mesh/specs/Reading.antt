-- What each part of the reading of a mesh needs and leaves.
use Rattle.std.specs.Prelude.{◌≡◌, Result, Ok, Err, List, ℕ, zero, suc, ◌≤◌}
use Rattle.rules.specs.declared.refusals.Stop.{Stop}
use Rattle.rules.specs.Refusals.{accepted, no_place}
use Rattle.rules.specs.Complex.{Pattern, complex}
use Rattle.rules.specs.Told.{stop_number, stop_place}
use Rattle.rules.specs.Mesh.{Reading, taken, Place, read_section, read_mesh, after_reading}
use Rattle.rules.specs.Good.{Held}

-- a good pattern, and a dimension
pub record Readable (k : ℕ) (p : Pattern) : Type 0 where
  pub dim : k ≤ 3
  pub held : Held p

-- the pattern and the place that are reached
abbrev pub reached : Pattern → ℕ → Place
reached p at = (complex p, at)

-- the number by which a reading is refused, and its place
abbrev pub refusal_of : Reading → ℕ × ℕ
refusal_of x = after_reading x (λ r at. (r, at)) (λ X used. (accepted, no_place))

abbrev pub told : Stop → ℕ × ℕ
told stop = (stop_number stop, stop_place stop)

-- a part of the reading that is read: it hands on the pattern and the place that are reached
pub record PartTaken (part : (Place → Reading) → Reading) (at : ℕ) (p : Pattern) : Type 0 where
  pub held : Held p
  pub goes : (go : Place → Reading) → part go ≡ go (reached p at)

-- a part of the reading that is stopped, whatever is to follow, with a good pattern
pub record PartStopped (part : (Place → Reading) → Reading) (stop : Stop) (p : Pattern) : Type 0 where
  pub held : Held p
  pub last : Reading
  pub is : (go : Place → Reading) → part go ≡ last
  pub refusal : refusal_of last ≡ told stop

abbrev pub PartRead : ((Place → Reading) → Reading) → Result ℕ Stop → Pattern → Type 0
PartRead part (Ok at) p = PartTaken part at p
PartRead part (Err stop) p = PartStopped part stop p

-- what is left to read from dimension k on
unfoldable pub from : List ℕ → ℕ → Place → Reading
from s zero x = taken x.0 x.1
from s (suc zero) x = read_section s 1 x λ y. read_section s 2 y λ z. read_section s 3 z λ w. taken w.0 w.1
from s (suc (suc zero)) x = read_section s 2 x λ y. read_section s 3 y λ z. taken z.0 z.1
from s (suc (suc (suc zero))) x = read_section s 3 x λ y. taken y.0 y.1
from s (suc (suc (suc (suc k)))) x = taken x.0 x.1

-- the mesh is read up to dimension k, or it is refused, with a good pattern
pub record TakenUpTo (s : List ℕ) (k at : ℕ) (p : Pattern) : Type 0 where
  pub held : Held p
  pub goes : read_mesh s ≡ from s k (reached p at)

pub record Refused (s : List ℕ) (stop : Stop) (p : Pattern) : Type 0 where
  pub held : Held p
  pub refusal : refusal_of (read_mesh s) ≡ told stop

abbrev pub ReadUpTo : List ℕ → ℕ → Result ℕ Stop → Pattern → Type 0
ReadUpTo s k (Ok at) p = TakenUpTo s k at p
ReadUpTo s k (Err stop) p = Refused s stop p
