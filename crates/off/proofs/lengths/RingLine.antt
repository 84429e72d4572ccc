-- The line of a ring: its three parts, and how long they are.
use mathlib.Core.Path.{◌≡◌, refl}
use mathlib.Core.List.{List, ◌++◌}
use Prim.Native.Nat.{ℕ, ◌+◌, ◌<◌}
use native.Mathlib.Omega.{arith}
use lib.Dec.{ltb}
use lib.ListN.{length, get_or, length-append}
use borrow.Author.Tests.{ltb-true}
use Rattle.maths.proofs.Tests.{all-at}
use Rattle.rules.specs.Printed.{line}
use Rattle.off.specs.Rings.{corner_at, corners_below}
use Rattle.off.specs.Exporting.{number, ring_line}
use Rattle.off.specs.RingBytes.{Corners}
use Rattle.off.specs.Writing.{spaced}

pub byte_low : {ring : List ℕ} → Corners ring → (l : ℕ) → l < length ring → get_or ring l 0 < 96
unfolding corners_below
byte_low {ring} corners l h =
    ltb-true (corner_at ring l) 96 (all-at (length ring) (λ l. ltb (corner_at ring l) 96) corners.low l h)

module _ (ring : List ℕ) where
  pub ring-line : ring_line ring ≡ number (length ring) ++ (spaced ring (length ring) ++ line)
  unfolding ring_line
  ring-line = refl

  pub ring-line-length : length (ring_line ring) ≡ length (number (length ring)) + length (spaced ring (length ring)) + 1
  ring-line-length = rw ring-line (simp length-append (omega arith))
