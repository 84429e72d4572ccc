-- Rings: what is one, and when two are the same.
use Rattle.std.specs.Prelude.{◌≡◌, Bool, not, cond, ◌&&◌, ◌++◌, ℕ, suc, eqb, ltb, length, get_or, take, drop}
use Rattle.maths.specs.Tests.{all}
use Rattle.rules.specs.Form.{within}
use Rattle.off.specs.Plain.{Ring}

-- corner l of a ring, and the one after it, which is the first for the last
abbrev pub corner_at : Ring → ℕ → ℕ
corner_at r l = get_or r l 0

unfoldable pub next_at : Ring → ℕ → ℕ
next_at r l = cond (eqb (suc l) (length r)) (corner_at r 0) (corner_at r (suc l))

-- every corner is one of the first n
unfoldable pub corners_below : ℕ → Ring → Bool
corners_below n r = all (length r) (λ l. ltb (corner_at r l) n)

-- no corner is one of those before it
unfoldable pub distinct : Ring → Bool
distinct r = all (length r) (λ l. all l (λ k. not (eqb (corner_at r k) (corner_at r l))))

-- "A ring has at least three corners, all distinct." More than 96 corners below 96 are not distinct.
unfoldable pub is_ring : Ring → Bool
is_ring r = within 3 96 (length r) && distinct r

-- the ring that starts at corner k of r
abbrev pub turned_to : ℕ → Ring → Ring
turned_to k r = drop k r ++ take k r

-- "the same ring up to its starting corner"
pub record SameRing (r s : Ring) : Type 0 where
  pub start : ℕ
  pub is : s ≡ turned_to start r
