-- The pattern that a plain OFF text means: its corners, and panel by panel the seams not yet met and the panel, as make makes them.
use Rattle.std.specs.Prelude.{Bool, cond, ◌&&◌, List, [], ◌∷◌, ℕ, zero, suc, pred, ◌+◌, eqb, ℤ, pos, negsuc, nat_abs, length}
use Rattle.maths.specs.Tests.{is_zero}
use Rattle.maths.specs.Repeat.{repeat}
use Rattle.rules.specs.Refusals.{no_such_cell, not_closed}
use Rattle.rules.specs.Complex.{Layer, Complex}
use Rattle.rules.specs.Operators.{Faces, make_step, after_step}
use Rattle.rules.specs.Mesh.{corners, tail_of, head_of}
use Rattle.off.specs.Plain.{Ring, Plain}
use Rattle.off.specs.Rings.{corner_at, next_at, corners_below, is_ring}

-- the tail and the head of each seam
pub record SeamEnds : Type 0 where
  pub tail : ℕ → ℕ
  pub head : ℕ → ℕ

abbrev pub ends_of : Layer → SeamEnds
ends_of A = record { tail = λ j. tail_of (λ i. A.d i j); head = λ j. head_of (λ i. A.d i j) }

-- seam j goes from corner a to corner b
unfoldable pub goes_from : SeamEnds → ℕ → ℕ → ℕ → Bool
goes_from E a b j = eqb (E.tail j) a && eqb (E.head j) b

-- the seam between a and b among the first n, counted from 1: with minus where it goes from b to a, and 0 where there is none
unfoldable pub seam_among : SeamEnds → ℕ → ℕ → ℕ → ℤ
seam_among E zero a b = pos 0
seam_among E (suc j) a b = cond (goes_from E a b j) (pos (suc j)) (cond (goes_from E b a j) (negsuc j) (seam_among E j a b))

abbrev pub seam_of : Layer → ℕ → ℕ → ℤ
seam_of A a b = seam_among (ends_of A) A.n a b

-- a new seam's ends
abbrev pub tail_head : ℕ → ℕ → Faces
tail_head a b = record { n = 2; number = λ l. cond (eqb l 0) a b; sign = λ l. cond (eqb l 0) (negsuc 0) (pos 1) }

-- What sewing comes to: a refusal, or a pattern.
pub data Sewn : Type 0 where
  refused : ℕ → Sewn
  sewn : Complex → Sewn

-- what follows sewing: `bad` of the refusal, or `go` of the pattern
abbrev pub after_sewn : {A : Type 0} → Sewn → (ℕ → A) → (Complex → A) → A
after_sewn (refused r) bad go = bad r
after_sewn (sewn X) bad go = go X

-- "Seams are numbered and directed as first met": the seam between a and b is there, or is made from a to b
unfoldable pub meet : ℕ → ℕ → Complex → Sewn
meet a b X = cond (is_zero (seam_of (X 1) a b)) (after_step (make_step 1 (tail_head a b) X) refused sewn) (sewn X)

-- a pattern, and how many sides of a ring are met
abbrev pub Met : Type 0
Met = Complex × ℕ

-- the next side of the ring r
unfoldable pub meet_side : Ring → Met → (Met → Sewn) → Sewn
meet_side r x go = after_sewn (meet (corner_at r x.1) (next_at r x.1) x.0) refused λ Y. go (Y, x.1 + 1)

-- "met against gives minus"
abbrev pub signum : ℤ → ℤ
signum (pos n) = pos 1
signum (negsuc n) = negsuc 0

-- the seams along the ring r, each found by its two ends
abbrev pub sides : (ℕ → ℕ → ℤ) → Ring → Faces
sides seam r = record {
  n = length r;
  number = λ l. pred (nat_abs (seam (corner_at r l) (next_at r l)));
  sign = λ l. signum (seam (corner_at r l) (next_at r l));
}

-- the panel of the ring r, all sides of which are met
unfoldable pub make_panel : Ring → Complex → Sewn
make_panel r X = after_step (make_step 2 (sides (seam_of (X 1)) r) X) refused sewn

unfoldable pub sew_panel : Ring → Complex → Sewn
sew_panel r X = repeat (meet_side r) (λ x. make_panel r x.0) (length r) (X, 0)

-- "panel by panel 5, 7 for a line that is no ring, 6"
unfoldable pub sew_ring : Ring → Complex → Sewn
sew_ring r X = cond (corners_below (X 0).n r) (cond (is_ring r) (sew_panel r X) (refused not_closed)) (refused no_such_cell)

-- ring after ring, up to the first refusal
unfoldable pub sew_all : Sewn → List Ring → Sewn
sew_all x [] = x
sew_all x (r ∷ rings) = sew_all (after_sewn x refused (sew_ring r)) rings

unfoldable pub sew : Plain → Sewn
sew P = sew_all (sewn (corners P.corners)) P.rings
