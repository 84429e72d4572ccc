-- What a pattern with coordinates exports: the ring of each panel, when it has none, and the text.
use Rattle.std.specs.Prelude.{Bool, not, cond, ◌&&◌, List, [], ◌∷◌, ◌++◌, ℕ, zero, suc, ◌+◌, ◌*◌, eqb, ltb, leb, ℤ, pos, negsuc, nat_abs, length, get_or}
use Rattle.maths.specs.Tests.{eq_z, is_zero, all}
use Rattle.maths.specs.Sums.{join}
use Rattle.rules.specs.Complex.{Complex, Chain}
use Rattle.rules.specs.Mesh.{face_count}
use Rattle.rules.specs.Printed.{text, line, digits}
use Rattle.off.specs.Words.{farthest}
use Rattle.off.specs.Plain.{Ring, Plain, plain}
use Rattle.off.specs.Rings.{is_ring}
use Rattle.off.specs.Sewing.{SeamEnds, ends_of, seam_among}

-- f 0, .., f (n - 1)
abbrev pub list_of : {A : Type 0} → ℕ → (ℕ → A) → List A
list_of n f = join n (λ i. f i ∷ [])

-- where the panel v comes from and goes to along seam j: "A plus is walked from tail to head, a minus from head to tail."
abbrev pub comes_from : SeamEnds → Chain → ℕ → ℕ
comes_from E v j = cond (eq_z (v j) (pos 1)) (E.tail j) (E.head j)

abbrev pub goes_to : SeamEnds → Chain → ℕ → ℕ
goes_to E v j = cond (eq_z (v j) (pos 1)) (E.head j) (E.tail j)

-- the panel leaves corner a by seam j
unfoldable pub leaves_by : SeamEnds → Chain → ℕ → ℕ → Bool
leaves_by E v a j = not (is_zero (v j)) && eqb (comes_from E v j) a

-- no corner
abbrev pub nowhere : ℕ
nowhere = 96

-- where the panel goes from a along the last of the first n seams by which it leaves a
unfoldable pub next_among : SeamEnds → Chain → ℕ → ℕ → ℕ
next_among E v zero a = nowhere
next_among E v (suc j) a = cond (leaves_by E v a j) (goes_to E v j) (next_among E v j a)

abbrev pub next_of : Complex → Chain → ℕ → ℕ
next_of X v a = next_among (ends_of (X 1)) v (X 1).n a

-- the lowest of a, a + 1, .., n numbers, that passes p, and a + n where none does
unfoldable pub lowest_from : ℕ → ℕ → (ℕ → Bool) → ℕ
lowest_from zero a p = a
lowest_from (suc n) a p = cond (p a) a (lowest_from n (suc a) p)

-- "starts each ring at its lowest corner"
unfoldable pub start_of : (ℕ → ℕ) → ℕ
start_of next = lowest_from 96 0 (λ a. ltb (next a) 96)

-- l steps from corner a
unfoldable pub steps_from : (ℕ → ℕ) → ℕ → ℕ → ℕ
steps_from next a zero = a
steps_from next a (suc l) = next (steps_from next a l)

-- "and goes the panel's way round": as many steps as it has seams
unfoldable pub walked : (ℕ → ℕ) → ℕ → Ring
walked next n = list_of n (steps_from next (start_of next))

abbrev pub ring_of : Complex → Chain → Ring
ring_of X v = walked (next_of X v) (face_count v)

-- the walk of n steps goes round a ring
unfoldable pub closes_up : (ℕ → ℕ) → ℕ → Bool
closes_up next n = let a = start_of next in ltb a 96 && eqb (steps_from next a n) a && is_ring (walked next n)

-- "one closed walk that leaves each of its corners once"
abbrev pub one_ring : Complex → Chain → Bool
one_ring X v = closes_up (next_of X v) (face_count v)

-- a seam is in some panel; no seam before seam j has the same two ends
unfoldable pub is_sewn : Complex → ℕ → Bool
is_sewn X i = not (all 96 (λ j. is_zero ((X 2).d i j)))

unfoldable pub is_alone : SeamEnds → ℕ → Bool
is_alone E j = is_zero (seam_among E j (E.tail j) (E.head j))

-- "19 for a block, a seam in no panel, two seams with the same two ends or a panel that is not one ring"
unfoldable pub is_plain : Complex → Bool
is_plain X =
    eqb (X 3).n 0
    && all (X 1).n (is_sewn X)
    && all (X 1).n (is_alone (ends_of (X 1)))
    && all (X 2).n (λ j. one_ring X (λ i. (X 2).d i j))

-- "18 for such a coordinate below the count"
unfoldable pub coordinates_near : ℕ → List ℤ → Bool
coordinates_near n c = all (3 * n) (λ i. leb (nat_abs (get_or c i (pos 0))) farthest)

-- what is exported
unfoldable pub plain_of : Complex → List ℤ → Plain
plain_of X c = plain (X 0).n (list_of (3 * (X 0).n) (λ i. get_or c i (pos 0))) (list_of (X 2).n (λ j. ring_of X (λ i. (X 2).d i j)))

-- a number below 10,000,000 in decimal, and with its sign
unfoldable pub number : ℕ → List ℕ
number n = digits 6 n

unfoldable pub signed : ℤ → List ℕ
signed (pos n) = number n
signed (negsuc n) = text "-" ++ number (suc n)

-- "one line per item, LF ending it, one blank between numbers"
unfoldable pub corner_line : List ℤ → ℕ → List ℕ
corner_line c i =
    signed (get_or c (3 * i) (pos 0)) ++ (text " " ++ (signed (get_or c (3 * i + 1) (pos 0)) ++ (text " " ++ (signed (get_or c (3 * i + 2) (pos 0)) ++ line))))

unfoldable pub ring_line : Ring → List ℕ
ring_line r = number (length r) ++ (join (length r) (λ l. text " " ++ number (get_or r l 0)) ++ line)

unfoldable pub head_lines : ℕ → ℕ → ℕ → List ℕ
head_lines corners panels seams =
    text "OFF\n" ++ (number corners ++ (text " " ++ (number panels ++ (text " " ++ (number seams ++ line)))))

-- "the third count is the seams on export"
unfoldable pub write_off : ℕ → Plain → List ℕ
write_off seams P =
    head_lines P.corners (length P.rings) seams
    ++ (join P.corners (corner_line P.coordinates) ++ join (length P.rings) (λ j. ring_line (get_or P.rings j [])))

unfoldable pub export_text : Complex → List ℤ → List ℕ
export_text X c =
    head_lines (X 0).n (X 2).n (X 1).n
    ++ (join (X 0).n (corner_line c) ++ join (X 2).n (λ j. ring_line (ring_of X (λ i. (X 2).d i j))))
