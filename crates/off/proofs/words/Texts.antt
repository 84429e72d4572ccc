-- The front of a text: its blanks, and its first bytes.
use Rattle.std.proofs.Common.{◌≡◌, true, false, cond, ◌&&◌, [], ◌∷◌, ◌+◌, take, drop, get_or, refl, pos}
use Rattle.std.proofs.Math.Numerals.{one-add}
use Rattle.std.specs.List.{prefix_len}
use lib.Pointwise.{pointwise}
use lib.Dec.{eqb}
use Rattle.std.proofs.Math.Bool.{and-false, and-true, and_assoc}
use Rattle.off.specs.Words.{Text, none, found, is_blank, skipped, word_ends, number_here, limited, minus, coordinate_here, coordinate, keyword_here, keyword}

-- what is left after the blanks
pub after_blanks : (s : Text) → drop (prefix_len is_blank s) s ≡ skipped s
unfolding skipped
after_blanks [] = refl
after_blanks (b ∷ t) = elim (is_blank b) as (λ x. drop (cond x (1 + prefix_len is_blank t) 0) (b ∷ t) ≡ cond x (skipped t) (b ∷ t))
    [ true ↦ rw one-add (after_blanks t) | false ↦ refl ]

-- a minus at the front
pub minus-is : (t : Text) → pointwise eqb (take 1 t) (45 ∷ []) ≡ eqb (get_or t 0 0) 45
minus-is [] = refl
minus-is (b ∷ t) = and-true (eqb b 45)

-- the letters of the keyword at the front
letters-are : (t : Text) → pointwise eqb (take 3 t) (79 ∷ 70 ∷ 70 ∷ []) ≡ eqb (get_or t 0 0) 79 && eqb (get_or t 1 0) 70 && eqb (get_or t 2 0) 70
letters-are [] = refl
letters-are (a ∷ []) = simp and-false
letters-are (a ∷ b ∷ []) = simp and-false
letters-are (a ∷ b ∷ d ∷ t) = simp (and-true, and_assoc)

-- the keyword at the front of what is left after the blanks
pub keyword-is : (s t : Text) → t ≡ skipped s →
    cond (pointwise eqb (take 3 t) (79 ∷ 70 ∷ 70 ∷ []) && word_ends (drop 3 t)) (found 0 (drop 3 t)) none ≡ keyword s
unfolding keyword keyword_here
keyword-is s t e = rw (← e, letters-are t)

-- and a coordinate, with a minus or without
module _ (s t : Text) (e : t ≡ skipped s) where
  pub coordinate-minus : pointwise eqb (take 1 t) (45 ∷ []) ≡ true → limited minus (number_here (drop 1 t)) ≡ coordinate s
  unfolding coordinate coordinate_here
  coordinate-minus f = rw (← e, ← minus-is t, f)

  pub coordinate_plain : pointwise eqb (take 1 t) (45 ∷ []) ≡ false → limited pos (number_here t) ≡ coordinate s
  unfolding coordinate coordinate_here
  coordinate_plain f = rw (← e, ← minus-is t, f)
