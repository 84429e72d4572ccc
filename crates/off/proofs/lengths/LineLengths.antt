-- How long the lines of an OFF text are.
use mathlib.Core.Path.{◌≡◌, sym, ap, fun_ext, ◌∙◌}
use mathlib.Core.List.{List, [], ◌∷◌}
use Prim.Native.Nat.{ℕ, zero, suc, ◌+◌, ◌*◌, ◌<◌, ◌≤◌}
use native.Mathlib.Numerals.{add-one}
use native.Mathlib.Omega.{arith}
use lib.IntN.{ℤ, pos}
use lib.ListN.{length, get_or, take, length-append}
use lib.Seq.{take_all}
use Rattle.std.specs.List.{sum_by}
use Rattle.std.proofs.lemmas.List.Sums.{sum_by_more}
use Rattle.maths.specs.Sums.{join}
use Rattle.maths.proofs.Sums.{join-zero, join-next, join_same, join-most}
use Rattle.off.specs.Exporting.{number, signed, corner_line, head_lines}
use Rattle.off.specs.Writing.{spaced, after_blank}
use Rattle.off.proofs.lengths.Decimal.{number-most}
use Rattle.off.proofs.lengths.Signs.{signed-most}

-- how long coordinate i of a list is
abbrev long : List ℤ → ℕ → ℕ
long l i = length (signed (get_or l i (pos 0)))

long-most : (list : List ℤ) (i : ℕ) → long list i ≤ 8
long-most list i = signed-most (get_or list i (pos 0))

module _ (list : List ℤ) (i : ℕ) where
  pub corner-length-is :
      length (corner_line list i) ≡ long list (3 * i) + long list (3 * i + 1) + long list (3 * i + 2) + 3
  unfolding corner_line
  corner-length-is = simp length-append (omega arith)

  pub corner-most : length (corner_line list i) ≤ 27
  corner-most = omega (arith, corner-length-is, long-most list (3 * i), long-most list (3 * i + 1), long-most list (3 * i + 2))

-- the texts of the first elements of a list, one after the other
front-sum : {A : Type 0} (d : A) (g : A → List ℕ) (xs : List A) (n : ℕ) → n ≤ length xs →
    sum_by (λ x. length (g x)) (take n xs) ≡ length (join n (λ i. g (get_or xs i d)))
front-sum d g xs zero h = rw join-zero
front-sum d g xs (suc n) h =
    rw (← add-one, sum_by_more (λ x. length (g x)) xs n d (omega arith), join-next, length-append, front-sum d g xs n (omega arith))

-- the coordinates of a corner, a byte after each
pub corner-sum : (corner : List ℤ) → length corner ≡ 3 → sum_by (λ z. length (signed z) + 1) corner ≡ length (corner_line corner 0)
corner-sum [] e = absurd (omega (arith, e))
corner-sum (x ∷ []) e = absurd (omega (arith, e))
corner-sum (x ∷ y ∷ []) e = absurd (omega (arith, e))
corner-sum (x ∷ y ∷ z ∷ []) e = omega (arith, corner-length-is (x ∷ y ∷ z ∷ []) 0)
corner-sum (x ∷ y ∷ z ∷ t ∷ l) e = absurd (omega (arith, e))

-- the lines of the first corners
pub corners-sum : (list : List ℤ) (chunks : List (List ℤ)) (n : ℕ) → n ≤ length chunks →
    ((i : ℕ) → i < n → corner_line (get_or chunks i []) 0 ≡ corner_line list i) →
    sum_by (λ corner. length (corner_line corner 0)) (take n chunks) ≡ length (join n (corner_line list))
corners-sum list chunks n h same =
    front-sum [] (λ corner. corner_line corner 0) chunks n h ∙ ap length (join_same n {g = corner_line list} same)

module _ (list : List ℤ) where
  pub corners-most : (n : ℕ) → length (join n (corner_line list)) ≤ n * 27
  corners-most n = join-most n 27 (corner_line list) (λ i h. corner-most list i)

-- the corners of a ring, a blank before each
length-blank : (c : ℕ) → 1 + length (number c) ≡ length (after_blank c)
length-blank c = omega arith

module _ (r : List ℕ) where
  pub spaced-sum : sum_by (λ c. 1 + length (number c)) r ≡ length (spaced r (length r))
  spaced-sum =
      ap (λ h. sum_by h r) (fun_ext (λ c. length-blank c))
      ∙ ap (sum_by (λ c. length (after_blank c))) (sym (take_all (length r) r (omega arith)))
      ∙ front-sum 0 after_blank r (length r) (omega arith)

  pub spaced-most : (n : ℕ) → length (spaced r n) ≤ n * 8
  spaced-most n = join-most n 8 (λ l. after_blank (get_or r l 0)) (λ l h. omega (arith, number-most (get_or r l 0)))

-- the first two lines
module _ (corners panels seams : ℕ) where
  pub head-length-is :
      length (head_lines corners panels seams) ≡ length (number corners) + length (number panels) + length (number seams) + 7
  unfolding head_lines
  head-length-is = simp length-append (omega arith)

  pub head-most : length (head_lines corners panels seams) ≤ 28
  head-most = omega (arith, head-length-is, number-most corners, number-most panels, number-most seams)
