-- The words of an OFF text: what separates them, and the numbers among them. A text is read from the front; what is left of it is a text again.
use Rattle.std.specs.Prelude.{Bool, true, cond, ◌&&◌, ◌||◌, List, [], ◌∷◌, ℕ, suc, ◌+◌, ◌-◌, ◌*◌, eqb, leb, ℤ, pos, neg_ℤ, get_or, drop}
use Rattle.rules.specs.Form.{within}

abbrev pub Text : Type 0
Text = List ℕ

-- what was found at the front of a text, and the text after it; or nothing in form
pub data Found (A : Type 0) : Type 0 where
  none : Found A
  found : A → Text → Found A

-- what follows: `bad` where nothing was found, or `go` of what was
abbrev pub after_found : {A B : Type 0} → Found A → B → (A → Text → B) → B
after_found none bad go = bad
after_found (found x t) bad go = go x t

-- "Spaces, tabs, CR and LF separate"
unfoldable pub is_blank : ℕ → Bool
is_blank b = eqb b 0x20 || eqb b 0x09 || eqb b 0x0d || eqb b 0x0a

-- the text from its first byte that is no blank
unfoldable pub skipped : Text → Text
skipped [] = []
skipped (b ∷ t) = cond (is_blank b) (skipped t) (b ∷ t)

-- a word ends where a blank stands, or nothing
unfoldable pub word_ends : Text → Bool
word_ends [] = true
word_ends (b ∷ t) = is_blank b

unfoldable pub is_digit : ℕ → Bool
is_digit b = within 0x30 0x39 b

-- the digits at the front of a text: their value, how many they are, and the text after them
pub record Digits : Type 0 where
  pub value : ℕ
  pub count : ℕ
  pub rest : Text

abbrev pub the_digits : ℕ → ℕ → Text → Digits
the_digits n k t = record { value = n; count = k; rest = t }

-- the same, after k digits of the value n
unfoldable pub digits_from : ℕ → ℕ → Text → Digits
digits_from n k [] = the_digits n k []
digits_from n k (b ∷ t) = cond (is_digit b) (digits_from (10 * n + (b - 0x30)) (suc k) t) (the_digits n k (b ∷ t))

-- "numbers have one to seven digits"
abbrev pub number_of : Digits → Found ℕ
number_of d = cond (within 1 7 d.count && word_ends d.rest) (found d.value d.rest) none

unfoldable pub number_here : Text → Found ℕ
number_here t = number_of (digits_from 0 0 t)

-- a count, a length or a corner number
unfoldable pub natural : Text → Found ℕ
natural t = number_here (skipped t)

-- "Coordinates are whole numbers within ±1,048,576"
abbrev pub farthest : ℕ
farthest = 1_048_576

abbrev pub limited : (ℕ → ℤ) → Found ℕ → Found ℤ
limited f x = after_found x none λ n t. cond (leb n farthest) (found (f n) t) none

abbrev pub minus : ℕ → ℤ
minus n = neg_ℤ (pos n)

-- "coordinates also a minus"
unfoldable pub coordinate_here : Text → Found ℤ
coordinate_here t = cond (eqb (get_or t 0 0) 0x2d) (limited minus (number_here (drop 1 t))) (limited pos (number_here t))

unfoldable pub coordinate : Text → Found ℤ
coordinate t = coordinate_here (skipped t)

-- "the keyword OFF": what is left after it
unfoldable pub keyword_here : Text → Found ℕ
keyword_here t =
    cond (eqb (get_or t 0 0) 0x4f && eqb (get_or t 1 0) 0x46 && eqb (get_or t 2 0) 0x46 && word_ends (drop 3 t)) (found 0 (drop 3 t)) none

unfoldable pub keyword : Text → Found ℕ
keyword t = keyword_here (skipped t)
