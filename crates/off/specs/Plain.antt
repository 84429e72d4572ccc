-- "The plain ASCII form: the keyword OFF, the three counts, corner lines, panel lines of a length and corner numbers".
use Rattle.std.specs.Prelude.{Bool, cond, List, [], ◌∷◌, ◌++◌, ℕ, ◌*◌, eqb, leb, ℤ, length}
use Rattle.maths.specs.Repeat.{repeat}
use Rattle.off.specs.Words.{Text, Found, none, found, after_found, skipped, natural, coordinate, keyword}

-- the corners of a panel, one after the other
abbrev pub Ring : Type 0
Ring = List ℕ

-- what a plain OFF text says: how many corners, x, y and z of each, and a ring for each panel
pub record Plain : Type 0 where
  pub corners : ℕ
  pub coordinates : List ℤ
  pub rings : List Ring

abbrev pub plain : ℕ → List ℤ → List Ring → Plain
plain n c r = record { corners = n; coordinates = c; rings = r }

-- one thing more, found by `one`, after those that stand in a list
unfoldable pub one_more : {A : Type 0} → (Text → Found A) → List A × Text → (List A × Text → Found (List A)) → Found (List A)
one_more one x go = after_found (one x.1) none λ y t. go (x.0 ++ (y ∷ []), t)

abbrev pub all_found : {A : Type 0} → List A × Text → Found (List A)
all_found x = found x.0 x.1

-- n things, one after the other
unfoldable pub several : {A : Type 0} → (Text → Found A) → ℕ → Text → Found (List A)
several one n t = repeat (one_more one) all_found n ([], t)

-- a panel line: "a length and corner numbers"
unfoldable pub ring : Text → Found Ring
ring t = after_found (natural t) none λ n u. several natural n u

-- a count of corners or panels
unfoldable pub cell_count : Text → Found ℕ
cell_count t = after_found (natural t) none λ n u. cond (leb n 96) (found n u) none

-- nothing but blanks is left
unfoldable pub is_over : Text → Bool
is_over t = eqb (length (skipped t)) 0

-- the whole text; the third count is "unused on import"
unfoldable pub read_off : Text → Found Plain
read_off t =
    after_found (keyword t) none λ _ a.
    after_found (cell_count a) none λ corners b.
    after_found (cell_count b) none λ panels c.
    after_found (natural c) none λ _ d.
    after_found (several coordinate (3 * corners) d) none λ coordinates e.
    after_found (several ring panels e) none λ rings f.
    cond (is_over f) (found (plain corners coordinates rings) []) none
