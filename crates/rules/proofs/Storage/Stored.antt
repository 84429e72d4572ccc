-- Stored and abstract agree: `complex` and `stored` undo each other.
use mathlib.Core.Path.{◌≡◌, refl, sym, ◌∙◌, ap, fun_ext}
use mathlib.Core.Bool.{true, ◌&&◌}
use mathlib.Core.List.{List, [], ◌∷◌}
use Prim.Native.Nat.{ℕ, zero, suc, ◌<◌, ◌≤◌}
use native.Mathlib.Omega.{arith}
use borrow.Author.Tests.{eq-eqb, eqb-true}
use lib.Dec.{eqb}
use lib.IntN.{pos}
use lib.ListN.{length, get_or}
use Rattle.maths.specs.Tables.{Entries, tab}
use Rattle.maths.proofs.Tables.{clip_keeps, entries-tab, tab-entries, length-tab}
use Rattle.maths.proofs.Cases.{lt_or, and_left, and_right, and_both}
use Rattle.rules.specs.Counts.{count_of}
use Rattle.rules.specs.Complex.{Pattern, Sized, Complex, layer, complex, stored}
use Rattle.rules.specs.Good.{Good, Held}
use Rattle.rules.specs.Calls.{sized}
use Rattle.rules.proofs.Layers.Frame.{same_layer, within-rows, within-columns}

module _ {X : Complex} (G : Good X) where
  -- a matrix of a good pattern is 0 outside of 96 by 96
  outside : (k i j : ℕ) → (i < 96 → 96 ≤ j) → (X k).d i j ≡ pos 0
  outside zero i j o = G.ground i j
  outside (suc k) i j o = lt_or i 96 (λ h. within-columns G (suc k) i j (o h)) (within-rows G k j i)

  pub complex-stored : complex (stored X) ≡ X
  complex-stored = fun_ext at
    where
      matrix : (k : ℕ) → layer (X k).n (tab (X k).d) ≡ X k
      matrix k = same_layer refl (λ i j. ap (λ (f : Entries). f i j) (entries-tab (X k).d ∙ clip_keeps (outside k)))

      at : (k : ℕ) → complex (stored X) k ≡ X k
      at zero = same_layer refl (λ i j. sym (G.ground i j))
      at (suc zero) = matrix 1
      at (suc (suc zero)) = matrix 2
      at (suc (suc (suc zero))) = matrix 3
      at (suc (suc (suc (suc k)))) =
          let none : (X (suc (suc (suc (suc k))))).n ≡ 0 = G.top _ (omega arith) in
          same_layer (sym none) (λ i j. sym (G.columns _ i j (omega arith)))

-- a count of the complex is a stored one
pub count-is : (p : Pattern) (k : ℕ) → k ≤ 3 → (complex p k).n ≡ count_of p.counts k
count-is p zero h = refl
count-is p (suc zero) h = refl
count-is p (suc (suc zero)) h = refl
count-is p (suc (suc (suc zero))) h = refl
count-is p (suc (suc (suc (suc k)))) h = absurd (omega arith)

-- the lists that are lent have the right lengths where the test says so, and those of every complex have
pub sized-is : {p : Pattern} → Sized p → sized p ≡ true
sized-is {p} S = and_both (and_both (eq-eqb (length p.m1) 9216 S.size1) (eq-eqb (length p.m2) 9216 S.size2)) (eq-eqb (length p.m3) 9216 S.size3)

pub all-sized : (p : Pattern) → length p.counts.n ≡ 4 → sized p ≡ true → Sized p
all-sized p four e =
    let one = eqb (length p.m1) 9216 in
    let two = eqb (length p.m2) 9216 in
    let both = and_left (one && two) _ e in
    record {
      four = four;
      size1 = eqb-true _ _ (and_left one two both);
      size2 = eqb-true _ _ (and_right one two both);
      size3 = eqb-true _ _ (and_right (one && two) _ e);
    }

pub stored-sized : (X : Complex) → Sized (stored X)
stored-sized X = record { four = refl; size1 = length-tab (X 1).d; size2 = length-tab (X 2).d; size3 = length-tab (X 3).d }

-- what a good complex is stored as
pub stored-held : {X : Complex} → Good X → Held (stored X)
stored-held {X} G = record { sized = stored-sized X; good = rw (complex-stored G) G }

four_are : (l : List ℕ) → length l ≡ 4 → get_or l 0 0 ∷ get_or l 1 0 ∷ get_or l 2 0 ∷ get_or l 3 0 ∷ [] ≡ l
four_are [] e = absurd (omega arith)
four_are (a ∷ []) e = absurd (omega arith)
four_are (a ∷ b ∷ []) e = absurd (omega arith)
four_are (a ∷ b ∷ c ∷ []) e = absurd (omega arith)
four_are (a ∷ b ∷ c ∷ d ∷ []) e = refl
four_are (a ∷ b ∷ c ∷ d ∷ x ∷ l) e = absurd (omega arith)

pub stored-complex : (p : Pattern) → Sized p → stored (complex p) ≡ p
stored-complex p S = λ i. record {
  counts = record { n = four_are p.counts.n S.four i };
  m1 = tab-entries p.m1 S.size1 i;
  m2 = tab-entries p.m2 S.size2 i;
  m3 = tab-entries p.m3 S.size3 i;
}
