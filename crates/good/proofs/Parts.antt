-- The parts of the test of a good pattern: how they join, and what the next part needs of the last.
use mathlib.Core.Path.{◌≡◌, ◌∙◌}
use mathlib.Core.Bool.{Bool, true, false, ◌&&◌, and_assoc}
use mathlib.Core.List.{List}
use Prim.Native.Nat.{ℕ, ◌<◌, ◌≤◌}
use native.Mathlib.Omega.{arith}
use lib.Dec.{eqb, leb}
use lib.IntN.{ℤ}
use lib.ListN.{length}
use borrow.Author.Tests.{leb-true, eqb-true}
use Rattle.maths.specs.Tests.{all}
use Rattle.maths.proofs.Cases.{and_left, and_right}
use Rattle.maths.proofs.Tests.{all-at}
use Rattle.rules.specs.Counts.{count_of}
use Rattle.rules.specs.Refusals.{accepted, wrong_length, not_good}
use Rattle.rules.specs.Complex.{Pattern, complex}
use Rattle.rules.specs.Good.{is_good}
use Rattle.rules.specs.Calls.{sized}
use Rattle.good.specs.Tested.{tested}
use Rattle.good.specs.Columns.{Matrix}
use Rattle.good.specs.Parts.{few_cells, all_in_place, formed, sound, Stored}

pub three : {a b c : Bool} → a && b && c ≡ true → (a ≡ true) × (b ≡ true) × (c ≡ true)
three {a} {b} {c} t = let ab = and_left (a && b) c t in (and_left a b ab, and_right a b ab, and_right (a && b) c t)

matrix : {m : List ℤ} {rows n : ℕ} → eqb (length m) 9216 ≡ true → rows ≤ 96 → n ≤ 96 → Matrix m rows n
matrix {m} e short few = record { columns = record { size = eqb-true (length m) 9216 e; few = few }; short = short }

good_parts : (p : Pattern) → is_good (complex p) ≡ few_cells p.counts && sound (complex p)
unfolding is_good all few_cells sound all_in_place formed
good_parts p = simp and_assoc

pub good-few : (p : Pattern) → few_cells p.counts ≡ false → is_good (complex p) ≡ false
good-few p e = good_parts p ∙ rw e

-- the test where no count is above 96
module _ (p : Pattern) (few : few_cells p.counts ≡ true) where
  pub good_cells : is_good (complex p) ≡ sound (complex p)
  good_cells = good_parts p ∙ rw few

  at : (k : ℕ) → k < 4 → count_of p.counts k ≤ 96
  unfolding few_cells
  at k h = leb-true (count_of p.counts k) 96 (all-at 4 (λ k. leb (count_of p.counts k) 96) few k h)

  pub stored_matrices : sized p ≡ true → Stored p
  stored_matrices long =
      let c0 = at 0 (omega arith) in
      let c1 = at 1 (omega arith) in
      let c2 = at 2 (omega arith) in
      let c3 = at 3 (omega arith) in
      let l = three long in
      record { first = matrix l.0 c0 c1; second = matrix l.1 c1 c2; third = matrix l.2 c2 c3 }

-- the three answers
module _ (p : Pattern) where
  pub tested-short : sized p ≡ false → tested p ≡ wrong_length
  unfolding tested
  tested-short e = rw e

  pub tested_bad : sized p ≡ true → is_good (complex p) ≡ false → tested p ≡ not_good
  unfolding tested
  tested_bad e f = rw (e, f)

  pub tested-good : sized p ≡ true → is_good (complex p) ≡ true → tested p ≡ accepted
  unfolding tested
  tested-good e f = rw (e, f)
