-- The boundary of the chosen part: when it is that of a dividing cell.
use Rattle.std.specs.Prelude.{Some}
use Rattle.std.specs.Bool.{then_some}
use mathlib.Core.Path.{refl, ◌≡◌, sym, ap, ap₂, ◌∙◌}
use mathlib.Core.Logic.{◌≢◌}
use mathlib.Core.Bool.{Bool, true, false, not, ◌&&◌, ◌||◌, and-true}
use mathlib.Core.List.{List}
use Prim.Native.Nat.{ℕ, zero, suc, pred, ◌≤◌}
use native.Mathlib.Omega.{arith}
use borrow.Author.Tests.{eq-eqb, ne_eqb}
use lib.IntN.{ℤ, pos, negsuc}
use lib.Dec.{eqb}
use lib.ListN.{length}
use Rattle.maths.specs.Tests.{eq_z, is_zero, is_unit, all, count}
use Rattle.maths.specs.Tables.{table}
use Rattle.maths.proofs.Cases.{eq_or}
use Rattle.maths.proofs.Tests.{all_same, count_same}
use Rattle.rules.specs.Complex.{Chain}
use Rattle.rules.specs.Good.{one_each, all_zero}
use Rattle.rules.specs.Operators.{proper, divides}
use Rattle.rules.specs.Calls.{coefficients}
use Rattle.operators.specs.Boundary.{BoundaryFound, edge, edge_of}
use Rattle.operators.proofs.chosen.Lists.{holds, of_96}

-- how many of the first n entries are z
abbrev pub found : List ℤ → ℤ → ℕ → ℕ
found w z n = count n (λ i. eq_z (coefficients w i) z)

-- the tests of a boundary one by one, on the list that holds it
module _ (w : List ℤ) (long : length w ≡ 96) {a : Bool} (e : a ≡ all (length w) (λ i. is_unit (coefficients w i))) where
  units : a ≡ all 96 (λ i. is_unit (coefficients w i))
  units = of_96 long (λ n. all n (λ i. is_unit (coefficients w i))) e

  pub proper-then : {b : Bool} → a ≡ true → b ≡ all (length w) (λ i. is_zero (coefficients w i)) → not b ≡ proper (coefficients w)
  unfolding proper all_zero
  proper-then h f = rw (← units, h) (ap not (of_96 long (λ n. all n (λ i. is_zero (coefficients w i))) f))

  pub proper_else : a ≡ false → a ≡ proper (coefficients w)
  unfolding proper
  proper_else h = rw (← units, h)

module _ (w : List ℤ) (long : length w ≡ 96) {n : ℕ} (e : n ≡ found w (negsuc 0) (length w)) where
  pub ends-then : {k : ℕ} → n ≡ 1 → k ≡ found w (pos 1) (length w) → eqb k 1 ≡ one_each (coefficients w)
  unfolding one_each
  ends-then h f = rw (← of_96 long (found w (negsuc 0)) e, h) (ap (λ k. eqb k 1) (of_96 long (found w (pos 1)) f))

  pub ends_else : n ≢ 1 → eqb n 1 ≡ one_each (coefficients w)
  unfolding one_each
  ends_else h = rw (← of_96 long (found w (negsuc 0)) e, ne_eqb n 1 h)

-- the test of a dividing seam or panel
module _ (v : Chain) {dim : ℕ} (least : 2 ≤ dim) (most : dim ≤ 3) where
  divides_by : divides (pred dim) v ≡ proper v && (not (eqb dim 2) || one_each v)
  unfolding divides
  divides_by = eq_or dim 2 (λ e. rw e) (λ n. let e : dim ≡ 3 = omega arith in rw e (sym (and-true (proper v))))

  module _ {a : Bool} (e : a ≡ proper v) where
    pub improper : a ≡ false → a ≡ divides (pred dim) v
    improper h = rw (divides_by, ← e, h)

    pub seam_tested : {b : Bool} → a ≡ true → dim ≡ 2 → b ≡ one_each v → b ≡ divides (pred dim) v
    seam_tested h d f = rw (divides_by, ← e, h, eq-eqb dim 2 d) f

    pub panel_tested : a ≡ true → dim ≢ 2 → not (eqb dim 2) ≡ divides (pred dim) v
    panel_tested h n = rw (divides_by, ← e, h, ne_eqb dim 2 n)

-- a list that holds a boundary answers for it
module _ (f : Chain) (found : List ℤ) (e : found ≡ table 96 f) where
  held-proper : proper (coefficients found) ≡ proper f
  unfolding proper all_zero
  held-proper = ap₂ (λ a b. a && not b) (all_same 96 (λ i h. ap is_unit (holds f e i h))) (all_same 96 (λ i h. ap is_zero (holds f e i h)))

  held_each : one_each (coefficients found) ≡ one_each f
  unfolding one_each
  held_each = ap₂ (λ a b. eqb a 1 && eqb b 1)
      (count_same 96 (λ i h. ap (λ x. eq_z x (negsuc 0)) (holds f e i h)))
      (count_same 96 (λ i h. ap (λ x. eq_z x (pos 1)) (holds f e i h)))

  held_divides : (m : ℕ) → divides m (coefficients found) ≡ divides m f
  unfolding divides
  held_divides zero = refl
  held_divides (suc zero) = ap₂ ◌&&◌ held-proper held_each
  held_divides (suc (suc m)) = held-proper

-- the boundary, where the dividing cell is a corner, a seam or a panel
module _ {dim : ℕ} {low : List ℤ} {w : Chain} {found : List ℤ} where
  pub corner_found : dim ≡ 1 → BoundaryFound dim low w (Some found)
  unfolding divides
  corner_found d = record { fine = rw d; is = λ h. absurd (omega arith) }

  module _ (f : found ≡ edge_of low w) where
    told : (r : Bool) → r ≡ divides (pred dim) (edge low w) → BoundaryFound dim low w (then_some r found)
    told true e = record { fine = e; is = λ _. f }
    told false e = record { fine = e; is = λ _. tt }

    pub edge_found : {r : Bool} → r ≡ divides (pred dim) (coefficients found) → BoundaryFound dim low w (then_some r found)
    edge_found {r} e = told r (e ∙ held_divides (edge low w) found f (pred dim))
