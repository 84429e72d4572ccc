-- The tests that a call on a pattern makes first: 1, the lengths, and 2, whether it is good.
use mathlib.Core.Path.{◌≡◌, ap}
use mathlib.Core.Logic.{◌≢◌}
use mathlib.Core.Bool.{Bool, true, false, cond}
use Prim.Native.Nat.{ℕ}
use native.Mathlib.Omega.{arith}
use Rattle.rules.specs.Refusals.{accepted, wrong_length, not_good}
use Rattle.rules.specs.Complex.{Pattern, complex}
use Rattle.rules.specs.Good.{is_good}
use Rattle.rules.specs.Calls.{sized, on_good}
use Rattle.rules.proofs.Branches.Branches.{good_each}

module _ (p : Pattern) where
  -- the number that they answer
  abbrev pub first_tests : ℕ
  first_tests = on_good (sized p) (complex p) (λ r. r) (λ X. accepted)

  -- 0 where both are passed
  pub both_passed : first_tests ≡ accepted → (sized p ≡ true) × (is_good (complex p) ≡ true)
  both_passed =
      good_each (λ r. r ≡ accepted → (sized p ≡ true) × (is_good (complex p) ≡ true)) (sized p) (is_good (complex p))
      (λ s g e. (s, g)) (λ e. absurd (omega arith)) (λ e. absurd (omega arith))

  -- by another number the call is refused, whatever it answers on a good pattern
  pub first-refused : {A : Type 0} (refuse : ℕ → A) (a : A) {r : ℕ} → r ≡ first_tests → r ≢ accepted →
      refuse r ≡ cond (sized p) (cond (is_good (complex p)) a (refuse not_good)) (refuse wrong_length)
  first-refused refuse a {r} e n = go (sized p) (is_good (complex p)) e
    where
      go : (long good : Bool) → r ≡ cond long (cond good accepted not_good) wrong_length →
          refuse r ≡ cond long (cond good a (refuse not_good)) (refuse wrong_length)
      go true true e = absurd (n e)
      go true false e = ap refuse e
      go false good e = ap refuse e
