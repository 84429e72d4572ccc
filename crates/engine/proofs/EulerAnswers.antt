-- What the Euler call answers: refused by the pattern's test, or accepted.
use Rattle.std.specs.Prelude.{Ok, Err}
use mathlib.Core.Path.{◌≡◌}
use lib.IntN.{ℤ, pos}
use Rattle.rules.specs.declared.refusals.Refusal.{Refusal}
use Rattle.rules.specs.Refusals.{accepted}
use Rattle.rules.specs.Counts.{count_of}
use Rattle.rules.specs.Complex.{Pattern, bare, euler}
use Rattle.rules.specs.Calls.{euler_call}
use Rattle.rules.specs.Told.{refusal_number, euler_told}
use Rattle.rules.proofs.Branches.FirstTests.{both_passed, first-refused}
use Rattle.good.specs.Tested.{tested}
use Rattle.rules.proofs.Branches.Refused.{not_accepted}

module _ (p : Pattern) where
  -- 1 or 2
  pub euler-not-good : (r : Refusal) → refusal_number r ≡ tested p → euler_told (Err r) ≡ euler_call p
  unfolding tested euler_call
  euler-not-good r e = first-refused p (λ r. record { number = pos 0; refusal = r }) _ e (not_accepted r)

  -- none of them
  pub euler-accepted : {z : ℤ} → tested p ≡ accepted → z ≡ euler (λ k. bare (count_of p.counts k)) →
      euler_told (Ok z) ≡ euler_call p
  unfolding tested euler_call euler
  euler-accepted e f = let g = both_passed p e in rw (g.0, g.1, f)
