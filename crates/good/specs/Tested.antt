-- What the check of a lent pattern answers: 0 for a good one, else the refusal.
use Rattle.std.specs.Prelude.{ℕ}
use Rattle.rules.specs.Refusals.{accepted}
use Rattle.rules.specs.Complex.{Pattern, complex}
use Rattle.rules.specs.Calls.{sized, on_good}

unfoldable pub tested : Pattern → ℕ
tested p = on_good (sized p) (complex p) (λ r. r) (λ X. accepted)
