-- The number of a refusal, and what `?` hands on.
use Rattle.std.specs.Prelude.{Result, Err, IsErr, IsErrAnd}
use Rattle.std.proofs.lemmas.Result.{err_from_is_err_and}
use mathlib.Core.Path.{◌≡◌, ap, ◌∙◌}
use mathlib.Core.Logic.{◌≢◌}
use native.Mathlib.Omega.{arith}
use Rattle.rules.specs.declared.refusals.Refusal.{Refusal}
use Rattle.rules.specs.Refusals.{accepted}
use Rattle.rules.specs.Told.{refusal_number}

-- no refusal has the number of what was accepted
pub not_accepted : (r : Refusal) → refusal_number r ≢ accepted
not_accepted Refusal.WrongLength e = absurd (omega arith)
not_accepted Refusal.NotGood e = absurd (omega arith)
not_accepted Refusal.WrongDimension e = absurd (omega arith)
not_accepted Refusal.NoSuchCell e = absurd (omega arith)
not_accepted Refusal.NoRoom e = absurd (omega arith)
not_accepted Refusal.NotClosed e = absurd (omega arith)
not_accepted Refusal.InUse e = absurd (omega arith)
not_accepted Refusal.WrongPart e = absurd (omega arith)
not_accepted Refusal.WrongDivider e = absurd (omega arith)
not_accepted Refusal.NotBetween e = absurd (omega arith)
not_accepted Refusal.Stale e = absurd (omega arith)
not_accepted Refusal.ShortOutput e = absurd (omega arith)
not_accepted Refusal.WrongChain e = absurd (omega arith)
not_accepted Refusal.NotCarried e = absurd (omega arith)
not_accepted Refusal.WrongOff e = absurd (omega arith)
not_accepted Refusal.NotPlain e = absurd (omega arith)
not_accepted Refusal.SharedFace e = absurd (omega arith)

-- an error that `?` handed on as it is
pub handed_on : {A E : Type 0} {r : Result A E} {e : E} → IsErr r × IsErrAnd r (λ x. x ≡ e) → r ≡ Err e
handed_on {r} h = let f = err_from_is_err_and r h.1 in f.1 ∙ ap Err f.2
