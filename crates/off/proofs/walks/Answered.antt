-- What an answer tells that is given under a test.
use mathlib.Core.Path.{◌≡◌, refl, sym}
use mathlib.Core.Bool.{Bool, true, false}
use Rattle.std.proofs.Common.{Some, None}
use Rattle.std.specs.Bool.{then_some}
use Rattle.std.proofs.lemmas.Option.{none-some, same_Some}

pub answered : {A : Type 0} (b : Bool) {x y : A} → then_some b x ≡ Some y → (b ≡ true) × (y ≡ x)
answered true e = (refl, sym (same_Some _ _ e))
answered false {y} e = absurd (none-some y e)

pub not_answered : {A : Type 0} (b : Bool) (x : A) → then_some b x ≡ None → b ≡ false
not_answered true x e = absurd (none-some x (sym e))
not_answered false x e = refl
