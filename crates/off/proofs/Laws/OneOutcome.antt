-- "Any two outcomes permitted by one statement are shown equal", in the code's own types: what is told of an import or an export is told of one answer.
use Rattle.std.specs.Prelude.{Result, Ok, Err}
use mathlib.Core.Path.{◌≡◌, refl, sym, ap, ◌∙◌}
use mathlib.Core.List.{List}
use Prim.Native.Nat.{ℕ}
use lib.IntN.{ℤ}
use Rattle.rules.specs.declared.pattern.Pattern.{Pattern as LentPattern}
use Rattle.rules.specs.declared.refusals.Refusal.{Refusal}
use Rattle.rules.specs.Told.{number_told}
use Rattle.rules.proofs.Calls.OneOutcome.{value_or, same_refused}
use Rattle.off.specs.Answers.{Exported, exported_told}
use Rattle.off.specs.Calls.{ImportLeft}
use Rattle.off.specs.Wholes.{import_told}

exported_is : (a : Result ℕ Refusal) → exported_told a ≡ record { written = value_or 0 a; refusal = number_told a }
exported_is (Ok n) = refl
exported_is (Err r) = refl

pub one_export : {a b : Result ℕ Refusal} → exported_told a ≡ exported_told b → a ≡ b
one_export {a} {b} e =
    let same = sym (exported_is a) ∙ e ∙ exported_is b in
    same_refused 0 (ap (λ (x : Exported). x.written) same) (ap (λ (x : Exported). x.refusal) same)

pub one_import : {a b : Result Unit Refusal} (p q : LentPattern) (left right : List ℤ) → import_told a p left ≡ import_told b q right → a ≡ b
one_import p q left right e = same_refused tt refl (ap (λ (l : ImportLeft). l.answer.refusal) e)
