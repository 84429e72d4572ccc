-- What the number of an answer says: 0 that the operator was accepted and what is left is its pattern, another that it was refused by that number.
use mathlib.Core.Path.{◌≡◌, refl, sym, ap, ◌∙◌}
use mathlib.Core.Logic.{◌≢◌}
use mathlib.Core.List.{List}
use Prim.Native.Nat.{ℕ}
use Rattle.rules.specs.Answers.{Applied}
use Rattle.rules.specs.declared.operator.Operator.{Operator}
use Rattle.rules.specs.Refusals.{accepted}
use Rattle.rules.specs.Complex.{Pattern, Complex, complex}
use Rattle.rules.specs.Good.{Good, Held}
use Rattle.rules.specs.Edits.{Step, layers}
use Rattle.rules.specs.Operators.{Outcome, refused, edited, removed, step, after_step}
use Rattle.rules.specs.Form.{faces_of}
use Rattle.rules.specs.Calls.{Lent, applied, applied_left}
use Rattle.rules.proofs.Branches.Numbers.{Numbered, step-numbered}
use Rattle.rules.proofs.Bytes.Decoded.{Formed}
use Rattle.rules.proofs.Scripts.Steps.{edit_kept, removal_kept}
use Rattle.rules.proofs.Storage.Stored.{complex-stored}

module _ (p : Pattern) {l : Lent Applied} where
  number_is : {r r' : ℕ} → l.answer.refusal ≡ r' → l ≡ applied p (refused r) → r ≡ r'
  number_is q e = sym (ap (λ (l : Lent Applied). l.answer.refusal) e) ∙ q

  by_zero : (x : Outcome) → Numbered x → ((S : ℕ → Step) → x ≡ edited S → Good (layers S)) → ((Y : Complex) → x ≡ removed Y → Good Y)
      → l ≡ applied p x → l.answer.refusal ≡ accepted → {A : Type 0} (bad : ℕ → A) (go : Complex → A) → after_step x bad go ≡ go (complex (applied_left l))
  by_zero (refused r) n g h e q bad go = absurd ((n r refl).not_0 (number_is q e))
  by_zero (edited S) n g h e q bad go = rw (e, complex-stored (g S refl))
  by_zero (removed Y) n g h e q bad go = rw (e, complex-stored (h Y refl))

  by_number : (x : Outcome) → l ≡ applied p x → l.answer.refusal ≢ accepted → {A : Type 0} (bad : ℕ → A) (go : Complex → A)
      → after_step x bad go ≡ bad l.answer.refusal
  by_number (refused r) e q bad go = rw e
  by_number (edited S) e q bad go = absurd (q (ap (λ (l : Lent Applied). l.answer.refusal) e))
  by_number (removed Y) e q bad go = absurd (q (ap (λ (l : Lent Applied). l.answer.refusal) e))

  module _ (s : List ℕ) (o : Operator) (e : l ≡ applied p (step o (faces_of s o) (complex p))) {A : Type 0} (bad : ℕ → A) (go : Complex → A) where
    pub answer-accepted : Held p → Formed s o → l.answer.refusal ≡ accepted → after_step (step o (faces_of s o) (complex p)) bad go ≡ go (complex (applied_left l))
    answer-accepted H F q =
        by_zero (step o (faces_of s o) (complex p)) (step-numbered (faces_of s o) (complex p) H.good o)
        (λ S r. (edit_kept H.good s o F r).kept.good) (λ Y r. (removal_kept H.good s o F r).good) e q bad go

    pub answer-refused : l.answer.refusal ≢ accepted → after_step (step o (faces_of s o) (complex p)) bad go ≡ bad l.answer.refusal
    answer-refused q = by_number (step o (faces_of s o) (complex p)) e q bad go
