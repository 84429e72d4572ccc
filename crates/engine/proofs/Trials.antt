-- The number of an outcome: 0 where it is accepted, else the refusal.
use mathlib.Core.Path.{◌≡◌, refl, sym, ap, ◌∙◌}
use mathlib.Core.Logic.{◌≢◌, ◌⊎◌, inl, inr}
use Prim.Native.Nat.{ℕ}
use Rattle.rules.specs.Answers.{Applied}
use Rattle.rules.specs.declared.operator.Operator.{Operator}
use Rattle.rules.specs.declared.operator.Operator.TheVariants.{Make, Kill, Split, Merge, Flip}
use Rattle.rules.specs.Refusals.{accepted, not_carried}
use Rattle.rules.specs.Complex.{Pattern, Complex}
use Rattle.rules.specs.Edits.{Step}
use Rattle.rules.specs.Operators.{Faces, Outcome, refused, edited, removed, step}
use Rattle.rules.specs.Chains.{carry_step, after_carry}
use Rattle.rules.specs.Calls.{Lent, applied}
use Rattle.rules.proofs.Branches.Branches.{refused-removed}
use Rattle.rules.proofs.Branches.Numbers.{carry_numbered}
use Rattle.rules.proofs.Accepting.Passed.{make_keeps, split_keeps, flip_keeps}
use Rattle.engine.specs.Carrying.{number_of}

-- an operator that was applied answers its number
pub applied-number : (p : Pattern) {l : Lent Applied} (x : Outcome) → l ≡ applied p x → l.answer.refusal ≡ number_of x
unfolding number_of
applied-number p (refused r) e = ap (λ (l : Lent Applied). l.answer.refusal) e
applied-number p (edited S) e = ap (λ (l : Lent Applied). l.answer.refusal) e
applied-number p (removed Y) e = ap (λ (l : Lent Applied). l.answer.refusal) e

-- carrying through a make, a split or a flip is refused as the operator is, and through the others by 17
module _ {o : Operator} (F : Faces) (X : Complex) where
  pub as-tried : ((k : ℕ) × (list : ℕ) × (o ≡ Make k list)) ⊎ (((k : ℕ) × (s : ℕ) × (list : ℕ) × (o ≡ Split k s list)) ⊎ ((k : ℕ) × (c : ℕ) × (o ≡ Flip k c)))
      → {r : ℕ} → r ≡ number_of (step o F X) → r ≡ number_of (carry_step o F X)
  unfolding carry_step
  as-tried (inl x) t = rw x.2 (rw x.2 at t)
  as-tried (inr (inl x)) t = rw x.3 (rw x.3 at t)
  as-tried (inr (inr x)) t = rw x.2 (rw x.2 at t)

  pub not-carried : ((k : ℕ) × (c : ℕ) × (o ≡ Kill k c)) ⊎ ((k : ℕ) × (t : ℕ) × (o ≡ Merge k t)) → not_carried ≡ number_of (carry_step o F X)
  unfolding number_of carry_step
  not-carried (inl x) = rw x.2
  not-carried (inr x) = rw x.2

-- carrying removes no cell
carry_keeps : (o : Operator) (F : Faces) (X : Complex) {Y : Complex} → carry_step o F X ≢ removed Y
unfolding carry_step step
carry_keeps (Make k list) F X e = make_keeps X k F e
carry_keeps (Kill k c) F X e = refused-removed not_carried e
carry_keeps (Split k s list) F X e = split_keeps X k s F e
carry_keeps (Merge k t) F X e = refused-removed not_carried e
carry_keeps (Flip k c) F X e = flip_keeps X k c e

-- another number than 0 is the refusal's
pub after_carry_refused : {A : Type 0} (bad : ℕ → A) (go : (ℕ → Step) → A) (x : Outcome) {r : ℕ} → r ≡ number_of x → r ≢ accepted → bad r ≡ after_carry x bad go
unfolding number_of
after_carry_refused bad go (refused q) e n = ap bad e
after_carry_refused bad go (edited S) e n = absurd (n e)
after_carry_refused bad go (removed Y) e n = absurd (n e)

-- and 0 says that layers and chains change
pub record Edited (x : Outcome) : Type 0 where
  pub edit : ℕ → Step
  pub is : x ≡ edited edit

pub carry_accepted : (o : Operator) (F : Faces) (X : Complex) {r : ℕ} → r ≡ number_of (carry_step o F X) → r ≡ accepted → Edited (carry_step o F X)
unfolding number_of
carry_accepted o F X {r} e z = go (carry_step o F X) refl e
  where
    go : (x : Outcome) → carry_step o F X ≡ x → r ≡ number_of x → Edited x
    go (refused q) i e = absurd ((carry_numbered F X o q i).not_0 (sym e ∙ z))
    go (edited S) i e = record { edit = S; is = refl }
    go (removed Y) i e = absurd (carry_keeps o F X i)
