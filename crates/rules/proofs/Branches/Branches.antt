-- What holds of every way on holds of an answer: one law for each branching of the definitions. And outcomes of different kinds differ.
use Rattle.std.specs.Prelude.{Ok, Err}
use mathlib.Core.Path.{◌≡◌, refl}
use mathlib.Core.Logic.{◌≢◌}
use mathlib.Core.Bool.{Bool, true, false, cond}
use Prim.Native.Nat.{ℕ}
use native.Mathlib.Omega.{arith}
use Rattle.rules.specs.declared.form.Fault.{Fault}
use Rattle.rules.specs.declared.operator.Operator.{Operator}
use Rattle.rules.specs.Refusals.{not_carried, no_place}
use Rattle.rules.specs.Complex.{Complex}
use Rattle.rules.specs.Edits.{Step, layers}
use Rattle.rules.specs.Operators.{Outcome, refused, edited, removed, after_step}
use Rattle.rules.specs.Form.{fault_number, fault_place, after, after_operator, Field, OperatorForm}
use Rattle.rules.specs.Mesh as mesh
use Rattle.rules.specs.Chains.{after_carry}

module _ {A : Type 0} (P : A → Type 0) where
  pub cond_each : {a b : A} (t : Bool) → (t ≡ true → P a) → (t ≡ false → P b) → P (cond t a b)
  cond_each true f g = f refl
  cond_each false f g = g refl

  pub after_each : {bad : Fault → A} {go : ℕ → A} (f : Field) → ((g : Fault) → P (bad g)) → ((x : ℕ) → f ≡ Ok x → P (go x)) → P (after f bad go)
  after_each (Ok x) h k = k x refl
  after_each (Err g) h k = h g

  pub operator_each : {bad : Fault → A} {go : Operator → ℕ → A} (f : OperatorForm) → ((g : Fault) → P (bad g)) →
      ((o : Operator) (next : ℕ) → f ≡ Ok (o, next) → P (go o next)) → P (after_operator f bad go)
  operator_each (Ok (o, next)) h k = k o next refl
  operator_each (Err g) h k = h g

  pub step_each : {bad : ℕ → A} {go : Complex → A} (o : Outcome) → ((r : ℕ) → o ≡ refused r → P (bad r)) →
      ((S : ℕ → Step) → o ≡ edited S → P (go (layers S))) → ((Y : Complex) → o ≡ removed Y → P (go Y)) → P (after_step o bad go)
  step_each (refused r) h k l = h r refl
  step_each (edited S) h k l = k S refl
  step_each (removed Y) h k l = l Y refl

  pub carry_each : {bad : ℕ → A} {go : (ℕ → Step) → A} (o : Outcome) → ((r : ℕ) → o ≡ refused r → P (bad r)) → P (bad not_carried) →
      ((S : ℕ → Step) → o ≡ edited S → P (go S)) → P (after_carry o bad go)
  carry_each (refused r) h n k = h r refl
  carry_each (edited S) h n k = k S refl
  carry_each (removed Y) h n k = n

  pub reading_each : {bad : ℕ → ℕ → A} {go : Complex → ℕ → A} (x : mesh.Reading) → ((r at : ℕ) → P (bad r at)) →
      ((X : Complex) (used : ℕ) → x ≡ mesh.taken X used → P (go X used)) → P (mesh.after_reading x bad go)
  reading_each (mesh.faulty f) h k = h (fault_number f) (fault_place f)
  reading_each (mesh.refused r) h k = h r no_place
  reading_each (mesh.taken X used) h k = k X used refl

  -- 1, then 2, then the rest: `on_good`
  pub good_each : {a b c : A} (long good : Bool) → (long ≡ true → good ≡ true → P a) → P b → P c → P (cond long (cond good a b) c)
  good_each true true h k l = h refl refl
  good_each true false h k l = k
  good_each false good h k l = l

-- outcomes of different kinds differ
pub refused-edited : {S : ℕ → Step} (r : ℕ) → refused r ≢ edited S
refused-edited r e = let z : ◌≡◌ {A = ℕ} 0 1 = cc in omega arith

pub refused-removed : {Y : Complex} (r : ℕ) → refused r ≢ removed Y
refused-removed r e = let z : ◌≡◌ {A = ℕ} 0 1 = cc in omega arith

pub edited-removed : {S : ℕ → Step} {Y : Complex} → edited S ≢ removed Y
edited-removed e = let z : ◌≡◌ {A = ℕ} 0 1 = cc in omega arith
