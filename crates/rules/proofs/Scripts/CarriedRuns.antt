-- Carrying through an accepted script of makes, splits and flips is a chain map that loses nothing, and the pattern is the one that the script leaves.
use Rattle.std.specs.Prelude.{Ok}
use mathlib.Core.Path.{◌≡◌, ◌∙◌, ap}
use mathlib.Core.List.{List}
use Prim.Native.Nat.{ℕ, zero, suc, ◌+◌}
use native.Mathlib.Nat.{add-zero, zero-add}
use native.Mathlib.Omega.{arith}
use Rattle.maths.specs.Repeat.{repeat}
use Rattle.rules.specs.Refusals.{accepted}
use Rattle.rules.specs.Complex.{Complex}
use Rattle.rules.specs.Good.{Good}
use Rattle.rules.specs.Edits.{Step, kept, layers}
use Rattle.rules.specs.Operators.{Outcome, refused, edited}
use Rattle.rules.specs.Form.{operator_at, faces_of, script_form}
use Rattle.rules.specs.Script.{ended, run_one, run_from, same_base, run_script}
use Rattle.rules.specs.Chains.{carry_step, carry_one, carry_from, carry_script}
use Rattle.rules.proofs.Branches.Branches.{cond_each, after_each, operator_each, carry_each, refused-edited}
use Rattle.rules.proofs.Edits.Carries.{Carries, kept_carries, then_carries}
use Rattle.rules.proofs.Accepting.Passed.{carry_step_lem}
use Rattle.rules.proofs.Bytes.Decoded.{decoded}
use Rattle.rules.proofs.Scripts.Steps.{edit_kept}

-- what is accepted is as P says
abbrev IfEdited : ((ℕ → Step) → Type 0) → Outcome → Type 0
IfEdited P o = (R : ℕ → Step) → o ≡ edited R → P R

no_edit : {r : ℕ} {R : ℕ → Step} {A : Type 0} → refused r ≡ edited R → A
no_edit {r} e = absurd (refused-edited r e)

-- what became of layers and chains since X, in a good pattern
pub record Carried (X : Complex) (S : ℕ → Step) : Type 0 where
  pub good : Good (layers S)
  pub carries : Carries X S

module _ (s : List ℕ) (X : Complex) where
  pub carry_kept : (n at : ℕ) (S : ℕ → Step) → Carried X S → IfEdited (Carried X) (carry_from s n (S, at))
  unfolding carry_from repeat carry_one
  carry_kept zero at S C = λ R e. let q : S ≡ R = cc in rw (← q) C
  carry_kept (suc n) at S C =
      operator_each (IfEdited (Carried X)) (operator_at s at) (λ f R e. no_edit e) λ o next d.
      carry_each (IfEdited (Carried X)) (carry_step o (faces_of s o) (layers S)) (λ r q R e. no_edit e) (λ R e. no_edit e) λ S' q.
      let E = edit_kept C.good s o (decoded s at d).0 (carry_step_lem o (faces_of s o) (layers S) q) in
      carry_kept n next _ (record { good = E.kept.good; carries = then_carries C.carries E.carries })

  -- "Carrying a chain's boundary through any accepted script of makes, splits and flips gives the boundary of the carried chain"
  pub script_carries : Good X → (R : ℕ → Step) → carry_script s X ≡ edited R → Carried X R
  unfolding carry_script
  script_carries G =
      after_each (IfEdited (Carried X)) (script_form s) (λ f R e. no_edit e) λ n e.
      cond_each (IfEdited (Carried X)) (same_base s X)
      (λ t. carry_kept n 7 (λ q. kept (X q)) (record { good = G; carries = kept_carries X }))
      (λ t R e. no_edit e)

-- the pattern that carrying leaves is the script's
module _ (s : List ℕ) where
  pub carry_runs : (n at ran : ℕ) (S : ℕ → Step) →
      IfEdited (λ R. run_from s n (record { now = layers S; ran = ran; at = at }) ≡ ended (layers R) (ran + n) accepted) (carry_from s n (S, at))
  unfolding run_from carry_from repeat run_one carry_one
  carry_runs zero at ran S = λ R e. let q : S ≡ R = cc in rw (← q, add-zero)
  carry_runs (suc n) at ran S =
      let P : Outcome → Type 0 = IfEdited (λ R. run_from s (suc n) (record { now = layers S; ran = ran; at = at }) ≡ ended (layers R) (ran + suc n) accepted) in
      operator_each P (operator_at s at) (λ f R e. no_edit e) λ o next d.
      carry_each P (carry_step o (faces_of s o) (layers S)) (λ r q R e. no_edit e) (λ R e. no_edit e) λ S' q R e.
      let ahead : ran + 1 + n ≡ ran + suc n = omega arith in
      rw (d, carry_step_lem o (faces_of s o) (layers S) q, ← ahead) (carry_runs n next (ran + 1) _ R e)

  pub script_runs : (X : Complex) (R : ℕ → Step) → carry_script s X ≡ edited R → (n : ℕ) × (script_form s ≡ Ok n) × (run_script s X ≡ ended (layers R) n accepted)
  unfolding carry_script run_script
  script_runs X =
      let P : Outcome → Type 0 = IfEdited (λ R. (n : ℕ) × (script_form s ≡ Ok n) × (run_script s X ≡ ended (layers R) n accepted)) in
      after_each P (script_form s) (λ f R e. no_edit e) λ n f.
      cond_each P (same_base s X)
      (λ t R e. (n, f, rw (f, t) (carry_runs n 7 0 (λ q. kept (X q)) R e ∙ ap (λ (k : ℕ). ended (layers R) k accepted) (zero-add n))))
      (λ t R e. no_edit e)
