-- Good is kept by any run of a script, and the Euler number moves by the amounts of the operators that were accepted.
use Rattle.std.specs.Prelude.{Ok}
use mathlib.Core.Path.{◌≡◌, refl, sym, ◌∙◌, ap}
use mathlib.Core.Logic.{◌≢◌}
use mathlib.Core.List.{List}
use Prim.Native.Nat.{ℕ, zero, suc, ◌+◌, ◌≤◌}
use native.Mathlib.Nat.{add-zero}
use native.Mathlib.Omega.{arith}
use lib.IntN.{ℤ, ◌+ℤ◌, +ℤ_idr, +ℤ_assoc}
use Rattle.maths.specs.Repeat.{repeat}
use Rattle.rules.specs.declared.operator.Operator.{Operator}
use Rattle.rules.specs.Refusals.{wrong_sum}
use Rattle.rules.specs.Complex.{Complex, euler}
use Rattle.rules.specs.Good.{Good}
use Rattle.rules.specs.Operators.{amount_of, step}
use Rattle.rules.specs.Form.{operator_at, faces_of, script_form}
use Rattle.rules.specs.Script.{Ended, ended_at, Here, run_one, run_from, moved_by, same_base, run_script}
use Rattle.rules.proofs.Branches.Branches.{cond_each, step_each}
use Rattle.rules.proofs.Branches.Numbers.{meaning_no_fault, meaning_numbered, step_meant, fault_numbered}
use Rattle.rules.proofs.Bytes.Faults.{Located, nowhere, field_or, operator_or, operator_lies, script_lies}
use Rattle.rules.proofs.Bytes.Decoded.{decoded}
use Rattle.rules.proofs.Scripts.Steps.{Kept, edit_kept, removal_kept}

-- what a run of n operators from h leaves
pub record Ran (s : List ℕ) (n : ℕ) (h : Here) (e : Ended) : Type 0 where
  pub good : Good e.now
  pub accepted : ℕ
  pub most : accepted ≤ n
  pub ran : e.ran ≡ h.ran + accepted
  pub moved : euler e.now ≡ euler h.now +ℤ moved_by s accepted h.at
  pub located : Located s e.refusal e.place
  pub not_12 : e.refusal ≢ wrong_sum

module _ (s : List ℕ) where
  stopped_here : (n : ℕ) (h : Here) → Good h.now → {r at : ℕ} → Located s r at → r ≢ wrong_sum → Ran s n h (ended_at h.now h.ran r at)
  unfolding moved_by
  stopped_here n h G L n12 = record {
    good = G;
    accepted = 0;
    most = omega arith;
    ran = sym (add-zero h.ran);
    moved = sym (+ℤ_idr (euler h.now));
    located = L;
    not_12 = n12;
  }

  one_more_lem : {n : ℕ} {h : Here} {e : Ended} {o : Operator} {Y : Complex} {next : ℕ} → operator_at s h.at ≡ Ok (o, next) → Kept o h.now Y →
      Ran s n (record { now = Y; ran = h.ran + 1; at = next }) e → Ran s (suc n) h e
  unfolding moved_by
  one_more_lem {n} {h} {e} {o} {Y} {next} d K R = record {
    good = R.good;
    accepted = suc R.accepted;
    most = omega (arith, R.most);
    ran = R.ran ∙ omega arith;
    moved = rw d (R.moved ∙ ap (λ (x : ℤ). x +ℤ moved_by s R.accepted next) K.moved ∙ +ℤ_assoc (euler h.now) (amount_of o) (moved_by s R.accepted next));
    located = R.located;
    not_12 = R.not_12;
  }

  pub run-kept : (n : ℕ) (h : Here) → Good h.now → Ran s n h (run_from s n h)
  unfolding run_from repeat run_one
  run-kept zero h G = stopped_here zero h G (nowhere refl) (omega arith)
  run-kept (suc n) h G =
      operator_or (Ran s (suc n) h) (operator_at s h.at) (operator_lies s h.at) (λ f L. stopped_here (suc n) h G L.located (fault_numbered f).not_12) λ o next d _.
      step_each (Ran s (suc n) h) (step o (faces_of s o) h.now) (λ r q. let m = step_meant (faces_of s o) h.now G o r q in stopped_here (suc n) h G (nowhere (meaning_no_fault r m)) (meaning_numbered r m).not_12)
      (λ S q. let E = edit_kept G s o (decoded s h.at d).0 q in one_more_lem d E.kept (run-kept n _ E.kept.good))
      (λ Y q. let K = removal_kept G s o (decoded s h.at d).0 q in one_more_lem d K (run-kept n _ K.good))

  -- a script leaves a good pattern, whose Euler number has moved by the amounts of the operators that ran
  pub record Left (X : Complex) (e : Ended) : Type 0 where
    pub good : Good e.now
    pub moved : euler e.now ≡ euler X +ℤ moved_by s e.ran 7
    pub located : Located s e.refusal e.place
    pub not_12 : e.refusal ≢ wrong_sum

  left : {X : Complex} {n : ℕ} {e : Ended} → Ran s n (record { now = X; ran = 0; at = 7 }) e → Left X e
  left {X} {n} {e} R =
      let q : R.accepted ≡ e.ran = omega (arith, R.ran) in
      record { good = R.good; moved = R.moved ∙ ap (λ (k : ℕ). euler X +ℤ moved_by s k 7) q; located = R.located; not_12 = R.not_12 }

  pub script-kept : {X : Complex} → Good X → Left X (run_script s X)
  unfolding run_script
  script-kept {X} G =
      let start : Here = record { now = X; ran = 0; at = 7 } in
      field_or (Left X) (script_form s) (script_lies s) (λ f L. left (stopped_here 0 start G L.located (fault_numbered f).not_12)) λ n _.
      cond_each (Left X) (same_base s X) (λ t. left (run-kept n start G)) (λ t. left (stopped_here 0 start G (nowhere refl) (omega arith)))
