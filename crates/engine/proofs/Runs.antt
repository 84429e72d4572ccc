-- The run of a script's operators: one of them, and the rest of the run, which is always the whole.
use Rattle.std.specs.Prelude.{Ok, Err}
use mathlib.Core.Path.{◌≡◌, refl, sym, ap, ◌∙◌}
use mathlib.Core.List.{List}
use Prim.Native.Nat.{ℕ, ◌+◌, ◌-◌, ◌<◌}
use native.Mathlib.Omega.{arith}
use Rattle.maths.proofs.Repeat as turns
use Rattle.rules.specs.declared.form.Fault.{Fault}
use Rattle.rules.specs.declared.operator.Operator.{Operator}
use Rattle.rules.specs.declared.refusals.Refusal.{Refusal}
use Rattle.rules.specs.declared.refusals.Stop.{Stop}
use Rattle.rules.specs.Refusals.{accepted}
use Rattle.rules.specs.Complex.{Pattern, complex, counts_of, stored}
use Rattle.rules.specs.Operators.{step}
use Rattle.rules.specs.Form.{operator_at, faces_of}
use Rattle.rules.specs.Script.{ended, run_one, run_from}
use Rattle.rules.specs.Calls.{lent, applied, applied_left}
use Rattle.rules.specs.Told.{refusal_number}
use Rattle.rules.specs.Good.{Held}
use Rattle.rules.proofs.Calls.Left.{applied-held}
use Rattle.operators.proofs.Patterns.Answered.{answer-accepted, answer-refused}
use Rattle.rules.proofs.Branches.Refused.{not_accepted}
use Rattle.engine.specs.Source.{ReadFrom}
use Rattle.engine.specs.Running.{here, OperatorDone, OperatorStops, RunTo}
use Rattle.engine.proofs.Shapes.{operator_formed}

-- the operator at `at`
module _ (s : List ℕ) (at : ℕ) (p : Pattern) (H : Held p) where
  pub turn_faulty : {f : Fault} → operator_at s at ≡ Err f → OperatorStops s at p (Stop.Form f) p
  unfolding run_one
  turn_faulty b = record { held = H; ends = λ ran go. rw b }

  module _ {o : Operator} {next : ℕ} (d : operator_at s at ≡ Ok (o, next)) where
    pub source : ReadFrom s o
    source = record { at = at; next = next; form = d }

    pub turn_done : {q : Pattern}
        → lent (record { counts = q.counts; refusal = accepted }) q ≡ applied p (step o (faces_of s o) (complex p))
        → OperatorDone s at p next q
    unfolding run_one
    turn_done e = record {
      held = applied-held H s o (operator_formed source) e;
      goes = λ ran go.
          rw d (answer-accepted p s o e (λ r. ended (complex p) ran r) (λ X. go (here X (ran + 1) next)) H (operator_formed source) refl);
    }

    -- a refused operator leaves the pattern as it was
    module _ (r : Refusal) {q : Pattern} (e : lent (record { counts = q.counts; refusal = refusal_number r }) q ≡ applied p (step o (faces_of s o) (complex p))) where
      unchanged : q ≡ p
      unchanged =
          ap applied_left
          (e ∙ answer-refused p s o e (λ r. lent (record { counts = p.counts; refusal = r }) p)
          (λ Y. lent (record { counts = counts_of Y; refusal = accepted }) (stored Y)) (not_accepted r))

      pub turn_refused : OperatorStops s at p (Stop.Meaning r) q
      unfolding run_one
      turn_refused = record {
        held = rw unchanged H;
        ends = λ ran go.
            rw d (answer-refused p s o e (λ r. ended (complex p) ran r) (λ X. go (here X (ran + 1) next)) (not_accepted r)
            ∙ ap (λ x. ended (complex x) ran (refusal_number r)) (sym unchanged));
      }

-- the rest of the run, from where it stands, is the whole
module _ (s : List ℕ) (n : ℕ) (p : Pattern) where
  pub record OperatorsLeft (ran at : ℕ) (q : Pattern) : Type 0 where
    pub held : Held q
    pub rest : run_from s (n - ran) (here (complex q) ran at) ≡ run_from s n (here (complex p) 0 7)

  module _ {ran at : ℕ} {q : Pattern} (U : OperatorsLeft ran at q) where
    module _ (h : ran < n) where
      pub run_more : {next : ℕ} {q' : Pattern} → OperatorDone s at q next q' → OperatorsLeft (ran + 1) next q'
      unfolding run_from
      run_more {next} {q'} T = record {
        held = T.held;
        rest = ap (λ left. run_from s left (here (complex q') (ran + 1) next)) (omega arith)
            ∙ turns.turned (run_one s) _ (here (complex q) ran at) (omega arith) (T.goes ran) ∙ U.rest;
      }

      pub run_stops : {stop : Stop} {q' : Pattern} → OperatorStops s at q stop q' → RunTo s n p (record { ran = ran; ended = Err stop }) q'
      unfolding run_from
      run_stops T = record {
        held = T.held;
        is = turns.stopped (run_one s) _ (here (complex q) ran at) (omega arith) (T.ends ran) ∙ U.rest;
      }

    pub run_ends : ran ≡ n → RunTo s n p (record { ran = n; ended = Ok tt }) q
    unfolding run_from
    run_ends z = record {
      held = U.held;
      is = ap (λ ran. ended (complex q) ran accepted) (sym z)
          ∙ turns.repeat-ended (run_one s) _ (here (complex q) ran at) (omega arith) refl ∙ U.rest;
    }
