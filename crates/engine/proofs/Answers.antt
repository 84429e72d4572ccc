-- What a call with one operator answers, case by case: refused by the pattern's test, by the form of the bytes, or as the operator does.
use Rattle.std.specs.Prelude.{Ok, Err}
use mathlib.Core.Path.{◌≡◌, refl, ap, ◌∙◌}
use mathlib.Core.List.{List}
use Prim.Native.Nat.{ℕ, ◌<◌}
use native.Mathlib.Omega.{arith}
use lib.Dec.{ltb}
use lib.ListN.{length}
use Rattle.maths.proofs.Cases.{bool_or}
use Rattle.rules.specs.Answers.{Applied}
use Rattle.rules.specs.Answers.{OperatorApplied}
use Rattle.rules.specs.declared.form.Fault.{Fault}
use Rattle.rules.specs.declared.operator.Operator.{Operator}
use Rattle.rules.specs.declared.refusals.Refusal.{Refusal}
use Rattle.rules.specs.Refusals.{accepted, no_place}
use Rattle.rules.specs.Complex.{Pattern, complex}
use Rattle.rules.specs.Operators.{Outcome, refused, edited, removed, step}
use Rattle.rules.specs.Form.{operator_at, lone_operator, faces_of, fault_number, fault_place}
use Rattle.rules.specs.Calls.{Lent, lent, applied, applied_left, handed_back, handed_back_of, apply_call}
use Rattle.rules.proofs.Branches.FirstTests.{both_passed, first-refused}
use Rattle.rules.proofs.Bytes.Fields.{bad_operator, after_operator_lem}
use Rattle.rules.proofs.Bytes.Faults.{operator_fault, lone_lies}
use Rattle.rules.specs.Told.{refusal_number}
use Rattle.good.specs.Tested.{tested}
use Rattle.rules.proofs.Branches.Refused.{not_accepted}
use Rattle.engine.specs.Source.{ReadFrom}

-- the bytes of one operator have it at their start
pub lone_read : {s : List ℕ} {o : Operator} {next : ℕ} → lone_operator s ≡ Ok (o, next) → ReadFrom s o
unfolding lone_operator
lone_read {s} {o} {next} e =
    let a = after_operator_lem (operator_at s 0) bad_operator e in
    bool_or (ltb a.1 (length s))
    (λ t. absurd (bad_operator (Fault.Left a.1) (rw t at a.3)))
    (λ t.
    let q : Ok (a.0, a.1) ≡ Ok (o, next) = rw t at a.3 in
    record { at = 0; next = next; form = a.2 ∙ q })

-- and a fault of theirs has a place
pub lone_placed : (s : List ℕ) {f : Fault} → lone_operator s ≡ Err f → fault_place f < no_place
lone_placed s e = omega (arith, (operator_fault s (lone_operator s) (lone_lies s) e).near)

module _ (p : Pattern) where
  -- a call refused by r leaves the pattern as it was
  abbrev refused_by : ℕ → Lent OperatorApplied
  refused_by r = handed_back p r no_place

  -- no outcome has a place
  outcome_unplaced : (o : Outcome) → handed_back (applied_left (applied p o)) (applied p o).answer.refusal no_place ≡ handed_back_of p o
  outcome_unplaced (refused r) = refl
  outcome_unplaced (edited S) = refl
  outcome_unplaced (removed Y) = refl

  module _ (s : List ℕ) where
    -- 1 or 2
    pub apply_not-good : (r : Refusal) → refusal_number r ≡ tested p → refused_by (refusal_number r) ≡ apply_call p s
    unfolding tested apply_call
    apply_not-good r e = first-refused p refused_by _ e (not_accepted r)

    -- 3, 4 or 14
    pub apply_faulty : {f : Fault} → tested p ≡ accepted → lone_operator s ≡ Err f → handed_back p (fault_number f) (fault_place f) ≡ apply_call p s
    unfolding tested apply_call
    apply_faulty e b = let g = both_passed p e in rw (g.0, g.1, b)

    -- what the operator answers
    pub apply_done : {r : ℕ} {q : Pattern} {o : Operator} {next : ℕ} → tested p ≡ accepted → lone_operator s ≡ Ok (o, next) →
        lent (record { counts = q.counts; refusal = r }) q ≡ applied p (step o (faces_of s o) (complex p)) → handed_back q r no_place ≡ apply_call p s
    unfolding tested apply_call
    apply_done {o = o} e d q =
        let g = both_passed p e in
        rw (g.0, g.1, d) (ap (λ (l : Lent Applied). handed_back (applied_left l) l.answer.refusal no_place) q ∙ outcome_unplaced (step o (faces_of s o) (complex p)))
