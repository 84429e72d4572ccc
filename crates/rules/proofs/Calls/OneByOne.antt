-- A script in calls of one operator: the call of a script leaves what the calls of the operators that ran, one by one, leave; and the operator that is
-- refused is refused by its own call with the same number, which changes nothing.
use Rattle.std.specs.Prelude.{Ok}
use mathlib.Core.Path.{◌≡◌, refl, ◌∙◌, ap, subst}
use mathlib.Core.Logic.{◌≢◌}
use mathlib.Core.Bool.{true}
use mathlib.Core.List.{List}
use Prim.Native.Nat.{ℕ, zero, suc, ◌+◌}
use native.Mathlib.Nat.{zero-add}
use native.Mathlib.Omega.{arith}
use lib.Dec.{ltb}
use lib.ListN.{length}
use Rattle.maths.specs.Repeat.{repeat}
use Rattle.rules.specs.Answers.{OperatorApplied, ScriptRun}
use Rattle.rules.specs.declared.form.Fault.{Fault}
use Rattle.rules.specs.declared.operator.Operator.{Operator}
use Rattle.rules.specs.Refusals.{accepted, no_place}
use Rattle.rules.specs.Complex.{Pattern, Complex, complex, stored}
use Rattle.rules.specs.Good.{Good, Held}
use Rattle.rules.specs.Edits.{layers}
use Rattle.rules.specs.Operators.{step, after_step}
use Rattle.rules.specs.Form.{byte_at, word_at, operator_at, faces_of, counts_at, operators_at, script_form}
use Rattle.rules.specs.Script.{Ended, ended, Here, run_one, run_from, same_base, run_script}
use Rattle.rules.specs.Calls.{Lent, lent, sized_script, handed_back, handed_back_of, operator_left, script_left, apply_call, run_call}
use Rattle.rules.proofs.Branches.Branches.{cond_each, step_each}
use Rattle.rules.proofs.Bytes.Fields.{bad_field, after_got, after_operator_lem}
use Rattle.rules.proofs.Bytes.Decoded.{decoded}
use Rattle.rules.proofs.Bytes.Alone.{bytes_from, alone}
use Rattle.rules.proofs.Storage.Stored.{sized-is, stored-held, complex-stored, stored-complex}
use Rattle.rules.proofs.Storage.Tested.{good-is}
use Rattle.rules.proofs.Scripts.Steps.{edit_kept, removal_kept}

-- the call of the operator that stands in the script from `at` up to `next`, with its own bytes
abbrev pub call_at : List ℕ → ℕ → ℕ → Pattern → Lent OperatorApplied
call_at s at next p = apply_call p (bytes_from s at next)

-- n calls, all accepted: from the place `at` and the pattern p to the place `end` and the pattern q
pub data Calls (s : List ℕ) : ℕ → ℕ → Pattern → ℕ → Pattern → Type 0 where
  none : {at : ℕ} {p : Pattern} → Calls s 0 at p at p
  more : {n at end next : ℕ} {p q : Pattern} {o : Operator} → operator_at s at ≡ Ok (o, next) → (call_at s at next p).answer.refusal ≡ accepted →
      Calls s n next (operator_left (call_at s at next p)) end q → Calls s (suc n) at p end q

-- the call of the operator at `at` is refused by r, and leaves p
pub record Stops (s : List ℕ) (at : ℕ) (p : Pattern) (r : ℕ) : Type 0 where
  pub operator : Operator
  pub next : ℕ
  pub form : operator_at s at ≡ Ok (operator, next)
  pub call : call_at s at next p ≡ handed_back p r no_place

-- how a run from p, of which `ran` operators went before, ended: by that many calls, and with the call that was refused
record Reached (s : List ℕ) (at ran : ℕ) (p : Pattern) (e : Ended) : Type 0 where
  number : ℕ
  ran-is : e.ran ≡ ran + number
  place : ℕ
  left : Pattern
  held : Held left
  now-is : e.now ≡ complex left
  calls : Calls s number at p place left
  last : e.refusal ≢ accepted → Stops s place left e.refusal

-- the call with an operator's own bytes does what the script does
pub own_call : {p : Pattern} → Held p → (s : List ℕ) (at : ℕ) {o : Operator} {next : ℕ} → operator_at s at ≡ Ok (o, next) →
    call_at s at next p ≡ handed_back_of p (step o (faces_of s o) (complex p))
unfolding apply_call
own_call {p} H s at e = let A = alone s at e in rw (sized-is H.sized, good-is H.good, A.form, A.steps (complex p))

module _ (s : List ℕ) where
  -- one call more
  one_more_lem : {at next ran : ℕ} {p : Pattern} {o : Operator} {e : Ended} (Y : Complex) → operator_at s at ≡ Ok (o, next) →
      call_at s at next p ≡ handed_back (stored Y) accepted no_place → Reached s next (ran + 1) (stored Y) e → Reached s at ran p e
  one_more_lem {at} {next} {ran} {p} {o} Y d c R =
      let rest : Calls s R.number next (operator_left (call_at s at next p)) R.place R.left = rw c R.calls in
      record {
        number = suc R.number;
        ran-is = R.ran-is ∙ omega arith;
        place = R.place;
        left = R.left;
        held = R.held;
        now-is = R.now-is;
        calls = more d (ap (λ (l : Lent OperatorApplied). l.answer.refusal) c) rest;
        last = R.last;
      }

  -- operators in form: the first, and those after it
  first_in_form : (count n m at : ℕ) → operators_at s count (suc n) at ≡ Ok m →
      (o : Operator) × (next : ℕ) × (operator_at s at ≡ Ok (o, next)) × (operators_at s count n next ≡ Ok m)
  unfolding operators_at repeat
  first_in_form count n m at f = after_operator_lem (operator_at s at) bad_field f

  -- a run of none, and of one more
  run_none : (h : Here) → run_from s 0 h ≡ ended h.now h.ran accepted
  unfolding run_from repeat
  run_none h = refl

  run-next : (n : ℕ) (h : Here) {o : Operator} {next : ℕ} → operator_at s h.at ≡ Ok (o, next) →
      run_from s (suc n) h ≡ after_step (step o (faces_of s o) h.now) (λ r. ended h.now h.ran r) (λ Y. run_from s n (record { now = Y; ran = h.ran + 1; at = next }))
  unfolding run_from repeat run_one
  run-next n h d = rw d

  -- a run that ends before its first operator, or at it
  stays : {at ran : ℕ} {p : Pattern} (r : ℕ) → Held p → (r ≢ accepted → Stops s at p r) → Reached s at ran p (ended (complex p) ran r)
  stays {at} {ran} {p} r H last = record { number = 0; ran-is = omega arith; place = at; left = p; held = H; now-is = refl; calls = none; last = last }

  -- an operator in form, and n more after it, on whatever good pattern it leaves
  module _ (n at ran : ℕ) {p : Pattern} (H : Held p) (o : Operator) (next : ℕ) (d : operator_at s at ≡ Ok (o, next))
      (rest : (q : Pattern) → Held q → Reached s next (ran + 1) q (run_from s n (record { now = complex q; ran = ran + 1; at = next }))) where
    call : call_at s at next p ≡ handed_back_of p (step o (faces_of s o) (complex p))
    call = own_call H s at d

    on : (Y : Complex) → Good Y → Reached s next (ran + 1) (stored Y) (run_from s n (record { now = Y; ran = ran + 1; at = next }))
    on Y G = subst (λ (X : Complex). Reached s next (ran + 1) (stored Y) (run_from s n (record { now = X; ran = ran + 1; at = next }))) (complex-stored G)
        (rest (stored Y) (stored-held G))

    run_more : Reached s at ran p (run_from s (suc n) (record { now = complex p; ran = ran; at = at }))
    run_more =
        let F = (decoded s at d).0 in
        rw (run-next n (record { now = complex p; ran = ran; at = at }) d)
        (step_each (Reached s at ran p) (step o (faces_of s o) (complex p))
        (λ r q. stays r H (λ _. record { operator = o; next = next; form = d; call = call ∙ ap (handed_back_of p) q }))
        (λ S q. one_more_lem (layers S) d (call ∙ ap (handed_back_of p) q) (on (layers S) (edit_kept H.good s o F q).kept.good))
        (λ Y q. one_more_lem Y d (call ∙ ap (handed_back_of p) q) (on Y (removal_kept H.good s o F q).good)))

  -- n operators in form
  runs : (count n m at ran : ℕ) (p : Pattern) → Held p → operators_at s count n at ≡ Ok m →
      Reached s at ran p (run_from s n (record { now = complex p; ran = ran; at = at }))
  runs count zero m at ran p H f = rw (run_none (record { now = complex p; ran = ran; at = at })) (stays accepted H (λ n. absurd (n refl)))
  runs count (suc n) m at ran p H f =
      let a = first_in_form count n m at f in
      run_more n at ran H a.0 a.1 a.2 (λ q K. runs count n m a.1 (ran + 1) q K a.3)

  -- the count that the form of a script answers is that of its operators
  operators_count : (count n m at : ℕ) → operators_at s count n at ≡ Ok m → count ≡ m
  unfolding operators_at repeat
  operators_count count zero m at f =
      cond_each (λ x. x ≡ Ok m → count ≡ m) (ltb at (length s)) (λ t e. absurd (bad_field (Fault.Left at) e)) (λ t e. cc e) f
  operators_count count (suc n) m at f = let a = after_operator_lem (operator_at s at) bad_field f in operators_count count n m a.1 a.3

  in_form : {n : ℕ} → script_form s ≡ Ok n → operators_at s n n 7 ≡ Ok n
  unfolding script_form
  in_form {n} f =
      let a = after_got (byte_at s 0 4 4) bad_field f in
      let b = after_got (counts_at s 4 1) bad_field a.2 in
      let c = after_got (word_at s 5 1024) bad_field b.2 in
      let q : c.0 ≡ n = operators_count c.0 c.0 n 7 c.2 in
      rw q at c.2

-- what the call of a script leaves is what the calls of the operators that ran leave, one by one; and where an operator was refused, its call is refused
pub record OneByOne (s : List ℕ) (p : Pattern) (l : Lent ScriptRun) : Type 0 where
  pub place : ℕ
  pub calls : Calls s l.answer.ran 7 p place (script_left l)
  pub last : l.answer.refusal ≢ accepted → Stops s place (script_left l) l.answer.refusal

module _ {p : Pattern} (H : Held p) (s : List ℕ) where
  reached : {e : Ended} → Reached s 7 0 p e → OneByOne s p (lent (record { counts = (stored e.now).counts; ran = e.ran; refusal = e.refusal; place = e.place }) (stored e.now))
  reached {e} R =
      let same : stored e.now ≡ R.left = ap stored R.now-is ∙ stored-complex R.left R.held.sized in
      let ran : e.ran ≡ R.number = R.ran-is ∙ zero-add R.number in
      record { place = R.place; calls = rw (same, ran) R.calls; last = λ n. rw same (R.last n) }

  -- "operators run in order up to the first refusal; earlier ones remain"
  pub run_one_by_one : sized_script s ≡ true → (n : ℕ) → script_form s ≡ Ok n → same_base s (complex p) ≡ true → OneByOne s p (run_call p s)
  unfolding run_call run_script
  run_one_by_one short n form base =
      rw (sized-is H.sized, short, good-is H.good, form, base) (reached (runs s n n n 7 0 p H (in_form s form)))
