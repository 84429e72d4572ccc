-- What a call with a script answers, case by case: refused by a length or the pattern's test, by the script's form or base, or as its operators run.
use Rattle.std.specs.Prelude.{Ok, Err}
use mathlib.Core.Path.{◌≡◌, sym, ap, ◌∙◌}
use mathlib.Core.Bool.{Bool, true, false, and-true, and-false}
use mathlib.Core.List.{List}
use Prim.Native.Nat.{ℕ, zero, suc, ◌+◌, ◌<◌, ◌≤◌}
use native.Mathlib.Omega.{arith}
use lib.Dec.{eqb, ltb}
use lib.ListN.{length, get_or}
use borrow.Author.Tests.{le-leb, lt-leb}
use Rattle.maths.specs.Tests.{all}
use Rattle.maths.specs.Repeat.{repeat}
use Rattle.maths.proofs.Cases.{bool_or}
use Rattle.rules.specs.Answers.{ScriptRun}
use Rattle.rules.specs.declared.answers.ScriptRun.{ScriptRun as Run}
use Rattle.rules.specs.declared.form.Fault.{Fault}
use Rattle.rules.specs.declared.refusals.Refusal.{Refusal}
use Rattle.rules.specs.declared.refusals.Stop.{Stop}
use Rattle.rules.specs.Refusals.{stale, no_place}
use Rattle.rules.specs.Counts.{count_of}
use Rattle.rules.specs.Complex.{Pattern, complex, counts_of, stored, Sized}
use Rattle.rules.specs.Form.{operator_at, byte_at, word_at, counts_at, operators_at, script_form, fault_number, fault_place}
use Rattle.rules.specs.Script.{Ended, ended_at, same_base, run_script}
use Rattle.rules.specs.Calls.{Lent, lent, sized, run_call}
use Rattle.rules.specs.Told.{refusal_number, stopped_number, stopped_place}
use Rattle.rules.specs.Good.{Held}
use Rattle.rules.proofs.Branches.FirstTests.{first-refused}
use Rattle.rules.proofs.Bytes.Fields.{bad_field, after_got, after_operator_lem, word_says}
use Rattle.rules.proofs.Storage.Stored.{sized-is, stored-complex}
use Rattle.rules.proofs.Storage.Tested.{good-is}
use Rattle.good.specs.Tested.{tested}
use Rattle.rules.proofs.Branches.Refused.{not_accepted}
use Rattle.engine.specs.Running.{Idle, Runs, RunTo}

module _ (s : List ℕ) where
  -- the number of a list of operators is the one it was read for
  number_is : (count n at : ℕ) {x : ℕ} → operators_at s count n at ≡ Ok x → x ≡ count
  unfolding operators_at repeat
  number_is count zero at e =
      bool_or (ltb at (length s))
      (λ t. absurd (bad_field (Fault.Left at) (rw t at e)))
      (λ t. let q = rw t at e in cc q)
  number_is count (suc n) at e = let a = after_operator_lem (operator_at s at) bad_field e in number_is count n a.1 a.3

  -- a script in form has its base counts, and at most 1,024 operators
  pub script_says : {n : ℕ} → script_form s ≡ Ok n → (4 < length s) × (n ≤ 1024)
  unfolding script_form
  script_says e =
      let a = after_got (byte_at s 0 4 4) bad_field e in
      let b = after_got (counts_at s 4 1) bad_field a.2 in
      let c = after_got (word_at s 5 1024) bad_field b.2 in
      let w = word_says s 5 1024 c.0 c.1 in
      (omega (arith, w.there), omega (arith, w.most, number_is c.0 c.0 7 c.2))

-- how a run is answered
abbrev pub answered : Ended → Lent ScriptRun
answered e = lent (record { counts = counts_of e.now; ran = e.ran; refusal = e.refusal; place = e.place }) (stored e.now)

-- that is, by the pattern that is held
abbrev pub script_answer : Pattern → ℕ → ℕ → ℕ → Lent ScriptRun
script_answer q ran refusal place = lent (record { counts = q.counts; ran = ran; refusal = refusal; place = place }) q

held-answer : {q : Pattern} (ran refusal place : ℕ) → Sized q → script_answer q ran refusal place ≡ answered (ended_at (complex q) ran refusal place)
held-answer {q} ran refusal place S = ap (λ (x : Pattern). script_answer x ran refusal place) (sym (stored-complex q S))

module _ (p : Pattern) (s : List ℕ) where
  -- 1, by the script
  pub too_long : 24576 < length s → Idle s p (Stop.Meaning Refusal.WrongLength)
  unfolding run_call
  too_long h = record { is = rw (lt-leb (length s) 24576 h, and-false (sized p)) }

  module _ (short : length s ≤ 24576) where
    -- 1 or 2, by the pattern
    pub run-not-good : (r : Refusal) → refusal_number r ≡ tested p → Idle s p (Stop.Meaning r)
    unfolding tested run_call
    run-not-good r e = record {
      is = rw (le-leb (length s) 24576 short, and-true (sized p)) (first-refused p (λ r. script_answer p 0 r no_place) _ e (not_accepted r));
    }

    -- what the script answers on a good pattern
    module _ (H : Held p) where
      as_script : answered (run_script s (complex p)) ≡ run_call p s
      unfolding run_call
      as_script = rw (sized-is H.sized, good-is H.good, le-leb (length s) 24576 short)

      -- a script that runs nothing, with the refusal r and the place at
      idle_is : (r at : ℕ) → ended_at (complex p) 0 r at ≡ run_script s (complex p) → script_answer p 0 r at ≡ run_call p s
      idle_is r at e = held-answer 0 r at H.sized ∙ ap answered e ∙ as_script

      -- 3, 4 or 14
      pub run-faulty : {f : Fault} → script_form s ≡ Err f → Idle s p (Stop.Form f)
      unfolding run_script
      run-faulty {f} b = record { is = idle_is (fault_number f) (fault_place f) (rw b) }

      module _ {n : ℕ} (d : script_form s ≡ Ok n) {same : Bool}
          (is : same ≡ all 4 (λ k. eqb (get_or s (k + 1) 0) (count_of p.counts k))) where
        base_is : same_base s (complex p) ≡ same
        unfolding same_base all
        base_is = sym is

        -- 13
        pub run-stale : same ≡ false → Idle s p (Stop.Meaning Refusal.Stale)
        unfolding run_script
        run-stale t = record { is = idle_is stale no_place (rw (d, base_is ∙ t)) }

        -- the operators run
        pub run-starts : same ≡ true → Runs s p n
        unfolding run_script
        run-starts t = record {
          runnable = record { held = H; few = (script_says s d).1; short = short };
          whole = rw (d, base_is ∙ t);
        }

-- what they leave
pub run-done : {s : List ℕ} {p : Pattern} {n : ℕ} → Runs s p n → {r : Run} {q : Pattern} → RunTo s n p r q
    → script_answer q r.ran (stopped_number r.ended) (stopped_place r.ended) ≡ run_call p s
run-done {s} {p} R {r} T =
    held-answer r.ran (stopped_number r.ended) (stopped_place r.ended) T.held.sized
    ∙ ap answered (T.is ∙ sym R.whole) ∙ as_script p s R.runnable.short R.runnable.held
