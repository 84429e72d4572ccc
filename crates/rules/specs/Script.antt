-- Running a script: "operators run in order up to the first refusal; earlier ones remain".
use Rattle.std.specs.Prelude.{Bool, cond, List, ℕ, zero, suc, ◌+◌, eqb, ℤ, pos, ◌+ℤ◌, get_or}
use Rattle.maths.specs.Tests.{all}
use Rattle.maths.specs.Repeat.{repeat}
use Rattle.rules.specs.declared.form.Fault.{Fault}
use Rattle.rules.specs.Refusals.{accepted, stale, no_place}
use Rattle.rules.specs.Complex.{Complex}
use Rattle.rules.specs.Operators.{amount_of, step, after_step}
use Rattle.rules.specs.Form.{operator_at, after_operator, faces_of, fault_number, fault_place, script_form, after}

-- "the answer has the number accepted, printed as run, and the refusal", and the place of a fault
pub record Ended : Type 0 where
  pub now : Complex
  pub ran : ℕ
  pub refusal : ℕ
  pub place : ℕ

abbrev pub ended_at : Complex → ℕ → ℕ → ℕ → Ended
ended_at X ran r at = record { now = X; ran = ran; refusal = r; place = at }

abbrev pub ended : Complex → ℕ → ℕ → Ended
ended X ran r = ended_at X ran r no_place

abbrev pub ended_by : Complex → ℕ → Fault → Ended
ended_by X ran f = ended_at X ran (fault_number f) (fault_place f)

-- where a run stands: the pattern, how many operators were accepted, and the next place
pub record Here : Type 0 where
  pub now : Complex
  pub ran : ℕ
  pub at : ℕ

unfoldable pub run_one : List ℕ → Here → (Here → Ended) → Ended
run_one s h go =
    after_operator (operator_at s h.at) (ended_by h.now h.ran) λ o next.
    after_step (step o (faces_of s o) h.now) (λ r. ended h.now h.ran r) λ X.
    go (record { now = X; ran = h.ran + 1; at = next })

-- n operators
unfoldable pub run_from : List ℕ → ℕ → Here → Ended
run_from s n h = repeat (run_one s) (λ h. ended h.now h.ran accepted) n h

-- what the first n operators from `at` add to the Euler number by the table
unfoldable pub moved_by : List ℕ → ℕ → ℕ → ℤ
moved_by s zero at = pos 0
moved_by s (suc n) at = after_operator (operator_at s at) (λ f. pos 0) λ o next. amount_of o +ℤ moved_by s n next

-- the base counts are the pattern's
unfoldable pub same_base : List ℕ → Complex → Bool
same_base s X = all 4 (λ k. eqb (get_or s (k + 1) 0) (X k).n)

-- "A script whose form is faulty, or that is stale, runs nothing."
unfoldable pub run_script : List ℕ → Complex → Ended
run_script s X =
    after (script_form s) (ended_by X 0) λ n.
    cond (same_base s X) (run_from s n (record { now = X; ran = 0; at = 7 })) (ended X 0 stale)
