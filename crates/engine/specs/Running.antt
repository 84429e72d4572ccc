-- What a run of a script's operators needs, and what each part of it leaves.
use Rattle.std.specs.Prelude.{◌≡◌, Result, Ok, Err, List, ℕ, ◌+◌, ◌≤◌, length}
use Rattle.rules.specs.declared.answers.ScriptRun.{ScriptRun}
use Rattle.rules.specs.declared.refusals.Stop.{Stop}
use Rattle.rules.specs.Complex.{Pattern, Complex, complex}
use Rattle.rules.specs.Script.{Ended, ended_at, Here, run_one, run_from, run_script}
use Rattle.rules.specs.Calls.{lent, run_call}
use Rattle.rules.specs.Told.{stop_number, stop_place, stopped_number, stopped_place}
use Rattle.rules.specs.Good.{Held}

abbrev pub here : Complex → ℕ → ℕ → Here
here X ran at = record { now = X; ran = ran; at = at }

-- a good pattern, as many operators as a script may have, and as many bytes
pub record Runnable (n : ℕ) (s : List ℕ) (p : Pattern) : Type 0 where
  pub held : Held p
  pub few : n ≤ 1024
  pub short : length s ≤ 24576

-- a script of n operators that is to run on p
pub record Runs (s : List ℕ) (p : Pattern) (n : ℕ) : Type 0 where
  pub runnable : Runnable n s p
  pub whole : run_script s (complex p) ≡ run_from s n (here (complex p) 0 7)

-- and one that is refused before
pub record Idle (s : List ℕ) (p : Pattern) (stop : Stop) : Type 0 where
  pub is : lent (record { counts = p.counts; ran = 0; refusal = stop_number stop; place = stop_place stop }) p ≡ run_call p s

abbrev pub MayRun : List ℕ → Pattern → Result ℕ Stop → Type 0
MayRun s p (Ok n) = Runs s p n
MayRun s p (Err stop) = Idle s p stop

-- after the operator at `at`, which is accepted: the run goes on from what is reached
pub record OperatorDone (s : List ℕ) (at : ℕ) (p : Pattern) (next : ℕ) (q : Pattern) : Type 0 where
  pub held : Held q
  pub goes : (ran : ℕ) (go : Here → Ended) → run_one s (here (complex p) ran at) go ≡ go (here (complex q) (ran + 1) next)

-- the run that has ended with a pattern
abbrev pub ended_so : Pattern → ℕ → Result Unit Stop → Ended
ended_so q ran r = ended_at (complex q) ran (stopped_number r) (stopped_place r)

-- after one that stops the run
pub record OperatorStops (s : List ℕ) (at : ℕ) (p : Pattern) (stop : Stop) (q : Pattern) : Type 0 where
  pub held : Held q
  pub ends : (ran : ℕ) (go : Here → Ended) → run_one s (here (complex p) ran at) go ≡ ended_so q ran (Err stop)

abbrev pub OperatorRun : List ℕ → ℕ → Pattern → Result ℕ Stop → Pattern → Type 0
OperatorRun s at p (Ok next) q = OperatorDone s at p next q
OperatorRun s at p (Err stop) q = OperatorStops s at p stop q

-- n operators from place 7 on have run, up to the first refusal
pub record RunTo (s : List ℕ) (n : ℕ) (p : Pattern) (r : ScriptRun) (q : Pattern) : Type 0 where
  pub held : Held q
  pub is : ended_so q r.ran r.ended ≡ run_from s n (here (complex p) 0 7)
