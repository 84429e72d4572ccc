-- What `run_input` answers, case by case: the mesh is refused, or its script is run.
use mathlib.Core.Path.{◌≡◌, refl, ◌∙◌}
use mathlib.Core.Logic.{◌≢◌}
use mathlib.Core.List.{List}
use Prim.Native.Nat.{ℕ, ◌≤◌}
use native.Mathlib.Omega.{arith}
use lib.IntN.{pos}
use lib.ListN.{length, drop}
use Rattle.maths.proofs.Cases.{bool_or}
use Rattle.rules.specs.declared.form.Fault.{Fault}
use Rattle.rules.specs.declared.refusals.Stop.{Stop}
use Rattle.rules.specs.Answers.{MeshRead}
use Rattle.rules.specs.Answers.{ScriptRun}
use Rattle.rules.specs.Answers.{EulerNumber}
use Rattle.rules.specs.Refusals.{accepted}
use Rattle.rules.specs.Told.{stop_number}
use Rattle.rules.specs.Complex.{Pattern, Sized, Complex, stored, euler}
use Rattle.rules.specs.Good.{Good, is_good}
use Rattle.rules.specs.Script.{Ended}
use Rattle.rules.specs.Calls.{Lent, lent, sized_script, mesh_left, script_left, read_call, run_call, euler_call}
use Rattle.rules.proofs.Branches.Branches.{good_each}
use Rattle.rules.proofs.Storage.Stored.{complex-stored, sized-is, stored-sized}
use Rattle.rules.proofs.Storage.Tested.{good-is}
use Rattle.rules.proofs.Scripts.Runs.{script-kept}
use Rattle.rules.proofs.Texts.ReadGood.{read_good, mesh_each}
use Rattle.rules.proofs.Texts.WrittenRead.{written_read}
use Rattle.rules.proofs.Branches.Refused.{not_accepted}
use Rattle.engine.proofs.ScriptAnswers.{answered}
use Rattle.printing.specs.Input.{Run, end_of, ran_to, run_input}

-- what is answered after a mesh that is refused, and after a script
abbrev has_not_run : Lent MeshRead → Lent Run
has_not_run l =
    let r = l.answer in
    lent (record { mesh = r.refusal; ran = 0; refusal = 0; place = r.place; counts = r.counts; euler = pos 0 }) (mesh_left l)

abbrev has_run : Lent ScriptRun → EulerNumber → Lent Run
has_run l z =
    let r = l.answer in
    lent (record { mesh = accepted; ran = r.ran; refusal = r.refusal; place = r.place; counts = r.counts; euler = z.number }) (script_left l)

-- a mesh that was taken: a good pattern is stored, and what is answered is what the script after it leads to
pub record MeshTaken (s : List ℕ) (l : Lent MeshRead) (m : Lent Run) : Type 0 where
  pub read : Complex
  pub good : Good read
  pub inside : l.answer.used ≤ length s
  pub held : mesh_left l ≡ stored read
  pub then : ran_to (end_of (drop l.answer.used s) read) ≡ m

-- what stops a call has a number
pub stop_not_0 : (stop : Stop) → stop_number stop ≢ accepted
stop_not_0 (Stop.Form (Fault.Ends at)) e = absurd (omega arith)
stop_not_0 (Stop.Form (Fault.Wrong at)) e = absurd (omega arith)
stop_not_0 (Stop.Form (Fault.Left at)) e = absurd (omega arith)
stop_not_0 (Stop.Meaning r) e = not_accepted r e

module _ (s : List ℕ) (p : Pattern) (S : Sized p) {l : Lent MeshRead} (read : l ≡ read_call s p) where
  pub mesh-refused : l.answer.refusal ≢ accepted → has_not_run l ≡ run_input s
  unfolding read_call run_input
  mesh-refused =
      rw (read, sized-is S)
      (mesh_each (λ (l : Lent MeshRead) (m : Lent Run). l.answer.refusal ≢ accepted → has_not_run l ≡ m) s
      (λ r at n L k. refl) (λ X used e k. absurd (k refl)))

  pub mesh-taken : l.answer.refusal ≡ accepted → MeshTaken s l (run_input s)
  unfolding read_call run_input
  mesh-taken =
      rw (read, sized-is S)
      (mesh_each (λ (l : Lent MeshRead) (m : Lent Run). l.answer.refusal ≡ accepted → MeshTaken s l m) s
      (λ r at n L k. absurd (n.not_0 k))
      (λ X used e k. record { read = X; good = read_good s X used e; inside = (written_read s e).0; held = refl; then = refl }))

module _ {X : Complex} (G : Good X) (script : List ℕ) where
  pub end_good : Good (end_of script X).now
  unfolding end_of
  end_good = good_each (λ (e : Ended). Good e.now) (sized_script script) (is_good X) (λ l g. (script-kept script G).good) G G

  -- the call on the stored pattern answers how the script ends
  run-ended : run_call (stored X) script ≡ answered (end_of script X)
  unfolding run_call end_of
  run-ended =
      rw (sized-is (stored-sized X), complex-stored G, good-is G)
      (bool_or (sized_script script) (λ t. rw t) (λ t. rw t))

euler-ended : {X : Complex} → Good X → euler_call (stored X) ≡ record { number = euler X; refusal = accepted }
unfolding euler_call
euler-ended {X} G = rw (sized-is (stored-sized X), complex-stored G, good-is G)

-- a mesh that was taken, and its script run
module _ {s : List ℕ} {l : Lent MeshRead} {m : Lent Run} (T : MeshTaken s l m) {d : Lent ScriptRun} {z : EulerNumber}
    (script : d ≡ run_call (mesh_left l) (drop l.answer.used s)) (number : z ≡ euler_call (script_left d)) where
  script-is : d ≡ answered (end_of (drop l.answer.used s) T.read)
  script-is = script ∙ rw T.held (run-ended T.good (drop l.answer.used s))

  number-is : z ≡ record { number = euler (end_of (drop l.answer.used s) T.read).now; refusal = accepted }
  number-is = number ∙ rw script-is (euler-ended (end_good T.good (drop l.answer.used s)))

  pub number-taken : z.refusal ≡ accepted
  number-taken = rw number-is

  pub script-ran : has_run d z ≡ m
  script-ran = rw (script-is, number-is) T.then
