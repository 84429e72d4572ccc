-- Demands 1 and 2 of the calls of one operator and of a script, in counts and bytes: what is left is good whatever was refused, the Euler number has
-- moved by the listed amounts, and a script that is faulty or stale runs nothing.
use Rattle.std.specs.Prelude.{Ok, Err}
use mathlib.Core.Path.{◌≡◌, sym, ◌∙◌, ap}
use mathlib.Core.Bool.{true, false}
use mathlib.Core.List.{List}
use Prim.Native.Nat.{ℕ}
use lib.IntN.{ℤ, pos, ◌+ℤ◌, +ℤ_idr}
use lib.Dec.{ltb}
use lib.ListN.{length}
use Rattle.maths.specs.Sums.{dot}
use Rattle.maths.specs.Tables.{entries}
use Rattle.maths.proofs.Cases.{bool_or}
use Rattle.rules.specs.Answers.{Applied, ScriptRun}
use Rattle.rules.specs.declared.form.Fault.{Fault}
use Rattle.rules.specs.declared.operator.Operator.{Operator}
use Rattle.rules.specs.Refusals.{accepted, stale, no_place}
use Rattle.rules.specs.Complex.{Pattern, Complex, complex, stored, euler}
use Rattle.rules.specs.Good.{Held}
use Rattle.rules.specs.Operators.{amount_of, step, after_step}
use Rattle.rules.specs.Form.{operator_at, lone_operator, faces_of, script_form, fault_number, fault_place}
use Rattle.rules.specs.Script.{run_script, moved_by, same_base}
use Rattle.rules.specs.Calls.{Lent, lent, sized_script, applied, applied_left, operator_left, script_left, euler_call, apply_call, run_call}
use Rattle.rules.proofs.Branches.Branches.{cond_each, operator_each, step_each}
use Rattle.rules.proofs.Branches.Numbers.{Refusal, step-numbered}
use Rattle.rules.proofs.Bytes.Fields.{bad_operator, after_operator_lem}
use Rattle.rules.proofs.Bytes.Decoded.{Formed, decoded}
use Rattle.rules.proofs.Storage.Stored.{sized-is, stored-held, stored-complex, complex-stored}
use Rattle.rules.proofs.Storage.Tested.{good-is}
use Rattle.rules.proofs.Scripts.Steps.{Kept, edit_kept, removal_kept}
use Rattle.rules.proofs.Scripts.Runs.{script-kept}

-- "matrix 1 times matrix 2 is zero, and matrix 2 times matrix 3 is zero", of the stored lists
pub record Null (p : Pattern) : Type 0 where
  pub first : (r j : ℕ) → dot 96 (λ i. entries p.m1 r i) (λ i. entries p.m2 i j) ≡ pos 0
  pub second : (r j : ℕ) → dot 96 (λ i. entries p.m2 r i) (λ i. entries p.m3 i j) ≡ pos 0

pub held-null : {p : Pattern} → Held p → Null p
held-null H = record { first = H.good.null 0; second = H.good.null 1 }

-- the Euler call accepts a good pattern
pub euler-held : {p : Pattern} → Held p → euler_call p ≡ record { number = euler (complex p); refusal = accepted }
unfolding euler_call
euler-held H = rw (sized-is H.sized, good-is H.good)

-- what the Euler call answers of q is what it answers of p and z more, both accepted
pub record Moved (p q : Pattern) (z : ℤ) : Type 0 where
  pub before : (euler_call p).refusal ≡ accepted
  pub after : (euler_call q).refusal ≡ accepted
  pub number : (euler_call q).number ≡ (euler_call p).number +ℤ z

moved : {p q : Pattern} {z : ℤ} → Held p → Held q → euler (complex q) ≡ euler (complex p) +ℤ z → Moved p q z
moved H K e = record { before = rw (euler-held H); after = rw (euler-held K); number = rw (euler-held H, euler-held K) e }

not_moved : {p : Pattern} → Held p → Moved p p (pos 0)
not_moved {p} H = moved H H (sym (+ℤ_idr (euler (complex p))))

-- the bytes of one operator begin with it
pub lone_at : (s : List ℕ) {o : Operator} {next : ℕ} → lone_operator s ≡ Ok (o, next) → operator_at s 0 ≡ Ok (o, next)
unfolding lone_operator
lone_at s {o} {next} e =
    let a = after_operator_lem (operator_at s 0) bad_operator e in
    bool_or (ltb a.1 (length s))
    (λ t. absurd (bad_operator (Fault.Left a.1) (rw t at a.3)))
    (λ t. let q : Ok (a.0, a.1) ≡ Ok (o, next) = rw t at a.3 in a.2 ∙ q)

module _ {p : Pattern} (H : Held p) (s : List ℕ) where
  -- an operator in form on a good pattern: what holds of a refusal and of a good pattern whose Euler number has moved, holds of what follows it
  formed_each : {A : Type 0} (P : A → Type 0) {bad : ℕ → A} {go : Complex → A} (o : Operator) → Formed s o → ((r : ℕ) → Refusal r → P (bad r)) →
      ((Y : Complex) → Kept o (complex p) Y → P (go Y)) → P (after_step (step o (faces_of s o) (complex p)) bad go)
  formed_each P o F stays goes =
      step_each P (step o (faces_of s o) (complex p)) (λ r q. stays r (step-numbered (faces_of s o) (complex p) H.good o r q))
      (λ S q. goes _ (edit_kept H.good s o F q).kept) (λ Y q. goes Y (removal_kept H.good s o F q))

  -- what an operator leaves of a good pattern is good, accepted or refused
  pub applied-held : {l : Lent Applied} (o : Operator) → Formed s o → l ≡ applied p (step o (faces_of s o) (complex p)) → Held (applied_left l)
  applied-held o F e = rw e (formed_each (λ l. Held (applied_left l)) o F (λ r n. H) (λ Y K. stored-held K.good))

  -- the call of one operator
  pub apply_held : Held (operator_left (apply_call p s))
  unfolding apply_call
  apply_held =
      rw (sized-is H.sized, good-is H.good)
      (operator_each (λ l. Held (operator_left l)) (lone_operator s) (λ f. H) (λ o next e.
      formed_each (λ l. Held (operator_left l)) o (decoded s 0 (lone_at s e)).0 (λ r n. H) (λ Y K. stored-held K.good)))

  pub apply_moves : {o : Operator} {next : ℕ} → lone_operator s ≡ Ok (o, next) → (apply_call p s).answer.refusal ≡ accepted →
      Moved p (operator_left (apply_call p s)) (amount_of o)
  unfolding apply_call
  apply_moves {o} e =
      rw (sized-is H.sized, good-is H.good, e)
      (formed_each (λ l. l.answer.refusal ≡ accepted → Moved p (operator_left l) (amount_of o)) o (decoded s 0 (lone_at s e)).0
      (λ r n a. absurd (n.not_0 a))
      (λ Y K a. moved H (stored-held K.good) (ap euler (complex-stored K.good) ∙ K.moved)))

  -- the call of a script
  pub run-held : Held (script_left (run_call p s))
  unfolding run_call
  run-held =
      rw (sized-is H.sized, good-is H.good)
      (cond_each (λ l. Held (script_left l)) (sized_script s) (λ t. stored-held (script-kept s H.good).good) (λ t. H))

  pub run_moves : Moved p (script_left (run_call p s)) (moved_by s (run_call p s).answer.ran 7)
  unfolding run_call moved_by
  run_moves =
      rw (sized-is H.sized, good-is H.good)
      (cond_each (λ l. Moved p (script_left l) (moved_by s l.answer.ran 7)) (sized_script s)
      (λ t. let K = script-kept s H.good in moved H (stored-held K.good) (ap euler (complex-stored K.good) ∙ K.moved))
      (λ t. not_moved H))

  -- "A script whose form is faulty, or that is stale, runs nothing."
  module _ (short : sized_script s ≡ true) where
    abbrev idle : Pattern → ℕ → ℕ → Lent ScriptRun
    idle q r at = lent (record { counts = q.counts; ran = 0; refusal = r; place = at }) q

    nothing_runs : (r at : ℕ) → idle (stored (complex p)) r at ≡ idle p r at
    nothing_runs r at = ap (λ (q : Pattern). idle q r at) (stored-complex p H.sized)

    pub faulty_runs_nothing : (f : Fault) → script_form s ≡ Err f → run_call p s ≡ idle p (fault_number f) (fault_place f)
    unfolding run_call run_script
    faulty_runs_nothing f e = rw (sized-is H.sized, short, good-is H.good, e) (nothing_runs (fault_number f) (fault_place f))

    pub stale_runs_nothing : (n : ℕ) → script_form s ≡ Ok n → same_base s (complex p) ≡ false → run_call p s ≡ idle p stale no_place
    unfolding run_call run_script
    stale_runs_nothing n e b = rw (sized-is H.sized, short, good-is H.good, e, b) (nothing_runs stale no_place)
