-- "Any two outcomes permitted by one statement are shown equal", in the code's own types: what a call's equation says of an answer by numbers, a refusal's
-- number alone or a stop's number and place, is said of one answer alone. So number and place are taken back to what they are of.
use Rattle.std.specs.Prelude.{Result, Ok, Err}
use mathlib.Core.Path.{◌≡◌, refl, sym, ap, ◌∙◌}
use mathlib.Core.Bool.{true, cond, ◌&&◌}
use mathlib.Core.List.{List}
use Prim.Native.Nat.{ℕ, ◌<◌}
use native.Mathlib.Omega.{arith}
use lib.Dec.{eqb, ltb}
use lib.IntN.{ℤ, pos}
use lib.ListN.{length}
use borrow.Author.Tests.{lt-ltb, ne_eqb, leb-true}
use Rattle.maths.proofs.Cases.{no_eq, and_right}
use Rattle.rules.specs.declared.answers.ScriptRun.{ScriptRun as Run}
use Rattle.rules.specs.declared.form.Fault.{Fault}
use Rattle.rules.specs.declared.pattern.Pattern.{Pattern as LentPattern}
use Rattle.rules.specs.declared.refusals.Refusal.{Refusal}
use Rattle.rules.specs.declared.refusals.Stop.{Stop}
use Rattle.rules.specs.Answers.{MeshRead, MeshWritten, EulerNumber, OperatorApplied, ScriptRun}
use Rattle.rules.specs.Refusals.{accepted, wrong_length, not_good, bytes_end, wrong_form, no_such_cell, no_room, not_closed, in_use, wrong_part, wrong_divider, not_between, stale, short_output, wrong_chain, not_carried, wrong_off, not_plain, no_place}
use Rattle.rules.specs.Complex.{Pattern, complex}
use Rattle.rules.specs.Good.{is_good}
use Rattle.rules.specs.Operators.{step}
use Rattle.rules.specs.Form.{fault_number, fault_place, is_fault, lone_operator, faces_of}
use Rattle.rules.specs.Calls.{Lent, Given, sized, sized_script, read_call, apply_call, run_call, carry_call}
use Rattle.rules.specs.Told.{refusal_number, number_told, stopped_number, stopped_place, Placed, used_of, written_told, euler_told}
use Rattle.rules.specs.Lending.{operated_on, mesh_read, script_run}
use Rattle.rules.proofs.Branches.Branches.{cond_each, step_each, good_each}
use Rattle.rules.proofs.Branches.Numbers.{meaning_no_fault, step_meant, fault_numbered}
use Rattle.rules.proofs.Branches.Refused.{not_accepted}
use Rattle.rules.proofs.Bytes.Faults.{fault_inside, operator_or, lone_lies}
use Rattle.rules.proofs.Storage.Tested.{good-true, complex_bounded}
use Rattle.rules.proofs.Scripts.Runs.{script-kept}
use Rattle.rules.proofs.Texts.ReadGood.{mesh_each}

-- the refusal of a number
refusal_of : ℕ → Refusal
refusal_of n =
    cond (eqb n wrong_length) Refusal.WrongLength
    (cond (eqb n not_good) Refusal.NotGood
    (cond (eqb n wrong_form) Refusal.WrongDimension
    (cond (eqb n no_such_cell) Refusal.NoSuchCell
    (cond (eqb n no_room) Refusal.NoRoom
    (cond (eqb n not_closed) Refusal.NotClosed
    (cond (eqb n in_use) Refusal.InUse
    (cond (eqb n wrong_part) Refusal.WrongPart
    (cond (eqb n wrong_divider) Refusal.WrongDivider
    (cond (eqb n not_between) Refusal.NotBetween
    (cond (eqb n stale) Refusal.Stale
    (cond (eqb n short_output) Refusal.ShortOutput
    (cond (eqb n wrong_chain) Refusal.WrongChain
    (cond (eqb n not_carried) Refusal.NotCarried
    (cond (eqb n wrong_off) Refusal.WrongOff
    (cond (eqb n not_plain) Refusal.NotPlain Refusal.SharedFace)))))))))))))))

refusal_back : (r : Refusal) → refusal_of (refusal_number r) ≡ r
unfolding refusal_of
refusal_back Refusal.WrongLength = refl
refusal_back Refusal.NotGood = refl
refusal_back Refusal.WrongDimension = refl
refusal_back Refusal.NoSuchCell = refl
refusal_back Refusal.NoRoom = refl
refusal_back Refusal.NotClosed = refl
refusal_back Refusal.InUse = refl
refusal_back Refusal.WrongPart = refl
refusal_back Refusal.WrongDivider = refl
refusal_back Refusal.NotBetween = refl
refusal_back Refusal.Stale = refl
refusal_back Refusal.ShortOutput = refl
refusal_back Refusal.WrongChain = refl
refusal_back Refusal.NotCarried = refl
refusal_back Refusal.WrongOff = refl
refusal_back Refusal.NotPlain = refl
refusal_back Refusal.SharedFace = refl

-- the fault of a number and a place, and the stop: a fault where there is a place
fault_of : ℕ → ℕ → Fault
fault_of n at = cond (eqb n bytes_end) (Fault.Ends at) (cond (eqb n wrong_form) (Fault.Wrong at) (Fault.Left at))

fault_back : (f : Fault) → fault_of (fault_number f) (fault_place f) ≡ f
unfolding fault_of
fault_back (Fault.Ends at) = refl
fault_back (Fault.Wrong at) = refl
fault_back (Fault.Left at) = refl

stop_of : ℕ → ℕ → Stop
stop_of n at = cond (ltb at no_place) (Stop.Form (fault_of n at)) (Stop.Meaning (refusal_of n))

-- the answer of what was accepted, number and place; of an answer its value, or x where it has none
module _ {A : Type 0} where
  answer_of : A → ℕ → ℕ → Result A Stop
  answer_of x n at = cond (eqb n accepted) (Ok x) (Err (stop_of n at))

  refused_of : A → ℕ → Result A Refusal
  refused_of x n = cond (eqb n accepted) (Ok x) (Err (refusal_of n))

  abbrev pub value_or : {E : Type 0} → A → Result A E → A
  value_or x (Ok y) = y
  value_or x (Err e) = x

  answer_back : (x : A) (a : Result A Stop) → Placed a → answer_of (value_or x a) (stopped_number a) (stopped_place a) ≡ a
  unfolding answer_of stop_of
  answer_back x (Ok y) near = refl
  answer_back x (Err (Stop.Form f)) near =
      rw (ne_eqb (fault_number f) accepted (fault_numbered f).not_0, lt-ltb (fault_place f) no_place near, fault_back f)
  answer_back x (Err (Stop.Meaning r)) near = rw (ne_eqb (refusal_number r) accepted (not_accepted r), refusal_back r)

  refused_back : (x : A) (a : Result A Refusal) → refused_of (value_or x a) (number_told a) ≡ a
  unfolding refused_of
  refused_back x (Ok y) = refl
  refused_back x (Err r) = rw (ne_eqb (refusal_number r) accepted (not_accepted r), refusal_back r)

  -- so two answers of one value, number and place are one, if each fault has a place; and of what is refused by meaning alone, two of one value and number
  pub same_answer : (x : A) {a b : Result A Stop} → Placed a → Placed b → value_or x a ≡ value_or x b → stopped_number a ≡ stopped_number b →
      stopped_place a ≡ stopped_place b → a ≡ b
  same_answer x {a} {b} P Q v n at = sym (answer_back x a P) ∙ (rw (v, n, at) (answer_back x b Q))

  pub same_refused : (x : A) {a b : Result A Refusal} → value_or x a ≡ value_or x b → number_told a ≡ number_told b → a ≡ b
  same_refused x {a} {b} v n = sym (refused_back x a) ∙ (rw (v, n) (refused_back x b))

-- a mesh that is written, and the Euler number
written_is : (a : Result ℕ Refusal) → written_told a ≡ record { written = value_or 0 a; refusal = number_told a }
written_is (Ok n) = refl
written_is (Err r) = refl

euler_is : (a : Result ℤ Refusal) → euler_told a ≡ record { number = value_or (pos 0) a; refusal = number_told a }
euler_is (Ok z) = refl
euler_is (Err r) = refl

pub one_writing : {a b : Result ℕ Refusal} → written_told a ≡ written_told b → a ≡ b
one_writing {a} {b} e =
    let same = sym (written_is a) ∙ e ∙ written_is b in
    same_refused 0 (ap (λ (w : MeshWritten). w.written) same) (ap (λ (w : MeshWritten). w.refusal) same)

pub one_euler : {a b : Result ℤ Refusal} → euler_told a ≡ euler_told b → a ≡ b
one_euler {a} {b} e =
    let same = sym (euler_is a) ∙ e ∙ euler_is b in
    same_refused (pos 0) (ap (λ (n : EulerNumber). n.number) same) (ap (λ (n : EulerNumber). n.refusal) same)

-- an answer with the number of a fault has a place; carrying alone tells a fault's number without one, for a chain's dimension
abbrev pub Near : ℕ → ℕ → Type 0
Near r at = is_fault r ≡ true → at < no_place

pub read_near : (s : List ℕ) (p : Pattern) → let a = (read_call s p).answer in Near a.refusal a.place
unfolding read_call
read_near s p =
    let P : Lent MeshRead → Type 0 = λ l. Near l.answer.refusal l.answer.place in
    cond_each P (sized p)
    (λ t. mesh_each (λ (l : Lent MeshRead) (x : Unit {0}). P l) {bad' = λ r at. tt} {go' = λ X used. tt} s (λ r at n L e. omega (arith, L.near e)) (λ X used q e. no_eq e))
    (λ t e. no_eq e)

pub apply_near : (p : Pattern) (s : List ℕ) → let a = (apply_call p s).answer in Near a.refusal a.place
unfolding apply_call
apply_near p s =
    let P : Lent OperatorApplied → Type 0 = λ l. Near l.answer.refusal l.answer.place in
    good_each P (sized p) (is_good (complex p))
    (λ l g. operator_or P (lone_operator s) (lone_lies s) (λ f L e. omega (arith, L.near)) λ o next h _.
    step_each P (step o (faces_of s o) (complex p))
    (λ r q e. no_eq (sym (meaning_no_fault r (step_meant (faces_of s o) (complex p) (good-true (complex_bounded p) g) o r q)) ∙ e)) (λ S q e. no_eq e) (λ Y q e. no_eq e))
    (λ e. no_eq e) (λ e. no_eq e)

pub run_near : (p : Pattern) (s : List ℕ) → let a = (run_call p s).answer in Near a.refusal a.place
unfolding run_call
run_near p s =
    let P : Lent ScriptRun → Type 0 = λ l. Near l.answer.refusal l.answer.place in
    good_each P (sized p && sized_script s) (is_good (complex p))
    (λ l g e. omega (arith, fault_inside (script-kept s (good-true (complex_bounded p) g)).located e, leb-true (length s) 24576 (and_right (sized p) (sized_script s) l)))
    (λ e. no_eq e) (λ e. no_eq e)

fault_is : (f : Fault) → is_fault (fault_number f) ≡ true
fault_is (Fault.Ends at) = refl
fault_is (Fault.Wrong at) = refl
fault_is (Fault.Left at) = refl

near_placed : {A : Type 0} (a : Result A Stop) → Near (stopped_number a) (stopped_place a) → Placed a
near_placed (Ok x) near = tt
near_placed (Err (Stop.Form f)) near = near (fault_is f)
near_placed (Err (Stop.Meaning r)) near = tt

used_is : (a : Result ℕ Stop) → used_of a ≡ value_or 0 a
used_is (Ok n) = refl
used_is (Err stop) = refl

-- so each call's equation permits one answer; of carrying, with what its contract says of a place
module _ (s : List ℕ) (p : Pattern) where
  pub one_reading : {a b : Result ℕ Stop} (q r : LentPattern) → mesh_read a q ≡ read_call s p → mesh_read b r ≡ read_call s p → a ≡ b
  one_reading {a} {b} q r d e =
      let far : (l : Lent MeshRead) → l ≡ read_call s p → Near l.answer.refusal l.answer.place = λ l h. rw h (read_near s p) in
      let same = d ∙ sym e in
      same_answer 0 (near_placed a (far _ d)) (near_placed b (far _ e)) (sym (used_is a) ∙ ap (λ (l : Lent MeshRead). l.answer.used) same ∙ used_is b)
      (ap (λ (l : Lent MeshRead). l.answer.refusal) same) (ap (λ (l : Lent MeshRead). l.answer.place) same)

  pub one_application : {a b : Result Unit Stop} (q r : LentPattern) → operated_on a q ≡ apply_call p s → operated_on b r ≡ apply_call p s → a ≡ b
  one_application {a} {b} q r d e =
      let far : (l : Lent OperatorApplied) → l ≡ apply_call p s → Near l.answer.refusal l.answer.place = λ l h. rw h (apply_near p s) in
      let same = d ∙ sym e in
      same_answer tt (near_placed a (far _ d)) (near_placed b (far _ e)) refl
      (ap (λ (l : Lent OperatorApplied). l.answer.refusal) same) (ap (λ (l : Lent OperatorApplied). l.answer.place) same)

  pub one_run : {a b : Run} (q r : LentPattern) → script_run a q ≡ run_call p s → script_run b r ≡ run_call p s → a ≡ b
  one_run {a} {b} q r d e =
      let far : (l : Lent ScriptRun) → l ≡ run_call p s → Near l.answer.refusal l.answer.place = λ l h. rw h (run_near p s) in
      let same = d ∙ sym e in
      let number = ap (λ (l : Lent ScriptRun). l.answer.refusal) same in
      let place = ap (λ (l : Lent ScriptRun). l.answer.place) same in
      let ended : a.ended ≡ b.ended = same_answer tt (near_placed a.ended (far _ d)) (near_placed b.ended (far _ e)) refl number place in
      let ran : a.ran ≡ b.ran = ap (λ (l : Lent ScriptRun). l.answer.ran) same in
      rw (ran, ended) refl

  pub one_carrying : {a b : Result Unit Stop} (d : ℕ) (c out : List ℤ) {left right : List ℤ} → Placed a → Placed b →
      record { refusal = stopped_number a; place = stopped_place a; out = left } ≡ carry_call p s d c out →
      record { refusal = stopped_number b; place = stopped_place b; out = right } ≡ carry_call p s d c out → a ≡ b
  one_carrying {a} {b} d c out P Q h e =
      let same = h ∙ sym e in
      same_answer tt P Q refl (ap (λ (g : Given). g.refusal) same) (ap (λ (g : Given). g.place) same)
