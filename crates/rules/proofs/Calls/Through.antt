-- Demand 3 through a script, operator by operator, in the bytes of the calls.
use Rattle.std.specs.Prelude.{Ok}
use mathlib.Core.Path.{◌≡◌, refl, sym, ◌∙◌, ap}
use mathlib.Core.Bool.{true}
use mathlib.Core.List.{List}
use Prim.Native.Nat.{ℕ, zero, suc, ◌-◌, ◌≤◌}
use native.Mathlib.Omega.{arith}
use borrow.Author.Tests.{le-leb}
use lib.IntN.{ℤ, pos}
use lib.ListN.{length}
use Rattle.maths.specs.Tables.{table}
use Rattle.maths.specs.Repeat.{repeat}
use Rattle.maths.proofs.Cases.{and_both}
use Rattle.maths.proofs.Tables.{length-table}
use Rattle.rules.specs.Answers.{OperatorApplied}
use Rattle.rules.specs.declared.operator.Operator.{Operator}
use Rattle.rules.specs.Refusals.{accepted, stale, not_carried}
use Rattle.rules.specs.Complex.{Pattern, Complex, complex, stored}
use Rattle.rules.specs.Good.{Held}
use Rattle.rules.specs.Edits.{Step, kept, layers}
use Rattle.rules.specs.Operators.{Outcome, refused, edited, removed}
use Rattle.rules.specs.Form.{operator_at, faces_of, fault_number, script_form}
use Rattle.rules.specs.Script.{same_base}
use Rattle.rules.specs.Chains.{is_chain, carry_limit, carry_step, after_carry, then, carry_one, carry_from, carry_script}
use Rattle.rules.specs.Calls.{Lent, operator_left, Given, coefficients, boundary_call, carry_call}
use Rattle.rules.proofs.Branches.Branches.{cond_each, refused-edited}
use Rattle.rules.proofs.Bytes.Fields.{after_got, after_operator_lem, same_operator}
use Rattle.rules.proofs.Bytes.Alone.{bytes_from, alone}
use Rattle.rules.proofs.Storage.Stored.{sized-is, stored-held, complex-stored}
use Rattle.rules.proofs.Storage.Tested.{good-is}
use Rattle.rules.proofs.Calls.Left.{apply_held}
use Rattle.rules.proofs.Calls.ChainCalls.{CarryTaken, carry_taken, carry_takes}
use Rattle.rules.proofs.Calls.ChainMap.{carried_edit, carried_call, carried_on, calls_commute, carry_faithful}
use Rattle.rules.proofs.Calls.OneByOne.{call_at, Calls, none, more}

-- the output that is lent; an accepted call sets all of it
abbrev pub zero_chain : List ℤ
zero_chain = table 96 (λ i. pos 0)

-- the chain c of dimension d carried through the operator that stands in the script from `at` up to `next`; its boundary
abbrev pub carry_at : List ℕ → ℕ → ℕ → ℕ → Pattern → List ℤ → Given
carry_at s at next d p c = carry_call p (bytes_from s at next) d c zero_chain

abbrev pub boundary_of : ℕ → Pattern → List ℤ → Given
boundary_of d p c = boundary_call p d c zero_chain

-- n operators from `at`, each accepted by carrying: from the pattern p and the chain c to the pattern q and the chain c'
pub data Carrying (s : List ℕ) (d : ℕ) : ℕ → ℕ → Pattern → List ℤ → Pattern → List ℤ → Type 0 where
  arrived : {at : ℕ} {p : Pattern} {c : List ℤ} → Carrying s d 0 at p c p c
  through : {n at next : ℕ} {p q : Pattern} {c c' : List ℤ} {o : Operator} → operator_at s at ≡ Ok (o, next) →
      (carry_at s at next d p c).refusal ≡ accepted →
      Carrying s d n next (operator_left (call_at s at next p)) (carry_at s at next d p c).out q c' → Carrying s d (suc n) at p c q c'

module _ (s : List ℕ) where
  -- the pattern carried to is the one that the calls of the operators leave
  pub carrying_calls : {d n at : ℕ} {p q : Pattern} {c c' : List ℤ} → Held p → Carrying s d n at p c q c' → (end : ℕ) × Calls s n at p end q
  carrying_calls {at = at} H arrived = (at, none)
  carrying_calls {d} {at = at} {p} {q} {c} H (through {n = n} {next = next} e a rest) =
      let b = bytes_from s at next in
      let C = carry_taken p b d c zero_chain a in
      let r : Calls s n next (operator_left (call_at s at next p)) _ q = (carrying_calls (apply_held H b) rest).1 in
      (_, more e (ap (λ (l : Lent OperatorApplied). l.answer.refusal) (carried_call H b C.1)) r)

  -- the boundary is carried through the same operators, to the boundary of the carried chain
  pub carrying_commutes : {d n at : ℕ} {p q : Pattern} {c c' : List ℤ} → Held p → Carrying s (suc d) n at p c q c' → (boundary_of (suc d) p c).refusal ≡ accepted →
      ((boundary_of (suc d) q c').refusal ≡ accepted) × Carrying s d n at p (boundary_of (suc d) p c).out q (boundary_of (suc d) q c').out
  carrying_commutes H arrived a = (a, arrived)
  carrying_commutes {d} {at = at} {p} {q} {c} {c'} H (through {n = n} {next = next} e a rest) taken =
      let b = bytes_from s at next in
      let M = calls_commute H b d c zero_chain zero_chain (length-table 0 96 _) a taken in
      let r = carrying_commutes (apply_held H b) rest M.taken in
      let on : Carrying s d n next (operator_left (call_at s at next p)) (carry_at s at next d p (boundary_of (suc d) p c).out).out q (boundary_of (suc d) q c').out =
      rw (← M.same) r.1 in
      (r.0, through e (ap (λ (g : Given). g.refusal) (sym M.same) ∙ M.taken) on)

  -- chains that are carried to the same bytes were the same
  pub carrying_faithful : {d n at : ℕ} {p q q' : Pattern} {c c' x x' : List ℤ} → Held p → Carrying s d n at p c q x → Carrying s d n at p c' q' x' → x ≡ x' → c ≡ c'
  carrying_faithful H arrived arrived same = same
  carrying_faithful {d} {at = at} {p} {q' = q'} {c} {c'} {x' = x'} H (through {n = n} {next = next} e a rest) (through {next = next'} e' a' rest') same =
      let b = bytes_from s at next in
      let q : next' ≡ next = (same_operator (sym e' ∙ e)).1 in
      let r : Carrying s d n next (operator_left (call_at s at next p)) (carry_at s at next d p c').out q' x' = rw q at rest' in
      carry_faithful H b d c c' zero_chain zero_chain a (rw q at a') (carrying_faithful (apply_held H b) rest r same)

-- what an accepted carrying through operators says of the first
after_carry_lem : {go : (ℕ → Step) → Outcome} {R : ℕ → Step} (x : Outcome) → after_carry x refused go ≡ edited R → (S : ℕ → Step) × (x ≡ edited S) × (go S ≡ edited R)
after_carry_lem (refused r) e = absurd (refused-edited r e)
after_carry_lem (edited S) e = (S, refl, e)
after_carry_lem (removed Y) e = absurd (refused-edited not_carried e)

record First (s : List ℕ) (n at : ℕ) (S R : ℕ → Step) : Type 0 where
  operator : Operator
  next : ℕ
  form : operator_at s at ≡ Ok (operator, next)
  step : ℕ → Step
  carried : carry_step operator (faces_of s operator) (layers S) ≡ edited step
  rest : carry_from s n (then S step, next) ≡ edited R

first-carried : (s : List ℕ) (n at : ℕ) (S R : ℕ → Step) → carry_from s (suc n) (S, at) ≡ edited R → First s n at S R
unfolding carry_from repeat carry_one
first-carried s n at S R e =
    let a = after_operator_lem (operator_at s at) (λ f. refused-edited (fault_number f)) e in
    let b = after_carry_lem (carry_step a.0 (faces_of s a.0) (layers S)) a.3 in
    record { operator = a.0; next = a.1; form = a.2; step = b.0; carried = b.1; rest = b.2 }

none-carried : (s : List ℕ) (at : ℕ) (S R : ℕ → Step) → carry_from s 0 (S, at) ≡ edited R → S ≡ R
unfolding carry_from repeat
none-carried s at S R e = cc

-- every accepted script of makes, splits and flips so carries every chain within the limit, to the pattern that the script leaves
module _ (s : List ℕ) (d : ℕ) (dim : d ≤ 3) where
  -- where n operators lead: to the complex X
  pub record Arrives (n at : ℕ) (p : Pattern) (c : List ℤ) (X : Complex) : Type 0 where
    pub end : Pattern
    pub chain : List ℤ
    pub carrying : Carrying s d n at p c end chain
    pub left : complex end ≡ X

  -- an operator's own bytes are accepted
  own_taken : {p : Pattern} → Held p → (at : ℕ) {o : Operator} {next : ℕ} {S : ℕ → Step} → operator_at s at ≡ Ok (o, next) →
      carry_step o (faces_of s o) (complex p) ≡ edited S → (c : List ℤ) → length c ≡ 96 → is_chain carry_limit (complex p d).n (coefficients c) ≡ true →
      CarryTaken p (bytes_from s at next) d c zero_chain S
  own_taken {p} H at {next = next} e q c long w =
      let A = alone s at e in
      record {
        sizes = record { matrices = sized-is H.sized; long = long; room = length-table 0 96 _ };
        good = good-is H.good;
        dim = and_both (le-leb 0 d (omega arith)) (le-leb d 3 dim);
        operator = A.own;
        next = next - at;
        form = A.form;
        carried = A.carries (complex p) ∙ q;
        chain = w;
      }

  carries_on : (n at : ℕ) (S R : ℕ → Step) (p : Pattern) → Held p → layers S ≡ complex p → (c : List ℤ) → length c ≡ 96 →
      is_chain carry_limit (complex p d).n (coefficients c) ≡ true → carry_from s n (S, at) ≡ edited R → Arrives n at p c (layers R)
  carries_on zero at S R p H same c long w e = record { end = p; chain = c; carrying = arrived; left = sym same ∙ ap layers (none-carried s at S R e) }
  carries_on (suc n) at S R p H same c long w e =
      let F = first-carried s n at S R e in
      let T = F.step in
      let b = bytes_from s at F.next in
      let C = own_taken H at F.form (rw same at F.carried) c long w in
      let G = (carried_edit H b C).kept.good in
      let x = table 96 ((T d).carried (coefficients c)) in
      let on = carries_on n F.next (then S T) R (stored (layers T)) (stored-held G) (sym (complex-stored G)) x (length-table 0 96 _) (carried_on H b C) F.rest in
      let rest : Carrying s d n F.next (operator_left (call_at s at F.next p)) (carry_at s at F.next d p c).out on.end on.chain =
      rw (carried_call H b C, carry_takes C) on.carrying in
      record { end = on.end; chain = on.chain; carrying = through F.form (ap (λ (g : Given). g.refusal) (carry_takes C)) rest; left = on.left }

  pub script_carrying : {p : Pattern} → Held p → (c : List ℤ) → length c ≡ 96 → is_chain carry_limit (complex p d).n (coefficients c) ≡ true →
      (R : ℕ → Step) → carry_script s (complex p) ≡ edited R → (n : ℕ) × Arrives n 7 p c (layers R)
  unfolding carry_script
  script_carrying {p} H c long w R e =
      let a = after_got (script_form s) (λ f. refused-edited (fault_number f)) e in (
        a.0,
        cond_each (λ x. x ≡ edited R → Arrives a.0 7 p c (layers R)) (same_base s (complex p))
            (λ t q. carries_on a.0 7 (λ q. kept (complex p q)) R p H refl c long w q)
            (λ t q. absurd (refused-edited stale q)) a.2,
      )
