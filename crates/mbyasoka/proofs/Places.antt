-- The place that each of the four calls with bytes answers is a number of 32 bits.
use mathlib.Core.Bool.{◌&&◌}
use mathlib.Core.List.{List}
use Prim.Native.Nat.{ℕ, ◌≤◌}
use native.Mathlib.Omega.{arith}
use lib.IntN.{ℤ}
use Rattle.maths.proofs.Cases.{bool_or}
use Rattle.rules.specs.Refusals.{no_place}
use Rattle.rules.specs.Complex.{Pattern, complex}
use Rattle.rules.specs.Good.{is_good}
use Rattle.rules.specs.Form.{is_fault, within, lone_operator, faces_of}
use Rattle.rules.specs.Chains.{is_chain, carry_limit, carry_step}
use Rattle.rules.specs.Calls.{Given, sized, sized_chain, coefficients, read_call, apply_call, run_call, carried_by, carry_call}
use Rattle.rules.proofs.Branches.Branches.{cond_each, carry_each, good_each}
use Rattle.rules.proofs.Bytes.Faults.{Located, no_place_lem, operator_or, lone_lies}
use Rattle.rules.proofs.Calls.Places.{read_place, apply_place, run-place}
use Rattle.rules.proofs.Calls.OneOutcome.{Near, read_near, apply_near, run_near}

-- a fault's place, or none
small : {s : List ℕ} {r at : ℕ} → Located s r at → Near r at → at ≤ no_place
small {r} L near = bool_or (is_fault r) (λ e. omega (arith, near e)) (λ e. omega (arith, no_place_lem L e))

pub read_small : (s : List ℕ) (p : Pattern) → (read_call s p).answer.place ≤ no_place
read_small s p = small (read_place s p) (read_near s p)

pub apply_small : (p : Pattern) (s : List ℕ) → (apply_call p s).answer.place ≤ no_place
apply_small p s = small (apply_place p s) (apply_near p s)

pub run_small : (p : Pattern) (s : List ℕ) → (run_call p s).answer.place ≤ no_place
run_small p s = small (run-place p s) (run_near p s)

pub carry_small : (p : Pattern) (s : List ℕ) (d : ℕ) (c out : List ℤ) → (carry_call p s d c out).place ≤ no_place
unfolding carry_call carried_by
carry_small p s d c out =
    let P : Given → Type 0 = λ g. g.place ≤ no_place in
    good_each P (sized p && sized_chain c && sized_chain out) (is_good (complex p))
    (λ l g. cond_each P (within 0 3 d)
    (λ w. operator_or P (lone_operator s) (lone_lies s) (λ f L. omega (arith, L.near)) λ o next e _.
    carry_each P (carry_step o (faces_of s o) (complex p)) (λ r q. omega arith) (omega arith)
    (λ S q. cond_each P (is_chain carry_limit (complex p d).n (coefficients c)) (λ t. omega arith) (λ t. omega arith)))
    (λ w. omega arith))
    (omega arith) (omega arith)
