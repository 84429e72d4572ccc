-- "Every call that takes such bytes passes it on": the place that each of the four calls answers. It is `Located`: the length of the bytes for 3, one of the
-- bytes for 4 and 14, and the largest number of 32 bits for every other answer.
use mathlib.Core.Path.{◌≡◌, refl}
use mathlib.Core.Bool.{true, false, ◌&&◌}
use mathlib.Core.List.{List}
use Prim.Native.Nat.{ℕ}
use lib.IntN.{ℤ}
use Rattle.rules.specs.Answers.{MeshRead, OperatorApplied, ScriptRun}
use Rattle.rules.specs.Refusals.{no_place}
use Rattle.rules.specs.Complex.{Pattern, complex}
use Rattle.rules.specs.Good.{is_good}
use Rattle.rules.specs.Operators.{step}
use Rattle.rules.specs.Form.{within, lone_operator, faces_of}
use Rattle.rules.specs.Chains.{is_chain, carry_limit, carry_step}
use Rattle.rules.specs.Calls.{Lent, Given, sized, sized_script, sized_chain, coefficients, read_call, apply_call, run_call, carried_by, carry_call}
use Rattle.rules.proofs.Branches.Branches.{cond_each, step_each, carry_each, good_each}
use Rattle.rules.proofs.Branches.Numbers.{meaning_no_fault, step_meant, carry_meant}
use Rattle.rules.proofs.Bytes.Faults.{Located, nowhere, operator_or, lone_lies}
use Rattle.rules.proofs.Storage.Tested.{good-true, complex_bounded}
use Rattle.rules.proofs.Scripts.Runs.{script-kept}
use Rattle.rules.proofs.Texts.ReadGood.{mesh_each}

pub read_place : (s : List ℕ) (p : Pattern) → let a = (read_call s p).answer in Located s a.refusal a.place
unfolding read_call
read_place s p =
    let P : Lent MeshRead → Type 0 = λ l. Located s l.answer.refusal l.answer.place in
    cond_each P (sized p)
    (λ t. mesh_each (λ (l : Lent MeshRead) (x : Unit {0}). P l) {bad' = λ r at. tt} {go' = λ X used. tt} s (λ r at n L. L.located) (λ X used e. nowhere refl))
    (λ t. nowhere refl)

pub apply_place : (p : Pattern) (s : List ℕ) → let a = (apply_call p s).answer in Located s a.refusal a.place
unfolding apply_call
apply_place p s =
    let P : Lent OperatorApplied → Type 0 = λ l. Located s l.answer.refusal l.answer.place in
    good_each P (sized p) (is_good (complex p))
    (λ l g. operator_or P (lone_operator s) (lone_lies s) (λ f L. L.located) λ o next e _.
    step_each P (step o (faces_of s o) (complex p)) (λ r q. nowhere (meaning_no_fault r (step_meant (faces_of s o) (complex p) (good-true (complex_bounded p) g) o r q)))
    (λ S q. nowhere refl) (λ Y q. nowhere refl))
    (nowhere refl) (nowhere refl)

pub run-place : (p : Pattern) (s : List ℕ) → let a = (run_call p s).answer in Located s a.refusal a.place
unfolding run_call
run-place p s =
    let P : Lent ScriptRun → Type 0 = λ l. Located s l.answer.refusal l.answer.place in
    good_each P (sized p && sized_script s) (is_good (complex p)) (λ l g. (script-kept s (good-true (complex_bounded p) g)).located)
    (nowhere refl) (nowhere refl)

-- "a chain dimension fault included": its 4 has no place
module _ (p : Pattern) (s : List ℕ) (d : ℕ) (c out : List ℤ) where
  pub carry_dimension_place : within 0 3 d ≡ false → (carry_call p s d c out).place ≡ no_place
  unfolding carry_call
  carry_dimension_place e = rw e
      (good_each (λ (g : Given). g.place ≡ no_place) (sized p && sized_chain c && sized_chain out) (is_good (complex p)) (λ l g. refl) refl refl)

  pub carry_place : within 0 3 d ≡ true → Located s (carry_call p s d c out).refusal (carry_call p s d c out).place
  unfolding carry_call carried_by
  carry_place e =
      let P : Given → Type 0 = λ g. Located s g.refusal g.place in
      rw e
      (good_each P (sized p && sized_chain c && sized_chain out) (is_good (complex p))
      (λ l g. operator_or P (lone_operator s) (lone_lies s) (λ f L. L.located) λ o next e _.
      carry_each P (carry_step o (faces_of s o) (complex p)) (λ r q. nowhere (meaning_no_fault r (carry_meant (faces_of s o) (complex p) o r q)))
      (nowhere refl)
      (λ S q. cond_each P (is_chain carry_limit (complex p d).n (coefficients c)) (λ t. nowhere refl) (λ t. nowhere refl)))
      (nowhere refl) (nowhere refl))
