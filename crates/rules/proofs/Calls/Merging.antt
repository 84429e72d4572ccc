-- "A merge where the two cells share any face besides the named one is now refused": so no call is ever refused by 12, and an accepted merge leaves no
-- loose face behind.
use Rattle.std.specs.Prelude.{Ok}
use mathlib.Core.Path.{◌≡◌, refl}
use mathlib.Core.Logic.{◌≢◌}
use mathlib.Core.Bool.{◌&&◌}
use mathlib.Core.List.{List}
use Prim.Native.Nat.{ℕ, suc}
use native.Mathlib.Omega.{arith}
use lib.Dec.{leb}
use lib.IntN.{ℤ}
use lib.ListN.{length}
use Rattle.rules.specs.Answers.{MeshRead, EulerNumber, OperatorApplied, ScriptRun}
use Rattle.rules.specs.declared.operator.Operator.{Operator}
use Rattle.rules.specs.Refusals.{accepted, wrong_sum}
use Rattle.rules.specs.Complex.{Pattern, Complex, Chain, complex}
use Rattle.rules.specs.Good.{Good, Held, is_good}
use Rattle.rules.specs.Operators.{Faces, Outcome, refused, lower, higher, step}
use Rattle.rules.specs.Form.{lone_operator, faces_of}
use Rattle.rules.specs.Mesh.{write_mesh}
use Rattle.rules.specs.Calls.{Lent, Wrote, sized, sized_script, read_call, write_call, euler_call, operator_left, apply_call, run_call, boundary_call, carry_call}
use Rattle.rules.proofs.Branches.Branches.{cond_each, operator_each, step_each, good_each}
use Rattle.rules.proofs.Branches.FirstTests.{first_tests}
use Rattle.rules.proofs.Branches.Numbers.{step-numbered, fault_numbered}
use Rattle.rules.proofs.Storage.Stored.{sized-is, complex-stored}
use Rattle.rules.proofs.Storage.Tested.{good-is, good-true, complex_bounded}
use Rattle.rules.proofs.Accepting.Passed.{merge_removes}
use Rattle.rules.proofs.Accepting.Accepted.{merge_condition}
use Rattle.rules.proofs.Edits.NoLoose.{NoLoose, merge_no_loose}
use Rattle.rules.proofs.Cells.MergeCells.{good-merged}
use Rattle.rules.proofs.Scripts.Runs.{script-kept}
use Rattle.rules.proofs.Texts.ReadGood.{mesh_each}
use Rattle.rules.proofs.Calls.ChainCalls.{boundary_call_each, carry_call_each}

-- "show that 12 never occurs": on a good pattern no operator is refused by 12
pub step_never_12 : {X : Complex} → Good X → (o : Operator) (F : Faces) → step o F X ≢ refused wrong_sum
step_never_12 {X} G o F e = (step-numbered F X G o wrong_sum e).not_12 refl

-- and no call answers 12, whatever is lent to it
pub check_never_12 : (p : Pattern) → first_tests p ≢ wrong_sum
check_never_12 p = good_each (λ r. r ≢ wrong_sum) (sized p) (is_good (complex p)) (λ l g. omega arith) (omega arith) (omega arith)

pub read_never_12 : (s : List ℕ) (p : Pattern) → (read_call s p).answer.refusal ≢ wrong_sum
unfolding read_call
read_never_12 s p =
    let P : Lent MeshRead → Type 0 = λ l. l.answer.refusal ≢ wrong_sum in
    cond_each P (sized p)
    (λ t. mesh_each (λ (l : Lent MeshRead) (x : Unit {0}). P l) {bad' = λ r at. tt} {go' = λ X used. tt} s (λ r at n L. n.not_12) (λ X used e. omega arith))
    (λ t. omega arith)

pub write_never_12 : (p : Pattern) (out : List ℕ) → (write_call p out).answer.refusal ≢ wrong_sum
unfolding write_call
write_never_12 p out =
    let P : Wrote → Type 0 = λ w. w.answer.refusal ≢ wrong_sum in
    good_each P (sized p) (is_good (complex p))
    (λ l g. cond_each P (leb (length (write_mesh (complex p))) (length out)) (λ t. omega arith) (λ t. omega arith))
    (omega arith) (omega arith)

pub euler_never_12 : (p : Pattern) → (euler_call p).refusal ≢ wrong_sum
unfolding euler_call
euler_never_12 p =
    good_each (λ (e : EulerNumber). e.refusal ≢ wrong_sum) (sized p) (is_good (complex p)) (λ l g. omega arith) (omega arith) (omega arith)

pub apply_never_12 : (p : Pattern) (s : List ℕ) → (apply_call p s).answer.refusal ≢ wrong_sum
unfolding apply_call
apply_never_12 p s =
    let P : Lent OperatorApplied → Type 0 = λ l. l.answer.refusal ≢ wrong_sum in
    good_each P (sized p) (is_good (complex p))
    (λ l g. operator_each P (lone_operator s) (λ f. (fault_numbered f).not_12) λ o next e.
    step_each P (step o (faces_of s o) (complex p)) (λ r q. (step-numbered _ _ (good-true (complex_bounded p) g) o r q).not_12) (λ S q. omega arith) (λ Y q. omega arith))
    (omega arith) (omega arith)

pub run_never_12 : (p : Pattern) (s : List ℕ) → (run_call p s).answer.refusal ≢ wrong_sum
unfolding run_call
run_never_12 p s =
    good_each (λ (l : Lent ScriptRun). l.answer.refusal ≢ wrong_sum) (sized p && sized_script s) (is_good (complex p))
    (λ l g. (script-kept s (good-true (complex_bounded p) g)).not_12) (omega arith) (omega arith)

pub boundary_never_12 : (p : Pattern) (d : ℕ) (c out : List ℤ) → (boundary_call p d c out).refusal ≢ wrong_sum
boundary_never_12 p d c out = boundary_call_each (λ g. g.refusal ≢ wrong_sum) p d c out (λ r at n. n.not_12) (λ B. omega arith)

pub carry_never_12 : (p : Pattern) (s : List ℕ) (d : ℕ) (c out : List ℤ) → (carry_call p s d c out).refusal ≢ wrong_sum
carry_never_12 p s d c out = carry_call_each (λ g. g.refusal ≢ wrong_sum) p d c out (λ r at n. n.not_12) s (λ S C. omega arith)

-- After an accepted call of a merge at t every face of the two cells but t is a face of the merged one: no loose face.
module _ {p : Pattern} (H : Held p) (s : List ℕ) (k t next : ℕ) (form : lone_operator s ≡ Ok (Operator.Merge k t, next)) where
  abbrev X : Complex
  X = complex p

  -- the cell's row, and what the merge does
  abbrev row : Chain
  row j = (X (suc k)).d t j

  abbrev merging : Outcome
  merging = step (Operator.Merge k t) (faces_of s (Operator.Merge k t)) X

  pub merge-leaves-none_loose : (apply_call p s).answer.refusal ≡ accepted →
      NoLoose k t (lower row) (higher row) (complex p) (complex (operator_left (apply_call p s)))
  unfolding apply_call step
  merge-leaves-none_loose =
      rw (sized-is H.sized, good-is H.good, form)
      (step_each (λ (l : Lent OperatorApplied). l.answer.refusal ≡ accepted → NoLoose k t (lower row) (higher row) X (complex (operator_left l))) merging
      (λ r q e. absurd ((step-numbered (faces_of s (Operator.Merge k t)) X H.good (Operator.Merge k t) r q).not_0 e))
      (λ S q e. absurd (merge_removes X k t q))
      (λ Y q e.
      let a = merge_condition H.good k t q in
      rw (a.1, complex-stored (good-merged H.good a.0)) (merge_no_loose H.good a.0)))
