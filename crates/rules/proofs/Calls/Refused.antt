-- A refused call leaves what the paper states.
use mathlib.Core.Path.{◌≡◌, refl, sym, ◌∙◌}
use mathlib.Core.Logic.{◌≢◌}
use mathlib.Core.List.{List}
use mathlib.Core.Bool.{true, false, ◌&&◌}
use Prim.Native.Nat.{ℕ}
use lib.Dec.{leb}
use lib.IntN.{ℤ, pos}
use lib.ListN.{length}
use Rattle.maths.proofs.Cases.{no_eq}
use Rattle.rules.specs.Answers.{MeshRead, EulerNumber, OperatorApplied, ScriptRun}
use Rattle.rules.specs.Refusals.{accepted, wrong_length, not_good, short_output, no_place}
use Rattle.rules.specs.Complex.{Pattern, complex, empty, counts_of, stored}
use Rattle.rules.specs.Good.{is_good}
use Rattle.rules.specs.Operators.{step}
use Rattle.rules.specs.Form.{lone_operator, faces_of, fault_number, fault_place}
use Rattle.rules.specs.Mesh.{read_mesh, write_mesh}
use Rattle.rules.specs.Calls.{Lent, lent, sized, sized_script, read_call, Wrote, write_call, euler_call, handed_back, apply_call, run_call, boundary_call, carry_call}
use Rattle.rules.proofs.Branches.Branches.{cond_each, operator_each, step_each, reading_each, good_each}
use Rattle.rules.proofs.Calls.ChainCalls.{boundary_call_each, carry_call_each}

-- the matrices at exit are those of p
pub record Unchanged {A : Type 0} (p : Pattern) (l : Lent A) : Type 0 where
  pub m1 : l.m1 ≡ p.m1
  pub m2 : l.m2 ≡ p.m2
  pub m3 : l.m3 ≡ p.m3

same : {A : Type 0} {p : Pattern} {a : A} → Unchanged p (lent a p)
same = record { m1 = refl; m2 = refl; m3 = refl }

-- "a refused operator changes no count and no byte"
pub record NotApplied (p : Pattern) (l : Lent OperatorApplied) : Type 0 where
  pub counts : l.answer.counts ≡ p.counts
  pub matrices : Unchanged p l

pub apply_refused : (p : Pattern) (s : List ℕ) → (apply_call p s).answer.refusal ≢ accepted → NotApplied p (apply_call p s)
unfolding apply_call
apply_refused p s =
    let P : Lent OperatorApplied → Type 0 = λ l. l.answer.refusal ≢ accepted → NotApplied p l in
    let no : (r at : ℕ) → P (handed_back p r at) = λ r at n. record { counts = refl; matrices = same } in
    good_each P (sized p) (is_good (complex p))
    (λ l g. operator_each P (lone_operator s) (λ f. no (fault_number f) (fault_place f)) λ o next e.
    step_each P (step o (faces_of s o) (complex p)) (λ r q. no r no_place) (λ S q n. absurd (n refl)) (λ Y q n. absurd (n refl)))
    (no not_good no_place) (no wrong_length no_place)

-- "An operator or script refused by 1 or 2 hands back the counts it was lent, changes no byte and accepts nothing."
pub record NotRun (p : Pattern) (l : Lent ScriptRun) : Type 0 where
  pub counts : l.answer.counts ≡ p.counts
  pub ran : l.answer.ran ≡ 0
  pub matrices : Unchanged p l

pub run-refused : (p : Pattern) (s : List ℕ) → (sized p && sized_script s ≡ true → is_good (complex p) ≡ true → ⊥) → NotRun p (run_call p s)
unfolding run_call
run-refused p s n =
    let no : (r : ℕ) → NotRun p (lent (record { counts = p.counts; ran = 0; refusal = r; place = no_place }) p) = λ r. record { counts = refl; ran = refl; matrices = same } in
    good_each (NotRun p) (sized p && sized_script s) (is_good (complex p)) (λ l g. absurd (n l g)) (no not_good) (no wrong_length)

-- "Every refusal answers counts 0 and 0 bytes used. After refusal 1 the matrices are unchanged; after another all three are zero."
pub record NotRead (p : Pattern) (l : Lent MeshRead) : Type 0 where
  pub counts : l.answer.counts ≡ counts_of empty
  pub used : l.answer.used ≡ 0
  pub unchanged : sized p ≡ false → Unchanged p l
  pub zeros : sized p ≡ true → Unchanged (stored empty) l

pub read_refused : (s : List ℕ) (p : Pattern) → (read_call s p).answer.refusal ≢ accepted → NotRead p (read_call s p)
unfolding read_call
read_refused s p =
    let P : Lent MeshRead → Type 0 = λ l. l.answer.refusal ≢ accepted → NotRead p l in
    cond_each P (sized p)
    (λ long. reading_each P (read_mesh s)
    (λ r at n. record { counts = refl; used = refl; unchanged = λ e. no_eq (sym e ∙ long); zeros = λ e. same })
    (λ X used e n. absurd (n refl)))
    (λ short n. record { counts = refl; used = refl; unchanged = λ e. same; zeros = λ e. no_eq (sym short ∙ e) })

-- "a refused writer reports 0 and touches nothing"
pub record NotWritten (out : List ℕ) (w : Wrote) : Type 0 where
  pub written : w.answer.written ≡ 0
  pub out_same : w.out ≡ out

pub write_refused : (p : Pattern) (out : List ℕ) → (write_call p out).answer.refusal ≢ accepted → NotWritten out (write_call p out)
unfolding write_call
write_refused p out =
    let P : Wrote → Type 0 = λ w. w.answer.refusal ≢ accepted → NotWritten out w in
    let no : (r : ℕ) → P (record { answer = record { written = 0; refusal = r }; out = out }) = λ r n. record { written = refl; out_same = refl } in
    good_each P (sized p) (is_good (complex p))
    (λ l g. cond_each P (leb (length (write_mesh (complex p))) (length out)) (λ t n. absurd (n refl)) (λ t. no short_output))
    (no not_good) (no wrong_length)

-- "A refused Euler call answers 0."
pub euler-refused : (p : Pattern) → (euler_call p).refusal ≢ accepted → (euler_call p).number ≡ pos 0
unfolding euler_call
euler-refused p =
    good_each (λ (e : EulerNumber). e.refusal ≢ accepted → e.number ≡ pos 0) (sized p) (is_good (complex p)) (λ l g n. absurd (n refl)) (λ n. refl) (λ n. refl)

-- "A refused chain call leaves its output unchanged"
pub boundary-refused : (p : Pattern) (d : ℕ) (c out : List ℤ) → (boundary_call p d c out).refusal ≢ accepted → (boundary_call p d c out).out ≡ out
boundary-refused p d c out = boundary_call_each (λ g. g.refusal ≢ accepted → g.out ≡ out) p d c out (λ r at _ n. refl) (λ B n. absurd (n refl))

pub carry_refused : (p : Pattern) (s : List ℕ) (d : ℕ) (c out : List ℤ) → (carry_call p s d c out).refusal ≢ accepted → (carry_call p s d c out).out ≡ out
carry_refused p s d c out = carry_call_each (λ g. g.refusal ≢ accepted → g.out ≡ out) p d c out (λ r at _ n. refl) s (λ S C n. absurd (n refl))
