-- What each public call answers, and what it leaves in every lent list, for all inputs. "Every call that takes such bytes passes it on": reading, one
-- operator, a script and carrying answer the place of a fault of the form, and `no_place` where there is none.
use Rattle.std.specs.Prelude.{Bool, cond, ◌&&◌, List, ◌++◌, ℕ, eqb, leb, ℤ, pos, length, get_or, drop}
use Rattle.maths.specs.Tables.{table}
use Rattle.rules.specs.Answers.{MeshRead, MeshWritten, EulerNumber, Applied, OperatorApplied, ScriptRun}
use Rattle.rules.specs.declared.operator.Operator.{Operator}
use Rattle.rules.specs.Refusals.{accepted, wrong_length, not_good, wrong_form, short_output, wrong_chain, no_place}
use Rattle.rules.specs.Complex.{Pattern, pattern, Complex, Chain, empty, complex, counts_of, stored, euler}
use Rattle.rules.specs.Good.{is_good}
use Rattle.rules.specs.Edits.{boundary}
use Rattle.rules.specs.Operators.{Outcome, step, after_step}
use Rattle.rules.specs.Form.{lone_operator, after_operator, faces_of, fault_number, fault_place, within}
use Rattle.rules.specs.Mesh.{read_mesh, after_reading, write_mesh}
use Rattle.rules.specs.Script.{run_script}
use Rattle.rules.specs.Chains.{is_chain, boundary_limit, carry_limit, carry_step, after_carry}

-- an answer, and the three matrices at exit
pub record Lent (A : Type 0) : Type 0 where
  pub answer : A
  pub m1 : List ℤ
  pub m2 : List ℤ
  pub m3 : List ℤ

abbrev pub lent : {A : Type 0} → A → Pattern → Lent A
lent a p = record { answer = a; m1 = p.m1; m2 = p.m2; m3 = p.m3 }

-- "a buffer of exactly 9,216 signed bytes"; a chain of 96; a script of at most 24,576 bytes
abbrev pub sized : Pattern → Bool
sized p = eqb (length p.m1) 9216 && eqb (length p.m2) 9216 && eqb (length p.m3) 9216

abbrev pub sized_chain : List ℤ → Bool
sized_chain c = eqb (length c) 96

abbrev pub sized_script : List ℕ → Bool
sized_script s = leb (length s) 24576

-- "Order for calls on a pattern: 1, 2," and then the rest, `go`
abbrev pub on_good : {A : Type 0} → Bool → Complex → (ℕ → A) → (Complex → A) → A
on_good long X refuse go = cond long (cond (is_good X) (go X) (refuse not_good)) (refuse wrong_length)

-- Reading: "Every refusal answers counts 0 and 0 bytes used. After refusal 1 the matrices are unchanged; after another all three are zero."
abbrev pub no_mesh : ℕ → ℕ → MeshRead
no_mesh r at = record { counts = counts_of empty; used = 0; refusal = r; place = at }

unfoldable pub read_call : List ℕ → Pattern → Lent MeshRead
read_call s p =
    cond (sized p)
    (after_reading (read_mesh s) (λ r at. lent (no_mesh r at) (stored empty)) λ X used.
    lent (record { counts = counts_of X; used = used; refusal = accepted; place = no_place }) (stored X))
    (lent (no_mesh wrong_length no_place) p)

-- the pattern that reading leaves
abbrev pub mesh_left : Lent MeshRead → Pattern
mesh_left l = pattern l.answer.counts l.m1 l.m2 l.m3

-- Writing: "touches the first bytes it reports and no other; a refused writer reports 0 and touches nothing"
pub record Wrote : Type 0 where
  pub answer : MeshWritten
  pub out : List ℕ

unfoldable pub write_call : Pattern → List ℕ → Wrote
write_call p out =
    let refuse : ℕ → Wrote = λ r. record { answer = record { written = 0; refusal = r }; out = out } in
    on_good (sized p) (complex p) refuse λ X.
    let mesh = write_mesh X in
    cond (leb (length mesh) (length out))
    (record { answer = record { written = length mesh; refusal = accepted }; out = mesh ++ drop (length mesh) out })
    (refuse short_output)

-- "A refused Euler call answers 0."
unfoldable pub euler_call : Pattern → EulerNumber
euler_call p =
    on_good (sized p) (complex p) (λ r. record { number = pos 0; refusal = r }) λ X.
    record { number = euler X; refusal = accepted }

-- what an operator's outcome leaves of a stored pattern
abbrev pub applied : Pattern → Outcome → Lent Applied
applied p o =
    after_step o (λ r. lent (record { counts = p.counts; refusal = r }) p) λ Y.
    lent (record { counts = counts_of Y; refusal = accepted }) (stored Y)

-- and the pattern that is so left
abbrev pub applied_left : Lent Applied → Pattern
applied_left l = pattern l.answer.counts l.m1 l.m2 l.m3

-- the pattern p handed back with a refusal and a place
abbrev pub handed_back : Pattern → ℕ → ℕ → Lent OperatorApplied
handed_back p r at = lent (record { counts = p.counts; refusal = r; place = at }) p

-- what the call of an operator gives back of its outcome, which has no place
abbrev pub handed_back_of : Pattern → Outcome → Lent OperatorApplied
handed_back_of p o = after_step o (λ r. handed_back p r no_place) λ Y. handed_back (stored Y) accepted no_place

-- the pattern that it leaves
abbrev pub operator_left : Lent OperatorApplied → Pattern
operator_left l = pattern l.answer.counts l.m1 l.m2 l.m3

-- "A single operator call takes the bytes of one operator, without base, count or refusal 13."
unfoldable pub apply_call : Pattern → List ℕ → Lent OperatorApplied
apply_call p s =
    on_good (sized p) (complex p) (λ r. handed_back p r no_place) λ X.
    after_operator (lone_operator s) (λ f. handed_back p (fault_number f) (fault_place f)) λ o next. handed_back_of p (step o (faces_of s o) X)

-- "An operator or script refused by 1 or 2 hands back the counts it was lent, changes no byte and accepts nothing."
unfoldable pub run_call : Pattern → List ℕ → Lent ScriptRun
run_call p s =
    on_good (sized p && sized_script s) (complex p) (λ r. lent (record { counts = p.counts; ran = 0; refusal = r; place = no_place }) p) λ X.
    let e = run_script s X in
    lent (record { counts = counts_of e.now; ran = e.ran; refusal = e.refusal; place = e.place }) (stored e.now)

-- and the one that a script leaves
abbrev pub script_left : Lent ScriptRun → Pattern
script_left l = pattern l.answer.counts l.m1 l.m2 l.m3

-- "A refused chain call leaves its output unchanged; an accepted one sets all 96."
pub record Given : Type 0 where
  pub refusal : ℕ
  pub place : ℕ
  pub out : List ℤ

-- with no place: "a chain dimension fault included"
abbrev pub given : ℕ → List ℤ → Given
given r out = record { refusal = r; place = no_place; out = out }

abbrev pub coefficients : List ℤ → Chain
coefficients c i = get_or c i (pos 0)

-- the chain c of n cells: 16, or what f makes of it
abbrev pub on_chain : ℕ → ℕ → List ℤ → (ℕ → Given) → (Chain → Chain) → Given
on_chain limit n c refuse f =
    cond (is_chain limit n (coefficients c)) (given accepted (table 96 (f (coefficients c)))) (refuse wrong_chain)

-- "Boundary (d = 1 to 3) is the matrix product"
unfoldable pub boundary_call : Pattern → ℕ → List ℤ → List ℤ → Given
boundary_call p d c out =
    let refuse : ℕ → Given = λ r. given r out in
    on_good (sized p && sized_chain c && sized_chain out) (complex p) refuse λ X.
    cond (within 1 3 d) (on_chain boundary_limit (X d).n c refuse (boundary (X d))) (refuse wrong_form)

-- what carrying answers, once the operator o is read from the bytes s: 17 and its own refusals, then 16, or the carried chain
unfoldable pub carried_by : Pattern → List ℕ → Operator → ℕ → List ℤ → List ℤ → Given
carried_by p s o d c out =
    let refuse : ℕ → Given = λ r. given r out in
    after_carry (carry_step o (faces_of s o) (complex p)) refuse λ S.
    on_chain carry_limit (complex p d).n c refuse (S d).carried

-- "Carrying (d = 0 to 3) takes a pattern, one operator and a chain, leaves the pattern as it is, and writes the carried chain"
unfoldable pub carry_call : Pattern → List ℕ → ℕ → List ℤ → List ℤ → Given
carry_call p s d c out =
    let refuse : ℕ → Given = λ r. given r out in
    on_good (sized p && sized_chain c && sized_chain out) (complex p) refuse λ X.
    cond (within 0 3 d)
    (after_operator (lone_operator s) (λ f. record { refusal = fault_number f; place = fault_place f; out = out }) λ o next. carried_by p s o d c out)
    (refuse wrong_form)
