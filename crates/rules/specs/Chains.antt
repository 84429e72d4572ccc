-- "Chains": the limits, and carrying through one operator and through a script. What becomes of one chain stands in Edits.
use Rattle.std.specs.Prelude.{Bool, cond, List, ℕ, ltb, leb, nat_abs}
use Rattle.maths.specs.Tests.{is_zero, all}
use Rattle.maths.specs.Repeat.{repeat}
use Rattle.rules.specs.declared.operator.Operator.{Operator}
use Rattle.rules.specs.declared.operator.Operator.TheVariants.{Make, Kill, Split, Merge, Flip}
use Rattle.rules.specs.Refusals.{not_carried, stale}
use Rattle.rules.specs.Complex.{Complex, Chain}
use Rattle.rules.specs.Edits.{Step, kept, layers}
use Rattle.rules.specs.Operators.{Faces, Outcome, refused, edited, removed, step}
use Rattle.rules.specs.Form.{operator_at, after_operator, faces_of, fault_number, script_form, after}
use Rattle.rules.specs.Script.{same_base}

-- every coefficient is within ± limit, "0 at and past the count"
unfoldable pub is_chain : ℕ → ℕ → Chain → Bool
is_chain limit n c = all 96 (λ i. cond (ltb i n) (leb (nat_abs (c i)) limit) (is_zero (c i)))

-- "coefficients are within ±1,000,000" and "within ±100,000,000"
abbrev pub boundary_limit : ℕ
boundary_limit = 1_000_000

abbrev pub carry_limit : ℕ
carry_limit = 100_000_000

-- "Kill and merge are not carried (17)", which comes before every refusal by meaning
unfoldable pub carry_step : Operator → Faces → Complex → Outcome
carry_step (Make k list) F X = step (Make k list) F X
carry_step (Kill k c) F X = refused not_carried
carry_step (Split k s list) F X = step (Split k s list) F X
carry_step (Merge k t) F X = refused not_carried
carry_step (Flip k c) F X = step (Flip k c) F X

-- what follows: `bad` of the refusal, or `go` of what becomes of layers and chains
abbrev pub after_carry : {A : Type 0} → Outcome → (ℕ → A) → ((ℕ → Step) → A) → A
after_carry (refused r) bad go = bad r
after_carry (edited S) bad go = go S
after_carry (removed X) bad go = bad not_carried

-- one operator after another
abbrev pub then : (ℕ → Step) → (ℕ → Step) → ℕ → Step
then S R k = record { layer = (R k).layer; carried = λ c. (R k).carried ((S k).carried c) }

-- "Through a script, chains are carried operator by operator." A state has what became of layers and chains so far, and the next place.
unfoldable pub carry_one : List ℕ → (ℕ → Step) × ℕ → ((ℕ → Step) × ℕ → Outcome) → Outcome
carry_one s x go =
    after_operator (operator_at s x.1) (λ f. refused (fault_number f)) λ o next.
    after_carry (carry_step o (faces_of s o) (layers x.0)) refused λ R. go (then x.0 R, next)

unfoldable pub carry_from : List ℕ → ℕ → (ℕ → Step) × ℕ → Outcome
carry_from s n x = repeat (carry_one s) (λ x. edited x.0) n x

unfoldable pub carry_script : List ℕ → Complex → Outcome
carry_script s X =
    after (script_form s) (λ f. refused (fault_number f)) λ n.
    cond (same_base s X) (carry_from s n (λ q. kept (X q), 7)) (refused stale)
