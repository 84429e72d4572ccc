-- The chain calls by cases, refused or accepted; and what an accepted one writes is within its limit, so its numbers are the whole numbers.
use Rattle.std.specs.Prelude.{Ok}
use mathlib.Core.Path.{◌≡◌, refl}
use mathlib.Core.List.{List}
use mathlib.Core.Bool.{true, ◌&&◌}
use Prim.Native.Nat.{ℕ, ◌<◌, ◌≤◌}
use native.Mathlib.Omega.{arith}
use borrow.Author.Tests.{eqb-true, eq-eqb}
use lib.IntN.{ℤ, pos, nat_abs}
use lib.ListN.{length, get_or-eq_default}
use Rattle.maths.specs.Tables.{table}
use Rattle.maths.proofs.Cases.{lt_or, and_left, and_right, and_both}
use Rattle.maths.proofs.Tables.{get_d_table, length-table}
use Rattle.rules.specs.declared.operator.Operator.{Operator}
use Rattle.rules.specs.Refusals.{accepted, wrong_length, not_good, wrong_form, wrong_chain, not_carried, no_place}
use Rattle.rules.specs.Complex.{Pattern, Chain, complex}
use Rattle.rules.specs.Good.{is_good}
use Rattle.rules.specs.Edits.{Step, boundary}
use Rattle.rules.specs.Operators.{edited}
use Rattle.rules.specs.Form.{within, lone_operator, faces_of, fault_number, fault_place}
use Rattle.rules.specs.Chains.{is_chain, boundary_limit, carry_limit, carry_step}
use Rattle.rules.specs.Calls.{sized, sized_chain, Given, given, coefficients, on_chain, boundary_call, carried_by, carry_call}
use Rattle.rules.proofs.Branches.Branches.{cond_each, operator_each, carry_each, good_each}
use Rattle.rules.proofs.Branches.Numbers.{Refusal, is_refusal, refusal_is, carry_numbered, fault_numbered}
use Rattle.rules.proofs.Storage.Tested.{good-true, complex_bounded}
use Rattle.rules.proofs.Calls.Limits.{chain-limit, boundary-limit, carried-limit}

-- the lengths that a chain call asks for: 1
pub record ChainSizes (p : Pattern) (c out : List ℤ) : Type 0 where
  pub matrices : sized p ≡ true
  pub long : length c ≡ 96
  pub room : length out ≡ 96

chain-sizes : (p : Pattern) (c out : List ℤ) → sized p && sized_chain c && sized_chain out ≡ true → ChainSizes p c out
chain-sizes p c out l =
    let both = and_left (sized p && sized_chain c) (sized_chain out) l in
    record {
      matrices = and_left (sized p) (sized_chain c) both;
      long = eqb-true (length c) 96 (and_right (sized p) (sized_chain c) both);
      room = eqb-true (length out) 96 (and_right (sized p && sized_chain c) (sized_chain out) l);
    }

sizes_are : {p : Pattern} {c out : List ℤ} → ChainSizes p c out → sized p && sized_chain c && sized_chain out ≡ true
sizes_are {p} {c} {out} S = and_both (and_both S.matrices (eq-eqb (length c) 96 S.long)) (eq-eqb (length out) 96 S.room)

-- what the boundary call accepts
pub record BoundaryTaken (p : Pattern) (d : ℕ) (c out : List ℤ) : Type 0 where
  pub sizes : ChainSizes p c out
  pub good : is_good (complex p) ≡ true
  pub dim : within 1 3 d ≡ true
  pub chain : is_chain boundary_limit (complex p d).n (coefficients c) ≡ true

-- what carrying accepts: s are the bytes of a make, split or flip, which carries by S
pub record CarryTaken (p : Pattern) (s : List ℕ) (d : ℕ) (c out : List ℤ) (S : ℕ → Step) : Type 0 where
  pub sizes : ChainSizes p c out
  pub good : is_good (complex p) ≡ true
  pub dim : within 0 3 d ≡ true
  pub operator : Operator
  pub next : ℕ
  pub form : lone_operator s ≡ Ok (operator, next)
  pub carried : carry_step operator (faces_of s operator) (complex p) ≡ edited S
  pub chain : is_chain carry_limit (complex p d).n (coefficients c) ≡ true

-- what each writes
abbrev pub boundary_out : Pattern → ℕ → List ℤ → Given
boundary_out p d c = given accepted (table 96 (boundary (complex p d) (coefficients c)))

abbrev pub carry_out : (ℕ → Step) → ℕ → List ℤ → Given
carry_out S d c = given accepted (table 96 ((S d).carried (coefficients c)))

-- what holds of every refusal, with any place and with the output as it was, and of what is accepted, holds of the call
module _ (P : Given → Type 0) (p : Pattern) (d : ℕ) (c out : List ℤ) (refuse : (r at : ℕ) → Refusal r → P (record { refusal = r; place = at; out = out })) where
  no : (r : ℕ) → is_refusal r ≡ true → P (given r out)
  no r h = refuse r no_place (refusal_is r h)

  chain_each : (limit n : ℕ) (f : Chain → Chain) → (is_chain limit n (coefficients c) ≡ true → P (given accepted (table 96 (f (coefficients c))))) →
      P (on_chain limit n c (λ r. given r out) f)
  chain_each limit n f done = cond_each P (is_chain limit n (coefficients c)) done (λ t. no wrong_chain refl)

  pub boundary_call_each : (BoundaryTaken p d c out → P (boundary_out p d c)) → P (boundary_call p d c out)
  unfolding boundary_call
  boundary_call_each done =
      good_each P (sized p && sized_chain c && sized_chain out) (is_good (complex p))
      (λ l g. cond_each P (within 1 3 d)
      (λ t. chain_each boundary_limit (complex p d).n (boundary (complex p d)) λ w. done (record { sizes = chain-sizes p c out l; good = g; dim = t; chain = w }))
      (λ t. no wrong_form refl))
      (no not_good refl) (no wrong_length refl)

  pub carry_call_each : (s : List ℕ) → ((S : ℕ → Step) → CarryTaken p s d c out S → P (carry_out S d c)) → P (carry_call p s d c out)
  unfolding carry_call carried_by
  carry_call_each s done =
      good_each P (sized p && sized_chain c && sized_chain out) (is_good (complex p))
      (λ l g. cond_each P (within 0 3 d)
      (λ t. operator_each P (lone_operator s) (λ f. refuse (fault_number f) (fault_place f) (fault_numbered f)) λ o next e.
      carry_each P (carry_step o (faces_of s o) (complex p)) (λ r q. refuse r no_place (carry_numbered (faces_of s o) (complex p) o r q)) (no not_carried refl) λ S q.
      chain_each carry_limit (complex p d).n (S d).carried λ w.
      done S (record { sizes = chain-sizes p c out l; good = g; dim = t; operator = o; next = next; form = e; carried = q; chain = w }))
      (λ t. no wrong_form refl))
      (no not_good refl) (no wrong_length refl)

-- an accepted call
pub boundary-taken : (p : Pattern) (d : ℕ) (c out : List ℤ) → (boundary_call p d c out).refusal ≡ accepted → BoundaryTaken p d c out × (boundary_call p d c out ≡ boundary_out p d c)
boundary-taken p d c out =
    boundary_call_each (λ g. g.refusal ≡ accepted → BoundaryTaken p d c out × (g ≡ boundary_out p d c)) p d c out (λ r at n e. absurd (n.not_0 e)) (λ B e. (B, refl))

pub carry_taken : (p : Pattern) (s : List ℕ) (d : ℕ) (c out : List ℤ) → (carry_call p s d c out).refusal ≡ accepted →
    (S : ℕ → Step) × CarryTaken p s d c out S × (carry_call p s d c out ≡ carry_out S d c)
carry_taken p s d c out =
    carry_call_each (λ g. g.refusal ≡ accepted → (S : ℕ → Step) × CarryTaken p s d c out S × (g ≡ carry_out S d c)) p d c out (λ r at n e. absurd (n.not_0 e)) s
    (λ S C e. (S, C, refl))

-- and what is so lent is accepted
pub boundary_takes : {p : Pattern} {d : ℕ} {c out : List ℤ} → BoundaryTaken p d c out → boundary_call p d c out ≡ boundary_out p d c
unfolding boundary_call
boundary_takes B = rw (sizes_are B.sizes, B.good, B.dim, B.chain)

pub carry_takes : {p : Pattern} {s : List ℕ} {d : ℕ} {c out : List ℤ} {S : ℕ → Step} → CarryTaken p s d c out S → carry_call p s d c out ≡ carry_out S d c
unfolding carry_call carried_by
carry_takes C = rw (sizes_are C.sizes, C.good, C.dim, C.form, C.carried, C.chain)

-- what an accepted call writes fits 32 bits
abbrev Limited : ℕ → Given → Type 0
Limited limit g = g.refusal ≡ accepted → (i : ℕ) → nat_abs (coefficients g.out i) ≤ limit

-- a limit that holds at the 96 places of a list holds at all
pub list_limit : (limit : ℕ) (l : List ℤ) → length l ≡ 96 → ((i : ℕ) → i < 96 → nat_abs (coefficients l i) ≤ limit) → (i : ℕ) → nat_abs (coefficients l i) ≤ limit
list_limit limit l e h i = lt_or i 96 (h i) (λ past. let over : length l ≤ i = omega arith in rw (get_or-eq_default l (pos 0) over) (omega arith))

table-limit : (limit : ℕ) (f : Chain) → ((i : ℕ) → nat_abs (f i) ≤ limit) → (i : ℕ) → nat_abs (coefficients (table 96 f) i) ≤ limit
table-limit limit f h = list_limit limit (table 96 f) (length-table 0 96 f) (λ i l. rw (get_d_table 96 i f (pos 0) l) (h i))

pub boundary_call_limit : (p : Pattern) (d : ℕ) (c out : List ℤ) → Limited 96_000_000 (boundary_call p d c out)
boundary_call_limit p d c out = boundary_call_each (Limited 96_000_000) p d c out (λ r at n e. absurd (n.not_0 e)) λ B e.
    table-limit 96_000_000 _ (boundary-limit (good-true (complex_bounded p) B.good) d (complex p d).n (coefficients c) B.chain)

pub carry_call_limit : (p : Pattern) (s : List ℕ) (d : ℕ) (c out : List ℤ) → Limited carry_limit (carry_call p s d c out)
carry_call_limit p s d c out = carry_call_each (Limited carry_limit) p d c out (λ r at n e. absurd (n.not_0 e)) s λ S C e.
    table-limit carry_limit _ (carried-limit (complex p) C.operator (faces_of s C.operator) C.carried carry_limit d (coefficients c)
    (list_limit carry_limit c C.sizes.long (chain-limit carry_limit (complex p d).n (coefficients c) C.chain)))
