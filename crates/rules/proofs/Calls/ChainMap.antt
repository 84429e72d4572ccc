-- Demand 3 of the calls, in the bytes: in the pattern that an operator leaves, the boundary of the carried chain is the carried boundary; and chains that
-- are carried to the same bytes were the same.
use mathlib.Core.Path.{◌≡◌, refl, sym, ◌∙◌, ap, fun_ext}
use mathlib.Core.Bool.{true}
use mathlib.Core.List.{List}
use Prim.Native.Nat.{ℕ, suc, ◌≤◌}
use native.Mathlib.Omega.{arith}
use borrow.Author.Tests.{lt-ltb, le-ltb, le-leb, leb-true}
use lib.Dec.{leb}
use lib.IntN.{ℤ, pos, nat_abs}
use lib.ListN.{length, get_or-eq_default}
use Rattle.maths.specs.Tables.{table}
use Rattle.maths.proofs.Cases.{lt_or, and_right, and_both}
use Rattle.maths.proofs.Tests.{zero_is, zero-true, all-at, all_of}
use Rattle.maths.proofs.Dots.{dot_0_l}
use Rattle.maths.proofs.Tables.{get_d_table, length-table, is-table}
use Rattle.rules.specs.Refusals.{accepted, no_place}
use Rattle.rules.specs.Complex.{Pattern, Complex, Chain, complex, stored}
use Rattle.rules.specs.Good.{Good, Held}
use Rattle.rules.specs.Edits.{Step, layers, boundary}
use Rattle.rules.specs.Operators.{edited}
use Rattle.rules.specs.Form.{faces_of}
use Rattle.rules.specs.Chains.{is_chain, boundary_limit, carry_limit}
use Rattle.rules.specs.Calls.{handed_back, operator_left, apply_call, Given, given, coefficients, boundary_call, carry_call}
use Rattle.rules.proofs.Bytes.Fields.{same_operator}
use Rattle.rules.proofs.Layers.Frame.{Within}
use Rattle.rules.proofs.Bytes.Decoded.{decoded}
use Rattle.rules.proofs.Storage.Stored.{sized-is, stored-held, complex-stored}
use Rattle.rules.proofs.Storage.Tested.{good-is}
use Rattle.rules.proofs.Accepting.Passed.{carry_step_lem}
use Rattle.rules.proofs.Scripts.Steps.{Edit, edit_kept}
use Rattle.rules.proofs.Calls.Limits.{chain-limit, boundary-limit, carried-limit}
use Rattle.rules.proofs.Calls.ChainCalls.{BoundaryTaken, CarryTaken, boundary_out, carry_out, boundary-taken, carry_taken, boundary_takes, carry_takes, list_limit}
use Rattle.rules.proofs.Calls.Left.{lone_at}

-- a table of 96 read back
read_table : (f : Chain) → Within 96 f → coefficients (table 96 f) ≡ f
read_table f w = fun_ext λ i. lt_or i 96
    (λ h. get_d_table 96 i f (pos 0) h)
    (λ h. let over : length (table 96 f) ≤ i = omega (arith, length-table 0 96 f) in get_or-eq_default (table 96 f) (pos 0) over ∙ sym (w i h))

-- what a call takes as a chain, and what it is
chain-is : (limit n : ℕ) (c : Chain) → ((i : ℕ) → nat_abs (c i) ≤ limit) → Within n c → is_chain limit n c ≡ true
unfolding is_chain
chain-is limit n c small w = all_of 96 (λ i h. lt_or i n
    (λ l. rw (lt-ltb i n l) (le-leb (nat_abs (c i)) limit (small i)))
    (λ l. rw (le-ltb i n l, w i l) zero_is))

pub chain-within : (limit n : ℕ) (c : List ℤ) → length c ≡ 96 → is_chain limit n (coefficients c) ≡ true → Within n (coefficients c)
unfolding is_chain
chain-within limit n c long e i l = lt_or i 96
    (λ h. zero-true (rw (le-ltb i n l) at (all-at 96 _ e i h)))
    (λ h. let over : length c ≤ i = omega arith in get_or-eq_default c (pos 0) over)

-- a list of 96 is its coefficients
same_list : (c c' : List ℤ) → length c ≡ 96 → length c' ≡ 96 → ((i : ℕ) → coefficients c i ≡ coefficients c' i) → c ≡ c'
same_list c c' l l' h = is-table (pos 0) l (λ i _. h i) ∙ sym (is-table (pos 0) l' (λ i _. refl))

faces-within : {X : Complex} → Good X → (d : ℕ) (c : Chain) → Within (X d).n (boundary (X (suc d)) c)
unfolding boundary
faces-within G d c r l = dot_0_l 96 _ (λ j h. G.rows d r j l)

-- an accepted carrying of a chain of dimension d
module _ {p : Pattern} (H : Held p) (s : List ℕ) {d : ℕ} {c out : List ℤ} {S : ℕ → Step} (C : CarryTaken p s d c out S) where
  -- the operator is accepted
  pub carried_edit : Edit C.operator (complex p) S
  carried_edit = edit_kept H.good s C.operator (decoded s 0 (lone_at s C.form)).0 (carry_step_lem C.operator (faces_of s C.operator) (complex p) C.carried)

  -- and its call leaves what it makes of the layers
  pub carried_call : apply_call p s ≡ handed_back (stored (layers S)) accepted no_place
  unfolding apply_call
  carried_call = rw (sized-is H.sized, good-is H.good, C.form, carry_step_lem C.operator (faces_of s C.operator) (complex p) C.carried)

  pub chain_of_lem : Within (complex p d).n (coefficients c)
  chain_of_lem = chain-within carry_limit (complex p d).n c C.sizes.long C.chain

  -- the carried chain
  carried_of : Within (S d).layer.n ((S d).carried (coefficients c))
  carried_of = carried_edit.carries.within d (coefficients c) chain_of_lem

  pub carried_read : coefficients (table 96 ((S d).carried (coefficients c))) ≡ (S d).carried (coefficients c)
  carried_read = read_table _ (λ i l. carried_of i (omega (arith, carried_edit.kept.good.few d)))

  -- which can be carried on
  pub carried_on : is_chain carry_limit (complex (stored (layers S)) d).n (coefficients (table 96 ((S d).carried (coefficients c)))) ≡ true
  carried_on =
      let small : (i : ℕ) → nat_abs ((S d).carried (coefficients c) i) ≤ carry_limit =
      carried-limit (complex p) C.operator (faces_of s C.operator) C.carried carry_limit d (coefficients c) (list_limit carry_limit c C.sizes.long (chain-limit carry_limit _ (coefficients c) C.chain)) in
      rw (carried_read, complex-stored carried_edit.kept.good) (chain-is carry_limit (S d).layer.n ((S d).carried (coefficients c)) small carried_of)

-- two calls that write the same, both accepted
pub record Commute (x y : Given) : Type 0 where
  pub taken : x.refusal ≡ accepted
  pub same : x ≡ y

-- "Carrying a chain's boundary .. gives the boundary of the carried chain"
module _ {p : Pattern} (H : Held p) (s : List ℕ) {d : ℕ} {c out : List ℤ} {S : ℕ → Step}
    (C : CarryTaken p s (suc d) c out S) (B : BoundaryTaken p (suc d) c out) (x : List ℤ) (room : length x ≡ 96) where
  abbrev E : Edit C.operator (complex p) S
  E = carried_edit H s C

  abbrev f : Chain
  f = coefficients c

  dim : suc d ≤ 3
  dim = leb-true (suc d) 3 (and_right (leb 0 (suc d)) (leb (suc d) 3) C.dim)

  -- the boundary of the carried chain is taken
  carried-boundary : BoundaryTaken (stored (layers S)) (suc d) (table 96 ((S (suc d)).carried f)) x
  carried-boundary =
      let g : Chain = (S (suc d)).carried f in
      let small : (i : ℕ) → nat_abs (g i) ≤ boundary_limit =
      carried-limit (complex p) C.operator (faces_of s C.operator) C.carried boundary_limit (suc d) f (list_limit boundary_limit c C.sizes.long (chain-limit boundary_limit _ f B.chain)) in
      record {
        sizes = record { matrices = sized-is (stored-held E.kept.good).sized; long = length-table 0 96 g; room = room };
        good = good-is (stored-held E.kept.good).good;
        dim = B.dim;
        chain = rw (carried_read H s C, complex-stored E.kept.good) (chain-is boundary_limit (S (suc d)).layer.n g small (carried_of H s C));
      }

  -- the boundary is carried
  boundary-carried : CarryTaken p s d (table 96 (boundary (complex p (suc d)) f)) x S
  boundary-carried =
      let b : Chain = boundary (complex p (suc d)) f in
      let inside : Within (complex p d).n b = faces-within H.good d f in
      let small : (i : ℕ) → nat_abs (b i) ≤ carry_limit = λ i. omega (arith, boundary-limit H.good (suc d) _ f B.chain i) in
      record {
        sizes = record { matrices = C.sizes.matrices; long = length-table 0 96 b; room = room };
        good = C.good;
        dim = and_both (le-leb 0 d (omega arith)) (le-leb d 3 (omega (arith, dim)));
        operator = C.operator;
        next = C.next;
        form = C.form;
        carried = C.carried;
        chain = rw (read_table b (λ i l. inside i (omega (arith, H.good.few d)))) (chain-is carry_limit (complex p d).n b small inside);
      }

  -- both are the same chain
  both_same : boundary_out (stored (layers S)) (suc d) (table 96 ((S (suc d)).carried f)) ≡ carry_out S d (table 96 (boundary (complex p (suc d)) f))
  both_same =
      let b-read = read_table (boundary (complex p (suc d)) f) (λ i l. faces-within H.good d f i (omega (arith, H.good.few d))) in
      rw (carried_read H s C, b-read)
      (ap (λ (Y : Complex). given accepted (table 96 (boundary (Y (suc d)) ((S (suc d)).carried f)))) (complex-stored E.kept.good)
      ∙ ap (λ (h : Chain). given accepted (table 96 h)) (fun_ext (E.carries.chain-map d f (chain_of_lem H s C))))

  pub taken_commute : Commute (boundary_call (stored (layers S)) (suc d) (table 96 ((S (suc d)).carried f)) x) (carry_call p s d (table 96 (boundary (complex p (suc d)) f)) x)
  taken_commute = record {
    taken = rw (boundary_takes carried-boundary);
    same = boundary_takes carried-boundary ∙ both_same ∙ sym (carry_takes boundary-carried);
  }

-- the same of the calls alone: where a chain is carried and its boundary is taken, the boundary of what was carried, in the pattern that the operator leaves,
-- is what the boundary is carried to
pub calls_commute : {p : Pattern} → Held p → (s : List ℕ) (d : ℕ) (c out x : List ℤ) → length x ≡ 96 →
    (carry_call p s (suc d) c out).refusal ≡ accepted → (boundary_call p (suc d) c out).refusal ≡ accepted →
    Commute (boundary_call (operator_left (apply_call p s)) (suc d) (carry_call p s (suc d) c out).out x) (carry_call p s d (boundary_call p (suc d) c out).out x)
calls_commute {p} H s d c out x room e e' =
    let C = carry_taken p s (suc d) c out e in
    let B = boundary-taken p (suc d) c out e' in
    rw (C.2, B.1, carried_call H s C.1) (taken_commute H s C.1 B.0 x room)

-- the bytes of one operator carry in one way
same_steps : {p : Pattern} {s : List ℕ} {d : ℕ} {c c' out out' : List ℤ} {S S' : ℕ → Step} → CarryTaken p s d c out S → CarryTaken p s d c' out' S' → S' ≡ S
same_steps {p} {s} {S = S} {S' = S'} C C' =
    let q : C'.operator ≡ C.operator = (same_operator (sym C'.form ∙ C.form)).0 in
    let e : edited S' ≡ edited S = sym C'.carried ∙ rw q C.carried in
    cc

-- "different chains are never carried to the same one"
pub carry_faithful : {p : Pattern} → Held p → (s : List ℕ) (d : ℕ) (c c' out out' : List ℤ) →
    (carry_call p s d c out).refusal ≡ accepted → (carry_call p s d c' out').refusal ≡ accepted →
    (carry_call p s d c out).out ≡ (carry_call p s d c' out').out → c ≡ c'
carry_faithful {p} H s d c c' out out' e e' same =
    let C = carry_taken p s d c out e in
    let C' = carry_taken p s d c' out' e' in
    faithful C.1 (rw (same_steps C.1 C'.1) at C'.1) (rw (C.2, C'.2, same_steps C.1 C'.1) at same)
  where
    faithful : {S : ℕ → Step} → CarryTaken p s d c out S → CarryTaken p s d c' out' S →
        table 96 ((S d).carried (coefficients c)) ≡ table 96 ((S d).carried (coefficients c')) → c ≡ c'
    faithful {S} C C' q =
        let carried : (S d).carried (coefficients c) ≡ (S d).carried (coefficients c') = sym (carried_read H s C) ∙ ap coefficients q ∙ carried_read H s C' in
        same_list c c' C.sizes.long C'.sizes.long
        ((carried_edit H s C).carries.faithful d (coefficients c) (coefficients c') (chain_of_lem H s C) (chain_of_lem H s C') (λ i. ap (λ (h : Chain). h i) carried))
