-- How large the calls' numbers can be.
use mathlib.Core.Path.{◌≡◌, refl}
use mathlib.Core.Bool.{true, cond}
use mathlib.Core.List.{List}
use Prim.Native.Nat.{ℕ, ◌*◌, ◌<◌, ◌≤◌}
use native.Mathlib.Omega.{arith}
use borrow.Author.Tests.{lt-ltb, le-ltb, leb-true}
use lib.Dec.{ltb, leb, eqb}
use lib.IntN.{ℤ, pos, nat_abs}
use lib.ListN.{length, length-append}
use Rattle.maths.specs.Tests.{is_zero}
use Rattle.maths.specs.Sums.{join}
use Rattle.maths.proofs.Cases.{lt_or}
use Rattle.maths.proofs.Tests.{zero-true, all-at}
use Rattle.maths.proofs.Sums.{length-join, join-most}
use Rattle.maths.proofs.Sizes.{neg_size, dot-size}
use Rattle.rules.specs.declared.operator.Operator.{Operator}
use Rattle.rules.specs.Complex.{Complex, Chain}
use Rattle.rules.specs.Good.{Good}
use Rattle.rules.specs.Edits.{Step, kept, at3, put, boundary, make, split, negated, flip}
use Rattle.rules.specs.Operators.{Faces, edited}
use Rattle.rules.specs.Mesh.{pair, one_face, each_face, write_cell, write_section, write_mesh}
use Rattle.rules.specs.Chains.{is_chain, boundary_limit, carry_step}
use Rattle.rules.proofs.Branches.Branches.{cond_each}
use Rattle.rules.proofs.Layers.Changes.{at3_each, put_each}
use Rattle.rules.proofs.Accepting.Passed.{edits, carry_step_lem}

-- a chain that a call takes is within its limit
pub chain-limit : (limit n : ℕ) (c : Chain) → is_chain limit n c ≡ true → (i : ℕ) → i < 96 → nat_abs (c i) ≤ limit
unfolding is_chain
chain-limit limit n c e i h = lt_or i n
    (λ l. leb-true (nat_abs (c i)) limit (rw (lt-ltb i n l) at (entry i h)))
    (λ l. let z : c i ≡ pos 0 = zero-true (rw (le-ltb i n l) at (entry i h)) in rw z (omega arith))
  where
    entry : (i : ℕ) → i < 96 → cond (ltb i n) (leb (nat_abs (c i)) limit) (is_zero (c i)) ≡ true
    entry i h = all-at 96 _ e i h

-- "coefficients are within ±1,000,000, so results are within ±96,000,000"
pub boundary-limit : {X : Complex} → Good X → (d n : ℕ) (c : Chain) → is_chain boundary_limit n c ≡ true → (r : ℕ) → nat_abs (boundary (X d) c r) ≤ 96_000_000
unfolding boundary
boundary-limit {X} G d n c e r =
    omega (arith, dot-size 96 1 boundary_limit (λ j. (X d).d r j) (λ j. c j) (λ i h. G.units d r i) (λ i h. chain-limit boundary_limit n c e i h))

-- no coefficient is over the limit
abbrev Small : ℕ → Chain → Type 0
Small limit c = (i : ℕ) → nat_abs (c i) ≤ limit

put_small : (limit t : ℕ) (z : ℤ) (c : Chain) → nat_abs z ≤ limit → Small limit c → Small limit (put t z c)
put_small limit t z c h s = put_each t z c (λ i x. nat_abs x ≤ limit) h (λ i e. s i)

-- "a carried chain within ±100,000,000 stays so", and within any limit
pub carried-limit : (X : Complex) {S : ℕ → Step} (o : Operator) (F : Faces) → carry_step o F X ≡ edited S → (limit d : ℕ) (c : Chain) →
    ((i : ℕ) → nat_abs (c i) ≤ limit) → (i : ℕ) → nat_abs ((S d).carried c i) ≤ limit
unfolding make split flip negated
carried-limit X o F e limit =
    edits (λ S. (d : ℕ) → Stays (S d)) X
    (λ k v. stay k _ _ _ (λ c s. put_small limit _ _ c (omega arith) s) (λ c s. s) (λ c s. s))
    (λ m t p. stay m _ _ _ (λ c s. put_small limit _ _ c (omega arith) s) (λ c s. put_small limit _ _ c (s t) s) (λ c s. s))
    (λ k x. stay k _ _ _ (λ c s. put_small limit _ _ c (rw neg_size (s x)) s) (λ c s. s) (λ c s. s))
    o F (carry_step_lem o F X e)
  where
    Stays : Step → Type 0
    Stays A = (c : Chain) → Small limit c → Small limit (A.carried c)

    stay : (k : ℕ) (x y z : Step) → Stays x → Stays y → Stays z → (q : ℕ) → Stays (at3 k (λ q. kept (X q)) x y z q)
    stay k x y z = at3_each k (λ q. kept (X q)) x y z (λ q A. Stays A) (λ q _ _ _ c s. s)

-- "At most 37,252 bytes."
face_length : (v : Chain) → length (each_face pair v) ≤ 192
unfolding each_face one_face
face_length v = join-most 96 2 _ (λ i h. cond_each (λ (l : List ℕ). length l ≤ 2) (is_zero (v i)) (λ e. omega arith) (λ e. omega arith))

pub cell-length : (k : ℕ) (v : Chain) → length (write_cell k v) ≤ 193
unfolding write_cell
cell-length k v = cond_each (λ (l : List ℕ). length l ≤ 193) (eqb k 1) (λ e. omega arith) (λ e. omega (arith, face_length v))

seam_length : (v : Chain) → length (write_cell 1 v) ≡ 2
unfolding write_cell
seam_length v = refl

pub mesh-length : {X : Complex} → Good X → length (write_mesh X) ≤ 37_252
unfolding write_mesh write_section
mesh-length {X} G =
    let n1 : (X 1).n ≤ 96 = G.few 1 in
    let n2 : (X 2).n ≤ 96 = G.few 2 in
    let n3 : (X 3).n ≤ 96 = G.few 3 in
    let l1 : length (join (X 1).n (λ j. write_cell 1 (λ i. (X 1).d i j))) ≡ (X 1).n * 2 = length-join (X 1).n 2 _ (λ j h. seam_length _) in
    let l2 : length (join (X 2).n (λ j. write_cell 2 (λ i. (X 2).d i j))) ≤ (X 2).n * 193 = join-most (X 2).n 193 _ (λ j h. cell-length 2 _) in
    let l3 : length (join (X 3).n (λ j. write_cell 3 (λ i. (X 3).d i j))) ≤ (X 3).n * 193 = join-most (X 3).n 193 _ (λ j h. cell-length 3 _) in
    simp length-append (omega arith)
