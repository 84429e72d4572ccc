-- An outcome that is no refusal: which tests it passed, operator by operator, and what it is.
use mathlib.Core.Path.{◌≡◌, refl, sym}
use mathlib.Core.Logic.{◌≢◌}
use mathlib.Core.Bool.{Bool, true, false, ◌&&◌}
use Prim.Native.Nat.{ℕ, suc, pred, ◌<◌}
use borrow.Author.Tests.{ltb-true}
use lib.Dec.{ltb}
use lib.IntN.{◌+ℤ◌}
use Rattle.maths.proofs.Cases.{and_left, and_right}
use Rattle.rules.specs.declared.operator.Operator.{Operator}
use Rattle.rules.specs.declared.operator.Operator.TheVariants.{Make, Kill, Split, Merge, Flip}
use Rattle.rules.specs.Refusals.{not_carried}
use Rattle.rules.specs.Complex.{Complex, Chain}
use Rattle.rules.specs.Good.{OneEach, one_each, all_zero}
use Rattle.rules.specs.Edits.{Step, boundary, make, kill, part, split, merge, flip}
use Rattle.rules.specs.Operators.{Faces, Outcome, refused, edited, removed, unless, chain_of, all_below, closed, chosen, is_part, divides, proper, share_only, make_step, kill_step, split_step, merge_step, flip_step, step, lower, higher}
use Rattle.rules.specs.Chains.{carry_step}
use Rattle.rules.proofs.Branches.Branches.{refused-edited, refused-removed, edited-removed}
use Rattle.rules.proofs.Layers.Judged.{one_each_true}

abbrev pub Accepts : Outcome → Type 0
Accepts x = (r : ℕ) → refused r ≢ x

-- such an outcome passed the test
passed : (t : Bool) (r : ℕ) (o : Outcome) {x : Outcome} → Accepts x → unless t r o ≡ x → (t ≡ true) × (o ≡ x)
passed true r o ok e = (refl, e)
passed false r o ok e = absurd (ok r e)

pub record MakeTests (k : ℕ) (F : Faces) (X : Complex) (x : Outcome) : Type 0 where
  pub below : all_below (X (pred k)).n F ≡ true
  pub room : (X k).n < 96
  pub whole : closed k (chain_of F) X ≡ true
  pub is : edited (make k (chain_of F) X) ≡ x

pub make_tests : (k : ℕ) (F : Faces) (X : Complex) {x : Outcome} → Accepts x → make_step k F X ≡ x → MakeTests k F X x
unfolding make_step
make_tests k F X ok e =
    let a = passed (all_below (X (pred k)).n F) _ _ ok e in
    let b = passed (ltb (X k).n 96) _ _ ok a.1 in
    let c = passed (closed k (chain_of F) X) _ _ ok b.1 in
    record { below = a.0; room = ltb-true (X k).n 96 b.0; whole = c.0; is = c.1 }

pub record KillTests (k c : ℕ) (X : Complex) (x : Outcome) : Type 0 where
  pub cell : c < (X k).n
  pub free : all_zero (λ j. (X (suc k)).d c j) ≡ true
  pub is : removed (kill k c X) ≡ x

pub kill_tests : (k c : ℕ) (X : Complex) {x : Outcome} → Accepts x → kill_step k c X ≡ x → KillTests k c X x
unfolding kill_step
kill_tests k c X ok e =
    let a = passed (ltb c (X k).n) _ _ ok e in
    let b = passed (all_zero (λ j. (X (suc k)).d c j)) _ _ ok a.1 in
    record { cell = ltb-true c (X k).n a.0; free = b.0; is = b.1 }

pub record SplitTests (k s : ℕ) (p : ℕ → Bool) (X : Complex) (x : Outcome) : Type 0 where
  pub cell : s < (X k).n
  pub room-below : (X (pred k)).n < 96
  pub room : (X k).n < 96
  pub divider : divides (pred k) (boundary (X (pred k)) (part p (λ i. (X k).d i s))) ≡ true
  pub is : edited (split (pred k) s p X) ≡ x

pub split_tests : (k s : ℕ) (F : Faces) (X : Complex) {x : Outcome} → Accepts x → split_step k s F X ≡ x → SplitTests k s (chosen k F (λ i. (X k).d i s)) X x
unfolding split_step
split_tests k s F X ok e =
    let v : Chain = λ i. (X k).d i s in
    let p = chosen k F v in
    let a = passed (ltb s (X k).n && all_below (X (pred k)).n F) _ _ ok e in
    let b = passed (ltb (X (pred k)).n 96 && ltb (X k).n 96) _ _ ok a.1 in
    let c = passed (is_part p v) _ _ ok b.1 in
    let d = passed (divides (pred k) (boundary (X (pred k)) (part p v))) _ _ ok c.1 in
    record {
      cell = ltb-true s (X k).n (and_left _ _ a.0);
      room-below = ltb-true (X (pred k)).n 96 (and_left _ _ b.0);
      room = ltb-true (X k).n 96 (and_right (ltb (X (pred k)).n 96) _ b.0);
      divider = d.0;
      is = d.1;
    }

-- a and b being the cells on either side
pub record MergeTests (k t a b : ℕ) (X : Complex) (x : Outcome) : Type 0 where
  pub cell : t < (X k).n
  pub between : OneEach (λ j. (X (suc k)).d t j)
  pub alone : share_only t (λ i. (X (suc k)).d i a) (λ i. (X (suc k)).d i b) ≡ true
  pub is : removed (merge k t a b X) ≡ x

pub merge_tests : (k t : ℕ) (X : Complex) {x : Outcome} → Accepts x → merge_step k t X ≡ x →
    let v : Chain = λ j. (X (suc k)).d t j in MergeTests k t (lower v) (higher v) X x
unfolding merge_step
merge_tests k t X ok e =
    let v : Chain = λ j. (X (suc k)).d t j in
    let a = passed (ltb t (X k).n) _ _ ok e in
    let b = passed (one_each v) _ _ ok a.1 in
    let c = passed (share_only t (λ i. (X (suc k)).d i (lower v)) (λ i. (X (suc k)).d i (higher v))) _ _ ok b.1 in
    let d = passed (proper (λ i. (X (suc k)).d i (lower v) +ℤ (X (suc k)).d i (higher v))) _ _ ok c.1 in
    record { cell = ltb-true t (X k).n a.0; between = one_each_true v b.0; alone = c.0; is = d.1 }

pub flip_tests : (k c : ℕ) (X : Complex) {x : Outcome} → Accepts x → flip_step k c X ≡ x → (c < (X k).n) × (edited (flip k c X) ≡ x)
unfolding flip_step
flip_tests k c X ok e = let a = passed (ltb c (X k).n) _ _ ok e in (ltb-true c (X k).n a.0, a.1)

-- make, split and flip remove no cell, and kill and merge carry no chain
module _ (X : Complex) where
  pub make_keeps : (k : ℕ) (F : Faces) {Y : Complex} → make_step k F X ≢ removed Y
  make_keeps k F e = edited-removed (make_tests k F X refused-removed e).is

  pub split_keeps : (k s : ℕ) (F : Faces) {Y : Complex} → split_step k s F X ≢ removed Y
  split_keeps k s F e = edited-removed (split_tests k s F X refused-removed e).is

  pub flip_keeps : (k c : ℕ) {Y : Complex} → flip_step k c X ≢ removed Y
  flip_keeps k c e = edited-removed (flip_tests k c X refused-removed e).1

  pub kill_removes : (k c : ℕ) {S : ℕ → Step} → kill_step k c X ≢ edited S
  kill_removes k c e = edited-removed (sym (kill_tests k c X refused-edited e).is)

  pub merge_removes : (k t : ℕ) {S : ℕ → Step} → merge_step k t X ≢ edited S
  merge_removes k t e = edited-removed (sym (merge_tests k t X refused-edited e).is)

-- an edit is a make, a split or a flip
module _ (P : (ℕ → Step) → Type 0) (X : Complex) (on-make : (k : ℕ) (v : Chain) → P (make k v X))
    (on-split : (m s : ℕ) (p : ℕ → Bool) → P (split m s p X)) (on-flip : (k c : ℕ) → P (flip k c X)) where
  is_edit : {R S : ℕ → Step} → edited R ≡ edited S → P R → P S
  is_edit {R} {S} e h = let q : R ≡ S = cc in rw (← q) h

  pub edits : (o : Operator) (F : Faces) {S : ℕ → Step} → step o F X ≡ edited S → P S
  unfolding step
  edits (Make k list) F e = is_edit (make_tests k F X refused-edited e).is (on-make k _)
  edits (Kill k c) F e = absurd (kill_removes X k c e)
  edits (Split k s list) F e = is_edit (split_tests k s F X refused-edited e).is (on-split _ s _)
  edits (Merge k t) F e = absurd (merge_removes X k t e)
  edits (Flip k c) F e = is_edit (flip_tests k c X refused-edited e).1 (on-flip k c)

-- what is carried is an edit
pub carry_step_lem : (o : Operator) (F : Faces) (X : Complex) {S : ℕ → Step} → carry_step o F X ≡ edited S → step o F X ≡ edited S
unfolding carry_step
carry_step_lem (Make k list) F X e = e
carry_step_lem (Kill k c) F X e = absurd (refused-edited not_carried e)
carry_step_lem (Split k s list) F X e = e
carry_step_lem (Merge k t) F X e = absurd (refused-edited not_carried e)
carry_step_lem (Flip k c) F X e = e
