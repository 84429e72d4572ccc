-- What becomes of a chain that is 0 past the count: a new cell that gets 0 has it already.
use mathlib.Core.Path.{◌≡◌, refl}
use mathlib.Core.Bool.{Bool, cond}
use mathlib.Core.List.{List}
use Prim.Native.Nat.{ℕ, zero, suc, ◌<◌}
use native.Mathlib.Omega.{arith}
use lib.Dec.{eqb}
use borrow.Author.Tests.{ne_eqb}
use Rattle.maths.proofs.Cases.{eqb_same}
use Rattle.rules.specs.declared.operator.Operator.{Operator}
use Rattle.rules.specs.declared.operator.Operator.TheVariants.{Make, Kill, Split, Merge, Flip}
use Rattle.rules.specs.Refusals.{not_carried}
use Rattle.rules.specs.Complex.{Complex, Chain}
use Rattle.rules.specs.Edits.{Step, kept, put, make, split, negated, flip}
use Rattle.rules.specs.Operators.{Faces, edited, chain_of, chosen, step}
use Rattle.rules.specs.Chains.{carry_step}
use Rattle.rules.proofs.Branches.Branches.{refused-edited}
use Rattle.rules.proofs.Bytes.Decoded.{Formed}
use Rattle.rules.proofs.Layers.Frame.{Within}
use Rattle.rules.proofs.Layers.Changes.{at3_each, put-zero}
use Rattle.rules.proofs.Accepting.Passed.{make_tests, split_tests, flip_tests}
use Rattle.engine.specs.Carrying.{rewritten}

module _ (X : Complex) (c : Chain) where
  make-carried : (k : ℕ) (v : Chain) (d : ℕ) → Within (X d).n c → (make k v X d).carried c ≡ c
  unfolding make
  make-carried k v =
      at3_each k (λ q. kept (X q)) _ _ _ (λ d A. Within (X d).n c → A.carried c ≡ c)
      (λ d _ _ _ w. refl) (λ w. put-zero (X k).n c (w (X k).n (omega arith))) (λ w. refl) (λ w. refl)

  split-carried : (m s : ℕ) (p : ℕ → Bool) (d : ℕ) → Within (X d).n c → (split m s p X d).carried c ≡ cond (eqb d (suc m)) (put (X d).n (c s) c) c
  unfolding split
  split-carried m s p =
      at3_each m (λ q. kept (X q)) _ _ _ (λ d A. Within (X d).n c → A.carried c ≡ cond (eqb d (suc m)) (put (X d).n (c s) c) c)
      (λ d _ other _ w. rw (ne_eqb d (suc m) other))
      (λ w. rw (ne_eqb m (suc m) (omega arith)) (put-zero (X m).n c (w (X m).n (omega arith))))
      (λ w. rw eqb_same)
      (λ w. rw (ne_eqb (suc (suc m)) (suc m) (omega arith)))

  flip-carried : (k x d : ℕ) → (flip k x X d).carried c ≡ cond (eqb d k) (negated x c) c
  unfolding flip
  flip-carried k x =
      at3_each k (λ q. kept (X q)) _ _ _ (λ d A. A.carried c ≡ cond (eqb d k) (negated x c) c)
      (λ d other _ _. rw (ne_eqb d k other)) (rw eqb_same) (rw (ne_eqb (suc k) k (omega arith))) (rw (ne_eqb (suc (suc k)) k (omega arith)))

  -- the chain that is written is the carried one
  pub carried-is : {S : ℕ → Step} (s : List ℕ) (o : Operator) (F : Faces) → Formed s o → carry_step o F X ≡ edited S →
      (d : ℕ) → Within (X d).n c → rewritten o (X d).n d c ≡ (S d).carried c
  unfolding carry_step step rewritten
  carried-is {S} s (Make k list) F f e d w =
      let is : make k (chain_of F) X ≡ S = cc (make_tests k F X refused-edited e).is in
      rw (← is, make-carried k (chain_of F) d w)
  carried-is s (Kill k x) F f e d w = absurd (refused-edited not_carried e)
  carried-is s (Split zero x list) F f e d w = absurd (omega (arith, f.0))
  carried-is {S} s (Split (suc m) x list) F f e d w =
      let p = chosen (suc m) F (λ i. (X (suc m)).d i x) in
      let is : split m x p X ≡ S = cc (split_tests (suc m) x F X refused-edited e).is in
      rw (← is, split-carried m x p d w)
  carried-is s (Merge k t) F f e d w = absurd (refused-edited not_carried e)
  carried-is {S} s (Flip k x) F f e d w =
      let is : flip k x X ≡ S = cc (flip_tests k x X refused-edited e).1 in
      rw (← is, flip-carried k x d)

-- the numbers of the cells where it changes
module _ {o : Operator} (F : Faces) (X : Complex) {S : ℕ → Step} (e : carry_step o F X ≡ edited S) where
  pub split_passed : {k x list : ℕ} → o ≡ Split k x list → (x < (X k).n) × ((X k).n < 96)
  unfolding carry_step step
  split_passed {k} {x} i = let t = split_tests k x F X refused-edited (rw i at e) in (t.cell, t.room)

  pub flip_passed : {k x : ℕ} → o ≡ Flip k x → x < (X k).n
  unfolding carry_step step
  flip_passed {k} {x} i = (flip_tests k x X refused-edited (rw i at e)).0
