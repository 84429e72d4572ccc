-- Operators that list the same faces do the same, wherever their lists stand.
use mathlib.Core.Path.{◌≡◌, refl, ap, ◌∙◌, fun_ext}
use mathlib.Core.Bool.{Bool, not, cond}
use mathlib.Core.List.{List}
use Prim.Native.Nat.{ℕ, ◌<◌}
use lib.Dec.{eqb, ltb}
use lib.IntN.{pos, ◌*ℤ◌}
use Rattle.maths.specs.Tests.{eq_z, all}
use Rattle.maths.specs.Sums.{sum, δ}
use Rattle.maths.proofs.Tests.{all_same}
use Rattle.maths.proofs.Sums.{sum_same}
use Rattle.rules.specs.declared.operator.Operator.{Operator}
use Rattle.rules.specs.declared.operator.Operator.TheVariants.{Make, Split}
use Rattle.rules.specs.Complex.{Complex, Chain}
use Rattle.rules.specs.Operators.{Faces, amount_of, chain_of, listed, all_below, chosen, make_step, split_step, step}
use Rattle.rules.specs.Form.{none, made_of, chosen_of, faces_of}
use Rattle.rules.specs.Chains.{carry_step}

-- the same faces: as many, and below that number the same; what a list has past its end does not matter
pub record SameFaces (F G : Faces) : Type 0 where
  pub count : F.n ≡ G.n
  pub numbers : (l : ℕ) → l < F.n → F.number l ≡ G.number l
  pub signs : (l : ℕ) → l < F.n → F.sign l ≡ G.sign l

-- no faces
pub same_none : SameFaces none none
same_none = record { count = refl; numbers = λ l h. refl; signs = λ l h. refl }

-- what a step asks of the faces is the same
module _ {F G : Faces} (same : SameFaces F G) where
  same_chain : chain_of F ≡ chain_of G
  unfolding chain_of
  same_chain = fun_ext λ i.
      sum_same F.n (λ l h. rw (same.numbers l h, same.signs l h))
      ∙ ap (λ n. sum n (λ l. G.sign l *ℤ δ (G.number l) i)) same.count

  -- a test of every number
  same_all : (p : ℕ → Bool) → all F.n (λ l. p (F.number l)) ≡ all G.n (λ l. p (G.number l))
  same_all p = all_same F.n (λ l h. ap p (same.numbers l h)) ∙ ap (λ n. all n (λ l. p (G.number l))) same.count

  same_below : (n : ℕ) → all_below n F ≡ all_below n G
  unfolding all_below
  same_below n = same_all (λ x. ltb x n)

  same_chosen : (k : ℕ) (v : Chain) → chosen k F v ≡ chosen k G v
  unfolding chosen listed
  same_chosen k v = fun_ext λ i. ap (λ t. cond (eqb k 1) (eq_z (v i) (pos 1)) (not t)) (same_all (λ x. not (eqb i x)))

  -- and so is the step
  same_make : (k : ℕ) (X : Complex) → make_step k F X ≡ make_step k G X
  unfolding make_step
  same_make k X = rw (same_chain, same_below)

  same_split : (k c : ℕ) (X : Complex) → split_step k c F X ≡ split_step k c G X
  unfolding split_step
  same_split k c X = rw (same_chosen, same_below)

-- the operator `own` of the bytes u and the operator o of the bytes s: they may differ in the place of their list
pub data Alike (u s : List ℕ) : Operator → Operator → Type 0 where
  makes : {k q p : ℕ} → SameFaces (made_of u k q) (made_of s k p) → Alike u s (Make k q) (Make k p)
  splits : {k c q p : ℕ} → SameFaces (chosen_of u k q) (chosen_of s k p) → Alike u s (Split k c q) (Split k c p)
  others : (o : Operator) → faces_of u o ≡ faces_of s o → Alike u s o o

-- they do the same, with the same refusals, and move the Euler number alike
module _ {u s : List ℕ} where
  pub alike_steps : {own o : Operator} → Alike u s own o → (X : Complex) → step own (faces_of u own) X ≡ step o (faces_of s o) X
  unfolding step
  alike_steps (makes {k = k} f) X = same_make f k X
  alike_steps (splits {k = k} {c = c} f) X = same_split f k c X
  alike_steps (others o e) X = ap (λ F. step o F X) e

  pub alike_carries : {own o : Operator} → Alike u s own o → (X : Complex) → carry_step own (faces_of u own) X ≡ carry_step o (faces_of s o) X
  unfolding carry_step
  alike_carries (makes f) X = alike_steps (makes f) X
  alike_carries (splits f) X = alike_steps (splits f) X
  alike_carries (others o e) X = ap (λ F. carry_step o F X) e

  pub alike_amount : {own o : Operator} → Alike u s own o → amount_of own ≡ amount_of o
  alike_amount (makes f) = refl
  alike_amount (splits f) = refl
  alike_amount (others o e) = refl
