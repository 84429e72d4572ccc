-- What the parts of carrying a chain make, and what each needs.
use Rattle.std.specs.Prelude.{◌≡◌, cond, List, ℕ, ◌<◌, ◌≤◌, eqb, ℤ, pos, nat_abs, length, get_or}
use Rattle.rules.specs.declared.operator.Operator.{Operator}
use Rattle.rules.specs.declared.operator.Operator.TheVariants.{Make, Kill, Split, Merge, Flip}
use Rattle.rules.specs.Refusals.{accepted}
use Rattle.rules.specs.Complex.{Pattern, Chain}
use Rattle.rules.specs.Edits.{put, negated}
use Rattle.rules.specs.Operators.{Outcome, refused, edited, removed}
use Rattle.rules.specs.Chains.{carry_limit}
use Rattle.rules.specs.Good.{Held}
use Rattle.engine.specs.Source.{ReadFrom}

-- the number of an outcome: that of its refusal, or 0
unfoldable pub number_of : Outcome → ℕ
number_of (refused r) = r
number_of (edited S) = accepted
number_of (removed Y) = accepted

-- a chain of n cells of dimension d, 0 past the count, as it is carried: only a split and a flip of its own dimension change it
unfoldable pub rewritten : Operator → ℕ → ℕ → Chain → Chain
rewritten (Make k list) n d c = c
rewritten (Kill k t) n d c = c
rewritten (Split k s list) n d c = cond (eqb d k) (put n (c s) c) c
rewritten (Merge k t) n d c = c
rewritten (Flip k s) n d c = cond (eqb d k) (negated s c) c

-- a chain within the limit, 96 places for it as it is carried, and the numbers of the cells where it changes
pub record Rewritable (o : Operator) (n d : ℕ) (c out : List ℤ) : Type 0 where
  pub long : length c ≡ 96
  pub room : length out ≡ 96
  pub limits : (i : ℕ) → i < 96 → nat_abs (get_or c i (pos 0)) ≤ carry_limit
  pub split-cell : {k s list : ℕ} → o ≡ Split k s list → d ≡ k → s < 96
  pub split-room : {k s list : ℕ} → o ≡ Split k s list → d ≡ k → n < 96
  pub flip-cell : {k s : ℕ} → o ≡ Flip k s → d ≡ k → s < 96

-- a good pattern, an operator of the bytes s, a dimension that is offered, a chain, and 96 places for the carried one
pub record Carriable (p : Pattern) (s : List ℕ) (o : Operator) (d : ℕ) (c out : List ℤ) : Type 0 where
  pub held : Held p
  pub source : ReadFrom s o
  pub dim : d ≤ 3
  pub long : length c ≡ 96
  pub room : length out ≡ 96
