-- The carried chain as it is written: a copy, in which a split or a flip of its dimension changes one coefficient.
use mathlib.Core.Path.{◌≡◌, refl, ◌∙◌}
use mathlib.Core.Logic.{◌≢◌, ◌⊎◌, inl, inr}
use mathlib.Core.List.{List}
use Prim.Native.Nat.{ℕ, ◌<◌, ◌^◌}
use native.Mathlib.Omega.{arith}
use lib.IntN.{ℤ, pos, nat_abs, ◌-ℤ◌}
use lib.ListN.{get_or, set, length-set}
use lib.Seq.{get_or-set_same, get_or-set_other}
use borrow.Author.Tests.{eq-eqb, ne_eqb}
use mir.Syntax.{w32}
use mir.Val.{to_z, of_z}
use mir.Facts.{to_z-of_z}
use Rattle.maths.specs.Tables.{table}
use Rattle.maths.proofs.Cases.{eq_or}
use Rattle.maths.proofs.Sizes.{fits_size, neg_is}
use Rattle.maths.proofs.Tables.{is-table}
use Rattle.rules.specs.declared.operator.Operator.{Operator}
use Rattle.rules.specs.declared.operator.Operator.TheVariants.{Make, Kill, Split, Merge, Flip}
use Rattle.rules.specs.Complex.{Chain}
use Rattle.rules.specs.Edits.{put, negated}
use Rattle.rules.specs.Calls.{coefficients}
use Rattle.rules.proofs.Layers.Changes.{put_same, put_no}
use Rattle.engine.specs.Carrying.{rewritten, Rewritable}

module _ {o : Operator} {n d : ℕ} {c out after : List ℤ} (w : Rewritable o n d c out) (e : after ≡ c) where
  -- the chain is left as it is
  same : {f : Chain} → f ≡ coefficients c → after ≡ table 96 f
  same q = rw (e, q) (is-table (pos 0) w.long (λ i h. refl))

  -- one coefficient changes
  stored : {t : ℕ} {x z : ℤ} {f : Chain} → t < 96 → x ≡ z → f ≡ put t z (coefficients c) → set after t x ≡ table 96 f
  stored {t} {x} {z} h i q = rw (e, i, q)
      (is-table (pos 0) (length-set c t z ∙ w.long) (λ k l. eq_or k t
      (λ s. rw (s, put_same) (get_or-set_same c t z (pos 0) (omega (arith, w.long))))
      (λ s. rw (put_no t z (coefficients c) k s) (get_or-set_other c t k z (pos 0) s))))

  pub left_written : ((k : ℕ) × (list : ℕ) × (o ≡ Make k list)) ⊎ (((k : ℕ) × (t : ℕ) × (o ≡ Kill k t)) ⊎ ((k : ℕ) × (t : ℕ) × (o ≡ Merge k t)))
      → after ≡ table 96 (rewritten o n d (coefficients c))
  unfolding rewritten
  left_written (inl i) = same (rw i.2)
  left_written (inr (inl i)) = same (rw i.2)
  left_written (inr (inr i)) = same (rw i.2)

  -- a coefficient of four bytes, and its negative
  small : (t : ℕ) → t < 96 → nat_abs (get_or c t (pos 0)) < 2 ^ 31
  small t h = omega (arith, w.limits t h)

  module _ {k s list : ℕ} (i : o ≡ Split k s list) where
    pub split_written : d ≡ k → set after n (to_z w32 (of_z w32 (get_or c s (pos 0)))) ≡ table 96 (rewritten o n d (coefficients c))
    unfolding rewritten
    split_written h = stored {z = get_or c s (pos 0)} (w.split-room i h) (to_z-of_z {w = w32} (fits_size (small s (w.split-cell i h)))) (rw (i, eq-eqb d k h))

    pub split_other : d ≢ k → after ≡ table 96 (rewritten o n d (coefficients c))
    unfolding rewritten
    split_other h = same (rw (i, ne_eqb d k h))

  module _ {k s : ℕ} (i : o ≡ Flip k s) where
    pub flip_written : d ≡ k → set after s (to_z w32 (of_z w32 (pos 0 -ℤ to_z w32 (of_z w32 (get_or c s (pos 0)))))) ≡ table 96 (rewritten o n d (coefficients c))
    unfolding rewritten negated
    flip_written h = stored (w.flip-cell i h) (neg_is w32 {x = get_or c s (pos 0)} refl (small s (w.flip-cell i h))) (rw (i, eq-eqb d k h))

    pub flip_other : d ≢ k → after ≡ table 96 (rewritten o n d (coefficients c))
    unfolding rewritten
    flip_other h = same (rw (i, ne_eqb d k h))
