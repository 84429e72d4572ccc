-- Merging leaves no loose face behind: what was a face of one of the two cells, but for t itself, is a face of the merged one.
use mathlib.Core.Path.{◌≡◌, ◌∙◌, sym, ap}
use mathlib.Core.Logic.{◌≢◌}
use Prim.Native.Nat.{ℕ, suc}
use lib.IntN.{pos, ◌+ℤ◌}
use Rattle.maths.specs.Sums.{up}
use Rattle.maths.proofs.Cases.{eq_or}
use Rattle.maths.proofs.Sums.{up_lt, up_no, up_reach}
use Rattle.rules.specs.Complex.{Complex}
use Rattle.rules.specs.Good.{Good}
use Rattle.rules.specs.Edits.{merged, merge}
use Rattle.rules.proofs.Layers.Changes.{at3_1, put_same, put_no}
use Rattle.rules.proofs.Accepting.Allowed.{CanMerge}
use Rattle.rules.proofs.Accepting.Shared.{low-kept, high-kept}

-- cell i is a face of cell j, which has dimension q
abbrev pub IsFace : Complex → ℕ → ℕ → ℕ → Type 0
IsFace X q i j = (X q).d i j ≢ pos 0

-- Y is X after the merge at t of a and b, which is a now; "numbers close up": cell i was cell `up t i`, which is every one but t
pub record NoLoose (k t a b : ℕ) (X Y : Complex) : Type 0 where
  -- every face of the two cells but t is a face of the merged one
  pub low : (i : ℕ) → IsFace X (suc k) (up t i) a → IsFace Y (suc k) i a
  pub high : (i : ℕ) → IsFace X (suc k) (up t i) b → IsFace Y (suc k) i a
  -- so every cell of the dimension of t, but t, that was a face of some cell still is one
  pub used : (i j : ℕ) → IsFace X (suc k) (up t i) j → (j : ℕ) × IsFace Y (suc k) i j

module _ {k t a b : ℕ} {X : Complex} (G : Good X) (C : CanMerge k t a b X) where
  abbrev Y : Complex
  Y = merge k t a b X

  at_a : (i : ℕ) → (Y (suc k)).d i a ≡ (X (suc k)).d (up t i) a +ℤ (X (suc k)).d (up t i) b
  unfolding merge merged
  at_a i = rw at3_1 (put_same a _ (λ j. (X (suc k)).d (up t i) (up b j)))

  elsewhere : (i j : ℕ) → j ≢ a → (Y (suc k)).d i j ≡ (X (suc k)).d (up t i) (up b j)
  unfolding merge merged
  elsewhere i j e = rw at3_1 (put_no a _ (λ j. (X (suc k)).d (up t i) (up b j)) j e)

  low : (i : ℕ) → IsFace X (suc k) (up t i) a → IsFace Y (suc k) i a
  low i f z = low-kept G C (up t i) (up_no t i) f (sym (at_a i) ∙ z)

  high : (i : ℕ) → IsFace X (suc k) (up t i) b → IsFace Y (suc k) i a
  high i f z = high-kept G C (up t i) (up_no t i) f (sym (at_a i) ∙ z)

  other : (i j : ℕ) → j ≢ a → j ≢ b → IsFace X (suc k) (up t i) j → (j : ℕ) × IsFace Y (suc k) i j
  other i j e g f =
      let u = up_reach b j g in
      let n : u.0 ≢ a = λ q. e (sym u.1 ∙ ap (up b) q ∙ up_lt b a C.less) in
      (u.0, λ z. f (ap ((X (suc k)).d (up t i)) (sym u.1) ∙ sym (elsewhere i u.0 n) ∙ z))

  pub merge_no_loose : NoLoose k t a b X (merge k t a b X)
  merge_no_loose = record {
    low = low;
    high = high;
    used = λ i j f. eq_or j a (λ e. (a, low i (rw e at f))) λ e. eq_or j b (λ g. (a, high i (rw g at f))) λ g. other i j e g f;
  }
