-- A list copied into another of its length, one element a turn.
use mathlib.Core.Path.{◌≡◌, ◌∙◌}
use mathlib.Core.List.{List}
use Prim.Native.Nat.{ℕ, ◌+◌, ◌<◌, ◌≤◌}
use native.Mathlib.Omega.{arith}
use lib.IntN.{ℤ, pos}
use lib.ListN.{length, get_or, set}
use lib.Seq.{ext_get_or}
use Rattle.maths.proofs.Sweep.{Filled, filled_none, filled_more}

-- the first i elements are copied
pub record Copying (from old to : List ℤ) (i : ℕ) : Type 0 where
  pub same : length old ≡ length from
  pub upto : i ≤ length from
  pub filled : Filled (pos 0) (λ k. get_or from k (pos 0)) old to i

pub copying_begin : {from old : List ℤ} → length old ≡ length from → Copying from old old 0
copying_begin {old} e = record { same = e; upto = omega arith; filled = filled_none old }

module _ {from old to : List ℤ} {i : ℕ} (s : Copying from old to i) where
  pub copying_long : length to ≡ length from
  copying_long = s.filled.long ∙ s.same

  pub copying_more : (x : ℤ) → i < length from → x ≡ get_or from i (pos 0) → Copying from old (set to i x) (i + 1)
  copying_more x h e = record {
    same = s.same;
    upto = omega arith;
    filled = filled_more x s.filled (omega (arith, copying_long)) e;
  }

  pub copying_end : length from ≤ i → to ≡ from
  copying_end h = ext_get_or (pos 0) to from copying_long (λ k l. s.filled.done k (omega (arith, copying_long)))
