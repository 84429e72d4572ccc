-- The bytes of a column, and tests of a list's first elements and of the others.
use mathlib.Core.Path.{◌≡◌, refl, sym, ap, ◌∙◌}
use mathlib.Core.Bool.{Bool}
use mathlib.Core.List.{List}
use Prim.Native.Nat.{ℕ, ◌+◌, ◌*◌, ◌-◌, ◌<◌, ◌≤◌}
use native.Mathlib.Omega.{arith}
use lib.IntN.{ℤ, pos}
use lib.ListN.{length, take}
use Rattle.std.specs.List.{between}
use Rattle.std.proofs.lemmas.List.{get_or-take, length-take-le}
use Rattle.std.proofs.lemmas.List.Edits.{get_or-between, length-between}
use Rattle.maths.specs.Tables.{entries}
use Rattle.maths.specs.Tests.{all}
use Rattle.maths.proofs.Tables.{entries_in}
use Rattle.maths.proofs.Dots.{dot_same}
use Rattle.maths.proofs.Tests.{all_same}
use Rattle.grid.specs.Grid.{nth, cut, column_sum, Columns, Line, Summands}

pub length-cut : (m : List ℤ) (c : ℕ) → length m ≡ 9216 → c < 96 → length (cut c m) ≡ 96
length-cut m c e h = length-between m (96 * c) (96 * c + 96) (omega arith) ∙ omega arith

pub nth_cut : (m : List ℤ) (c i : ℕ) → c < 96 → i < 96 → nth (cut c m) i ≡ entries m i c
nth_cut m c i hc hi = get_or-between m (96 * c) (96 * c + 96) i (pos 0) (omega arith) ∙ sym (entries_in m i c hi hc)

module _ (t : ℤ → Bool) (n : ℕ) (l : List ℤ) where
  pub all_first : n ≤ length l → all (length (take n l)) (λ i. t (nth (take n l) i)) ≡ all n (λ i. t (nth l i))
  all_first h = rw (length-take-le n l h) (all_same n (λ i k. ap t (get_or-take n l i (pos 0) k)))

  pub all_after : all (length (between n (length l) l)) (λ i. t (nth (between n (length l) l) i)) ≡ all (length l - n) (λ i. t (nth l (n + i)))
  all_after = rw (length-between l n (length l) (omega arith)) (all_same (length l - n) (λ i k. ap t (get_or-between l n (length l) i (pos 0) (omega arith))))

-- a column in use
pub in_use : {m : List ℤ} {n : ℕ} (c : ℕ) → Columns m n → c < n → Line m c
in_use c p h = record { size = p.size; inside = omega (arith, p.few) }

-- a matrix, and the first elements of a chain for its columns
module _ {low chain : List ℤ} {n : ℕ} (p : Summands low n chain) where
  pub summands_first : Summands low (length (take n chain)) (take n chain)
  summands_first = record {
    size = p.size;
    few = omega (arith, p.few, length-take-le n chain p.inside);
    inside = omega arith;
    units = p.units;
    small = λ j l. let h : j < n = omega (arith, length-take-le n chain p.inside) in rw (get_or-take n chain j (pos 0) h) (p.small j h);
  }

  pub sum_first : (i : ℕ) → column_sum low (length (take n chain)) (nth (take n chain)) i ≡ column_sum low n (nth chain) i
  sum_first i = rw (length-take-le n chain p.inside) (dot_same n (λ _ _. refl) (λ j l. get_or-take n chain j (pos 0) l))
