-- A matrix times a chain in numbers of four bytes: one term, one column, all columns.
use mathlib.Core.Path.{◌≡◌, sym, ◌∙◌}
use mathlib.Core.List.{List}
use Prim.Native.Nat.{ℕ, ◌+◌, ◌*◌, ◌<◌, ◌≤◌, ◌^◌}
use native.Mathlib.Omega.{arith}
use lib.IntN.{ℤ, pos, nat_abs, ◌+ℤ◌, ◌*ℤ◌}
use lib.ListN.{length, get_or, replicate, length-take, length-drop}
use mir.Syntax.{w8, w32}
use mir.Val.{SFits, to_z, of_z}
use mir.Facts.{to_z-of_z}
use Rattle.maths.specs.Sums.{dot}
use Rattle.maths.specs.Tables.{entries}
use Rattle.maths.proofs.Dots.{dot-zero, dot-next}
use Rattle.maths.proofs.Tables.{length-table, get_d_table, is-table, table_same, entries_in}
use Rattle.maths.proofs.Sizes.{mul_bound, dot-size, fits_size, plus_fits, plus-is}
use Rattle.std.specs.List.{between}
use Rattle.std.proofs.lemmas.List.{get_or-replicate, length-replicate}
use Rattle.std.proofs.lemmas.List.Edits.{get_or-between}
use Rattle.rules.specs.Chains.{boundary_limit}
use Rattle.grid.specs.Grid.{plus}
use Rattle.engine.specs.Boundaries.{product, Term, Terms, Factors}

-- a term and the sum with it fit
module _ {x e v sum : ℤ} (t : Term x e v) (same : sum ≡ x) where
  entry : to_z w32 (of_z w32 (to_z w8 (of_z w8 e))) ≡ e
  entry =
      let eight : to_z w8 (of_z w8 e) ≡ e = to_z-of_z {w = w8} (fits_size {z = e} (omega (arith, t.unit))) in
      rw eight (to_z-of_z {w = w32} (fits_size {z = e} (omega (arith, t.unit))))

  part : to_z w32 (of_z w32 (to_z w8 (of_z w8 e))) *ℤ to_z w32 (of_z w32 v) ≡ e *ℤ v
  part = rw (entry, to_z-of_z {w = w32} (fits_size {z = v} (omega (arith, t.limit))))

  room : nat_abs x + nat_abs (e *ℤ v) < 2 ^ 31
  room = omega (arith, mul_bound e v t.unit t.limit, t.small)

  pub part_fits : SFits w32 (to_z w32 (of_z w32 (to_z w8 (of_z w8 e))) *ℤ to_z w32 (of_z w32 v))
  part_fits = rw part (fits_size (omega (arith, room)))

  pub sum_fits : SFits w32 (to_z w32 (of_z w32 sum) +ℤ to_z w32 (of_z w32 (to_z w32 (of_z w32 (to_z w8 (of_z w8 e))) *ℤ to_z w32 (of_z w32 v))))
  sum_fits = plus_fits w32 same part room

  pub sum-is : to_z w32 (of_z w32 (to_z w32 (of_z w32 sum) +ℤ to_z w32 (of_z w32 (to_z w32 (of_z w32 (to_z w8 (of_z w8 e))) *ℤ to_z w32 (of_z w32 v)))))
      ≡ x +ℤ e *ℤ v
  sum-is = plus-is w32 same part room

-- after k columns
pub record Multiplied (m c : List ℤ) (k : ℕ) (out : List ℤ) : Type 0 where
  pub upto : k ≤ 96
  pub are : out ≡ product m c k

pub product-none : (m c : List ℤ) {n : ℕ} {out : List ℤ} → n ≡ 96 → out ≡ replicate n (pos 0) → Multiplied m c 0 out
product-none m c {n} l e = record {
  upto = omega arith;
  are = rw (e, l) (is-table (pos 0) (length-replicate 96 (pos 0)) (λ r h. get_or-replicate 96 r (pos 0) (pos 0) h ∙ sym (dot-zero _ _)));
}

pub product-long : {m c out : List ℤ} {k : ℕ} → Multiplied m c k out → length out ≡ 96
product-long {m} {c} {k} s = rw s.are (length-table 0 96 (λ r. dot k (λ j. entries m r j) (λ j. get_or c j (pos 0))))

module _ {m c out : List ℤ} (f : Factors m c out) (k : ℕ) (h : k < 96) where
  -- coefficient k, and entry r of column k
  pub coefficient : to_z w32 (of_z w32 (get_or c k (pos 0))) ≡ get_or c k (pos 0)
  coefficient = to_z-of_z {w = w32} (fits_size {z = get_or c k (pos 0)} (omega (arith, f.limits k h)))

  at-column : (r : ℕ) → r < 96 → get_or (between (96 * k) (96 * (k + 1)) m) r (pos 0) ≡ entries m r k
  at-column r l = get_or-between m (96 * k) (96 * (k + 1)) r (pos 0) (omega arith) ∙ sym (entries_in m r k l h)

  pub product_more : plus (product m c k) (λ r. get_or (between (96 * k) (96 * (k + 1)) m) r (pos 0) *ℤ get_or c k (pos 0)) ≡ product m c (k + 1)
  unfolding plus
  product_more = table_same 96 (λ r l. rw (get_d_table, dot-next, at-column r l))

  pub product_terms : Terms (product m c k) (between (96 * k) (96 * (k + 1)) m) (get_or c k (pos 0))
  product_terms = record {
    size = length-table 0 96 _;
    long = simp (length-take, length-drop) (omega (arith, f.size));
    term = λ r l. record {
      small = rw get_d_table (omega (arith, small r));
      unit = rw (at-column r l) (f.units r k);
      limit = f.limits k h;
    };
  }
    where
      small : (r : ℕ) → nat_abs (dot k (λ j. entries m r j) (λ j. get_or c j (pos 0))) ≤ k * (1 * boundary_limit)
      small r = dot-size k 1 boundary_limit (λ j. entries m r j) (λ j. get_or c j (pos 0)) (λ i _. f.units r i) (λ i l. f.limits i (omega arith))
