-- The entries of a stored matrix by their places: what the tests of entries say of runs of places.
use mathlib.Core.Path.{◌≡◌, refl, sym, ap, ap₂, ◌∙◌}
use mathlib.Core.Bool.{Bool, true, false, cond, ◌&&◌}
use mathlib.Core.List.{List}
use Prim.Native.Nat.{ℕ, ◌+◌, ◌*◌, ◌-◌, ◌<◌, ◌≤◌}
use native.Mathlib.Omega.{arith}
use lib.Dec.{eqb, ltb}
use lib.IntN.{ℤ, pos, negsuc, nat_abs}
use lib.ListN.{length, take, get_or}
use borrow.Author.Tests.{lt-ltb, le-ltb}
use Rattle.maths.specs.Tests.{eq_z, is_zero, is_unit, all}
use Rattle.maths.specs.Tables.{Entries, entries}
use Rattle.maths.proofs.Cases.{lt_or, bool_or, cond-true, cond-false}
use Rattle.maths.proofs.Tests.{zero-true, unit-true, all-at, all_same, count_same}
use Rattle.maths.proofs.Dots.{dot_same}
use Rattle.maths.proofs.Tables.{entries_in, entries-out, in_or_out}
use Rattle.rules.specs.Good.{times, one_each, all_zero, in_place, closes}
use Rattle.rules.specs.Complex.{layer}
use Rattle.rules.proofs.Layers.Judged.{closes-rows}
use Rattle.grid.specs.Grid.{Line, Summands, column_sum, nth, cut}
use Rattle.grid.proofs.Cuts.{length-cut, nth_cut, summands_first, sum_first}
use Rattle.good.specs.Columns.{column_in_place, Matrix, Neighbours}
use Rattle.good.specs.Parts.{Placed}
use Rattle.good.proofs.Tests.{all_split, all-columns}

-- column j, row by row
module _ (m : List ℤ) (j : ℕ) (h : j < 96) where
  times-column : (z : ℤ) → times z (nth (cut j m)) ≡ times z (λ i. entries m i j)
  times-column z = count_same 96 (λ i l. ap (λ e. eq_z e z) (nth_cut m j i h l))

  pub one_each_column : one_each (nth (cut j m)) ≡ one_each (λ i. entries m i j)
  unfolding one_each
  one_each_column = ap₂ (λ a b. eqb a 1 && eqb b 1) (times-column (negsuc 0)) (times-column (pos 1))

  pub zero-column : all 96 (λ i. is_zero (nth (cut j m) i)) ≡ all_zero (λ i. entries m i j)
  unfolding all_zero
  zero-column = all_same 96 (λ i l. ap is_zero (nth_cut m j i h l))

-- column j of `high`, as a chain of the cells of `low`
module _ {low high : List ℤ} {between : ℕ} (p : Neighbours low high between) (j : ℕ) (h : j < 96) where
  column-summands : Summands low between (cut j high)
  column-summands = record {
    size = p.lower.size;
    few = p.lower.few;
    inside = omega (arith, p.lower.few, length-cut high j p.size h);
    units = p.lower_units;
    small = λ k l. rw (nth_cut high j k h (omega (arith, p.lower.few))) (p.upper_units.unit k j);
  }

  pub high_line : Line high j
  high_line = record { size = p.size; inside = h }

  -- the entries of the cells in use
  pub first-summands : Summands low (length (take between (cut j high))) (take between (cut j high))
  first-summands = summands_first column-summands

  pub column-closes : {t : Bool} → t ≡ all 96 (λ r. is_zero (column_sum low (length (take between (cut j high))) (nth (take between (cut j high))) r))
      → closes 96 (layer between low) (λ i. entries high i j) ≡ t
  unfolding closes
  column-closes e = all_same 96 (λ r _. ap is_zero
      (dot_same between (λ _ _. refl) (λ i l. sym (nth_cut high j i h (omega (arith, p.lower.few)))) ∙ sym (sum_first column-summands r))) ∙ sym e

-- what `in_place` asks of one entry
abbrev fine : List ℤ → ℕ → ℕ → ℕ → ℕ → Bool
fine m rows n i j = cond (ltb i rows && ltb j n) (is_unit (entries m i j)) (is_zero (entries m i j))

module _ {m : List ℤ} {rows n : ℕ} (s : Matrix m rows n) where
  fine_in : (i j : ℕ) → i < rows → j < n → fine m rows n i j ≡ is_unit (nth (cut j m) i)
  fine_in i j hi hj = rw (lt-ltb i rows hi, lt-ltb j n hj) (ap is_unit (sym (nth_cut m j i (omega arith) (omega arith))))

  -- the row or the column is past its count
  fine_out : (i j p : ℕ) → i < 96 → j < 96 → (i < rows → n ≤ j) → 96 * j + i ≡ p → fine m rows n i j ≡ is_zero (get_or m p (pos 0))
  fine_out i j p hi hj o e = rw (entries_in m i j hi hj, e)
      (lt_or i rows (λ l. rw (lt-ltb i rows l, le-ltb j n (o l))) (λ l. rw (le-ltb i rows l)))

  -- the row is past its count
  fine_past : (i j : ℕ) → i < 96 → j < 96 → rows ≤ i → fine m rows n i j ≡ is_zero (nth (cut j m) i)
  fine_past i j hi hj o =
      fine_out i j (96 * j + i) hi hj (omega arith) refl ∙ ap is_zero (sym (entries_in m i j hi hj) ∙ sym (nth_cut m j i hj hi))

  fine_column : (j : ℕ) → j < n → all 96 (λ i. fine m rows n i j) ≡ column_in_place (cut j m) rows
  unfolding column_in_place
  fine_column j hj = all_split rows 96 (λ i. fine m rows n i j) s.short ∙ ap₂ ◌&&◌
      (all_same rows (λ i h. fine_in i j h hj))
      (all_same (96 - rows) (λ i h. fine_past (rows + i) j (omega arith) (omega arith) (omega arith)))

  fine_rest : all (96 - n) (λ j. all 96 (λ i. fine m rows n i (n + j))) ≡ all (9216 - 96 * n) (λ p. is_zero (nth m (96 * n + p)))
  fine_rest =
      let e : 96 * (96 - n) ≡ 9216 - 96 * n = omega arith in
      all_same (96 - n) (λ j h. all_same 96 (λ i l.
      fine_out i (n + j) (96 * n + (96 * j + i)) (omega arith) (omega arith) (omega arith) (omega arith)))
      ∙ all-columns (96 - n) (λ p. is_zero (nth m (96 * n + p)))
      ∙ ap (λ k. all k (λ p. is_zero (nth m (96 * n + p)))) e

  -- the columns in use, and then every place behind them
  in_place-split : in_place rows (layer n m)
      ≡ all n (λ j. column_in_place (cut j m) rows) && all (9216 - 96 * n) (λ p. is_zero (nth m (96 * n + p)))
  unfolding in_place
  in_place-split =
      all_split n 96 (λ j. all 96 (λ i. fine m rows n i j)) s.columns.few ∙ ap₂ ◌&&◌ (all_same n fine_column) fine_rest

  pub in_place-not : all n (λ j. column_in_place (cut j m) rows) ≡ false → in_place rows (layer n m) ≡ false
  in_place-not e = in_place-split ∙ rw e

  pub in_place-rest : all n (λ j. column_in_place (cut j m) rows) ≡ true
      → in_place rows (layer n m) ≡ all (9216 - 96 * n) (λ p. is_zero (nth m (96 * n + p)))
  in_place-rest e = in_place-split ∙ rw e

-- what the test tells of every entry
pub in_place-at : (m : List ℤ) (rows n : ℕ) → in_place rows (layer n m) ≡ true → Placed m rows
unfolding in_place
in_place-at m rows n e = record {
  units = record { unit = λ i j. in_or_out i j (inside i j) (λ o. rw (entries-out m i j o) (omega arith)) };
  past = λ i j h. in_or_out i j (λ hi hj. zero-true (rw (le-ltb i rows h) at (at i j hi hj))) (entries-out m i j);
}
  where
    at : (i j : ℕ) → i < 96 → j < 96 → fine m rows n i j ≡ true
    at i j hi hj = all-at 96 _ (all-at 96 _ e j hj) i hi

    inside : (i j : ℕ) → i < 96 → j < 96 → nat_abs (entries m i j) ≤ 1
    inside i j hi hj = bool_or (ltb i rows && ltb j n)
        (λ t. unit-true (entries m i j) (sym (cond-true _ _ t) ∙ at i j hi hj))
        (λ t. rw (zero-true (sym (cond-false _ _ t) ∙ at i j hi hj)) (omega arith))

-- past the rows in use a product is zero
pub product-rows : {m : List ℤ} {rows : ℕ} → Placed m rows → rows ≤ 96 → {t : Bool} (between n : ℕ) (f : Entries)
    → t ≡ all n (λ j. closes 96 (layer between m) (λ i. f i j)) → t ≡ all n (λ j. closes rows (layer between m) (λ i. f i j))
product-rows p short between n f e = e ∙ all_same n (λ j _. sym (closes-rows (λ i. f i j) _ (layer between _) short p.past))
