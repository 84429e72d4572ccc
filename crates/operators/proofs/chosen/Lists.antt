-- A list of 96 entries and the chain that it holds, and tests of a list's elements.
use mathlib.Core.Path.{◌≡◌, refl, sym, ap, ◌∙◌, fun_ext}
use mathlib.Core.Bool.{cond, Bool, not, ◌&&◌}
use mathlib.Core.List.{List}
use Prim.Native.Nat.{ℕ, zero, suc, ◌+◌, ◌*◌, ◌<◌, ◌≤◌}
use native.Mathlib.Numerals.{add-one}
use native.Mathlib.Omega.{arith}
use lib.Dec.{eqb}
use borrow.Author.Tests.{eq-eqb, ne_eqb}
use lib.IntN.{ℤ, pos}
use lib.ListN.{length, get_or, take, get_or-eq_default}
use Rattle.std.specs.List.{between, list_all, filter, count_by}
use Rattle.std.proofs.lemmas.List.{take_all}
use Rattle.std.proofs.lemmas.List.Edits.{get_or-between, length-between}
use Rattle.std.proofs.lemmas.List.Folds.{list_all_more}
use Rattle.std.proofs.lemmas.List.Sums.{sum_by_more, length-filter}
use Rattle.maths.specs.Tests.{all, count}
use Rattle.maths.specs.Tables.{table, column}
use Rattle.maths.proofs.Cases.{bool_or, lt_or, no_eq}
use Rattle.maths.proofs.Tables.{get_d_table, entries_in, entries-out}
use Rattle.maths.proofs.Tests.{all-at, all-false, count-zero, none_found}
use Rattle.rules.specs.Complex.{Chain}
use Rattle.rules.specs.Calls.{coefficients}
use Rattle.grid.specs.Grid.{Line}

pub holds : (f : Chain) {l : List ℤ} → l ≡ table 96 f → (i : ℕ) → i < 96 → coefficients l i ≡ f i
holds f e i h = rw e (get_d_table 96 i f (pos 0) h)

-- what is said of a length, where it is 96
pub of_96 : {n : ℕ} → n ≡ 96 → {A : Type 0} {a : A} (t : ℕ → A) → a ≡ t n → a ≡ t 96
of_96 long t e = e ∙ ap t long

-- a test of every element, by their places
module _ {A : Type 0} (t : A → Bool) (d : A) (xs : List A) where
  all_taken : (i : ℕ) → i ≤ length xs → list_all t (take i xs) ≡ all i (λ k. t (get_or xs k d))
  unfolding all
  all_taken zero h = refl
  all_taken (suc i) h =
      ap (λ n. list_all t (take n xs)) (sym (add-one i))
      ∙ list_all_more t xs i d (omega arith)
      ∙ ap (λ b. b && t (get_or xs i d)) (all_taken i (omega arith))

  pub all_listed : list_all t xs ≡ all (length xs) (λ k. t (get_or xs k d))
  all_listed = ap (list_all t) (sym (take_all (length xs) xs (omega arith))) ∙ all_taken (length xs) (omega arith)

-- the bytes of a column hold it
pub column_held : {m : List ℤ} {cell : ℕ} → Line m cell → coefficients (between (96 * cell) (96 * cell + 96) m) ≡ column m cell
column_held {m} {cell} l = fun_ext (λ i. lt_or i 96
    (λ h. get_or-between m (96 * cell) (96 * cell + 96) i (pos 0) (omega arith) ∙ sym (entries_in m i cell h l.inside))
    (λ h. get_or-eq_default _ (pos 0) {n = i} (omega (arith, length-between m (96 * cell) (96 * cell + 96) (omega (arith, l.size, l.inside))))
    ∙ sym (entries-out m i cell (λ k. absurd (omega arith)))))

-- how many elements pass a test, by their places
module _ {A : Type 0} (t : A → Bool) (d : A) (xs : List A) where
  count_taken : (i : ℕ) → i ≤ length xs → count_by t (take i xs) ≡ count i (λ k. t (get_or xs k d))
  unfolding count
  count_taken zero h = refl
  count_taken (suc i) h =
      ap (λ n. count_by t (take n xs)) (sym (add-one i))
      ∙ sum_by_more (λ x. cond (t x) 1 0) xs i d (omega arith)
      ∙ ap (λ n. n + cond (t (get_or xs i d)) 1 0) (count_taken i (omega arith))

  pub counted : length (filter t xs) ≡ count (length xs) (λ k. t (get_or xs k d))
  counted = length-filter t xs ∙ ap (count_by t) (sym (take_all (length xs) xs (omega arith))) ∙ count_taken (length xs) (omega arith)

-- none of n is counted exactly where all pass
pub none_counted : (n : ℕ) (p : ℕ → Bool) → eqb (count n (λ i. not (p i))) 0 ≡ all n p
none_counted n p =
    bool_or (all n p)
    (λ e. eq-eqb _ 0 (count-zero n (λ i l. rw (all-at n p e i l))) ∙ sym e)
    (λ e. let f = all-false n p e in
    ne_eqb _ 0 (λ z. no_eq (sym (rw f.2 at (none_found n (λ i. not (p i)) z f.0 f.1)))) ∙ sym e)
