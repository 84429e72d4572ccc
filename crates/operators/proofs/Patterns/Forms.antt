-- What a loop over one matrix leaves is what the operators' definitions say of a layer.
use mathlib.Core.Path.{◌≡◌, refl, ap, ◌∙◌}
use mathlib.Core.List.{List}
use Prim.Native.Nat.{ℕ, ◌<◌, ◌≤◌}
use native.Mathlib.Omega.{arith}
use borrow.Author.Tests.{eq-eqb, ne_eqb}
use lib.Dec.{eqb}
use lib.IntN.{ℤ, pos}
use Rattle.maths.specs.Sums.{up}
use Rattle.maths.specs.Tables.{Entries, entries, tab}
use Rattle.maths.proofs.Cases.{eq_or}
use Rattle.maths.proofs.Sums.{up_lt, up-past, up_other}
use Rattle.maths.proofs.Tables.{clip_keeps, entries-out, entries-tab, tab_same}
use Rattle.grid.specs.Grid.{over, negated_column, negated_row, added_column, removed_column, removed_row}
use Rattle.rules.specs.Edits.{put, negated, without_column, without_row, merged}
use Rattle.rules.specs.Complex.{layer}

-- one row or one column
module _ (c : ℕ) (m : List ℤ) where
  pub negated-column : over (negated_column c) m ≡ tab (λ i. negated c (λ j. entries m i j))
  unfolding over negated_column negated put
  negated-column = refl

  pub negated-row : over (negated_row c) m ≡ tab (λ i j. negated c (λ i. entries m i j) i)
  unfolding over negated_row negated put
  negated-row = refl

  pub without_column_lem : (n : ℕ) → over (removed_column c) m ≡ tab (without_column c (layer n m)).d
  unfolding over removed_column without_column
  without_column_lem n = refl

  pub without_row_lem : (n : ℕ) → over (removed_row c) m ≡ tab (without_row c (layer n m)).d
  unfolding over removed_row without_row
  without_row_lem n = refl

-- an edit of a matrix whose entries are known
over_of : (F : Entries → Entries) (m : List ℤ) {f : Entries} → entries m ≡ f → over F m ≡ tab (F f)
unfolding over
over_of F m e = ap (λ f. tab (F f)) e

-- nothing is lost where the new entries are 0 outside of 96 by 96
over-entries : (F : Entries → Entries) (m : List ℤ)
    → ((i j : ℕ) → (i < 96 → 96 ≤ j) → F (entries m) i j ≡ pos 0) → entries (over F m) ≡ F (entries m)
unfolding over
over-entries F m h = entries-tab (F (entries m)) ∙ clip_keeps h

-- column b is added to a lower column a and goes with row t: the two cells have become one
module _ (t a b : ℕ) (m : List ℤ) (less : a < b) (high : b < 96) where
  added_entries : entries (over (added_column a b) m) ≡ added_column a b (entries m)
  unfolding added_column
  added_entries = over-entries (added_column a b) m (λ i j o. eq_or j a
      (λ e. rw (eq-eqb j a e, entries-out m i a (λ h. absurd (omega (arith, o h))), entries-out m i b (λ h. absurd (omega (arith, o h)))))
      (λ n. rw (ne_eqb j a n) (entries-out m i j o)))

  removed-entries : (m : List ℤ) → entries (over (removed_column b) m) ≡ removed_column b (entries m)
  unfolding removed_column
  removed-entries m = over-entries (removed_column b) m (λ i j o. entries-out m i (up b j) (λ h. up-past b 96 j high (omega (arith, o h))))

  up_same : (j : ℕ) → eqb (up b j) a ≡ eqb j a
  up_same j = eq_or j a (λ e. rw (e, up_lt b a less)) (λ n. rw (ne_eqb j a n, ne_eqb (up b j) a (up_other a b j less n)))

  merged-at : (n i j : ℕ) → removed_row t (removed_column b (added_column a b (entries m))) i j ≡ (merged t a b (layer n m)).d i j
  unfolding removed_row removed_column added_column merged put
  merged-at n i j = rw (up_same j)

  pub merged-is : (n : ℕ) → over (removed_row t) (over (removed_column b) (over (added_column a b) m)) ≡ tab (merged t a b (layer n m)).d
  merged-is n = over_of (removed_row t) _ (removed-entries _ ∙ ap (removed_column b) added_entries) ∙ tab_same (λ i j _ _. merged-at n i j)
