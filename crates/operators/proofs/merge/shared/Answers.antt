-- `operators::merge::shared` meets its contract: the sum is of a 1 for each pair of the two columns that passes, of 96 pairs, so it fits.
use Rattle.std.proofs.Common.{rules, ◌≡◌, ◌∙◌, ap, ap₂, ℕ, ℤ, pos, Bool, cond, List, length, get_or, arith, sym}
use Rattle.std.specs.List.{zip, filter}
use Rattle.std.proofs.lemmas.Iterator.{YieldsList-from_slice, YieldsList-from_zip, YieldsList-from_map}
use Rattle.std.proofs.lemmas.Iterator.Adapters.{fits_from_length, at_most_from_yields_List}
use Rattle.std.proofs.lemmas.Iterator.Consumers.{sum_by_from_yields_List}
use Rattle.std.proofs.lemmas.List.Sums.{length-filter}
use Rattle.std.proofs.lemmas.Slice.Zip.{length-zip, get_or-zip}
use Rattle.maths.specs.Tests.{eq_z, is_zero, count}
use Rattle.maths.specs.Tables.{entries}
use Rattle.maths.proofs.Tests.{count_same}
use Rattle.grid.specs.Grid.{cut, Lines}
use Rattle.grid.proofs.Cuts.{length-cut}
use Rattle.operators.specs.Joins.{both, shared_by}
use Rattle.operators.proofs.chosen.Lists.{counted, column_held}
use Rattle.operators.proofs.merge.shared.Goals as goal

abbrev pairs : List ℤ → ℕ → ℕ → List (ℤ × ℤ)
pairs d a b = zip (cut a d) (cut b d)

abbrev passes : ℤ × ℤ → Bool
passes p = both p.0 p.1

module _ {d : List ℤ} {a b : ℕ} (h : Lines d a b) where
  long_a : length (cut a d) ≡ 96
  long_a = length-cut d a h.size h.first

  long_b : length (cut b d) ≡ 96
  long_b = length-cut d b h.size h.second

  long : length (pairs d a b) ≡ 96
  long = length-zip (cut a d) (cut b d) ∙ omega (arith, long_a, long_b)

  -- the pairs that pass are counted row by row
  by_rows : length (filter passes (pairs d a b)) ≡ shared_by (entries d) a b
  unfolding shared_by
  by_rows =
      counted passes (pos 0, pos 0) (pairs d a b)
      ∙ ap (λ n. count n (λ k. passes (get_or (pairs d a b) k (pos 0, pos 0)))) long
      ∙ count_same 96 (λ i l. rw (get_or-zip (cut a d) (cut b d) i (pos 0, pos 0) (omega (arith, long_a)) (omega (arith, long_b)))
      (ap₂ both (ap (λ f. f i) (column_held {cell = a} (record { size = h.size; inside = h.first })))
      (ap (λ f. f i) (column_held {cell = b} (record { size = h.size; inside = h.second })))))

pub sum-requires-clause-fits : goal.sum-requires-clause-fits
sum-requires-clause-fits c =
    let a = c.args in
    fits_from_length _ _ 96 256
    (at_most_from_yields_List (YieldsList-from_zip (YieldsList-from_slice (cut a.a a.d.now) cc) (YieldsList-from_slice (cut a.b a.d.now) cc)) (omega (arith, long c.requires)))
    c.map.ensures.closure (omega arith) (λ x r q k. (search rules, search rules))

pub returns : goal.returns
unfolding is_zero eq_z
returns c =
    let a = c.args in
    let one : ℤ × ℤ → ℕ = λ p. cond (passes p) 1 0 in
    sum_by_from_yields_List one (pairs a.d.now a.a a.b) c.map.result _ c.sum.ensures.ran
    (YieldsList-from_map {s = c.map.result} _ one
    (YieldsList-from_zip (YieldsList-from_slice (cut a.a a.d.now) cc) (YieldsList-from_slice (cut a.b a.d.now) cc))
    c.map.ensures.closure (λ x r q k. (search rules, search rules)))
    ∙ sym (length-filter passes (pairs a.d.now a.a a.b))
    ∙ by_rows c.requires
