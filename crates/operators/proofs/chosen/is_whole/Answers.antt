-- `operators::chosen::is_whole` meets its contract: the sum is of a 1 for each entry that is left, of 96, so it fits, and it is 0 where none is.
use Rattle.std.proofs.Common.{rules, ◌≡◌, ◌∙◌, ap, ℕ, ℤ, pos, Bool, not, cond, List, length, get_or, arith, sym, eqb}
use Rattle.std.specs.List.{zip, filter}
use Rattle.std.proofs.lemmas.Iterator.{YieldsList-from_slice, YieldsList-from_zip, YieldsList-from_map}
use Rattle.std.proofs.lemmas.Iterator.Adapters.{fits_from_length, at_most_from_yields_List}
use Rattle.std.proofs.lemmas.Iterator.Consumers.{sum_by_from_yields_List}
use Rattle.std.proofs.lemmas.List.Sums.{length-filter}
use Rattle.std.proofs.lemmas.Slice.Zip.{length-zip, get_or-zip}
use Rattle.maths.specs.Tests.{eq_z, count}
use Rattle.maths.proofs.Tests.{count_same}
use Rattle.rules.specs.Calls.{coefficients}
use Rattle.operators.proofs.chosen.Lists.{counted, none_counted}
use Rattle.operators.proofs.chosen.is_whole.Goals as goal

abbrev differs : ℤ × ℤ → Bool
differs p = not (eq_z p.0 p.1)

abbrev one : ℤ × ℤ → ℕ
one p = cond (differs p) 1 0

pub sum-left-requires-clause-fits : goal.sum-left-requires-clause-fits
sum-left-requires-clause-fits c =
    let v = c.args.column.now in
    let w = c.args.taken.now in
    fits_from_length _ _ 96 256
    (at_most_from_yields_List (YieldsList-from_zip (YieldsList-from_slice v cc) (YieldsList-from_slice w cc)) (omega (arith, length-zip v w, c.requires.0)))
    c.map.ensures.closure (omega arith) (λ x r q k. (search rules, search rules))

-- the entries that differ are counted row by row
by_rows : (v w : List ℤ) → length v ≡ 96 → length w ≡ 96 → length (filter differs (zip v w)) ≡ count 96 (λ i. not (eq_z (coefficients v i) (coefficients w i)))
by_rows v w a b =
    let pairs = zip v w in
    let long : length pairs ≡ 96 = length-zip v w ∙ omega (arith, a, b) in
    counted differs (pos 0, pos 0) pairs
    ∙ ap (λ n. count n (λ k. differs (get_or pairs k (pos 0, pos 0)))) long
    ∙ count_same 96 (λ i l. ap differs (get_or-zip v w i (pos 0, pos 0) (omega (arith, a)) (omega (arith, b))))

pub returns : goal.returns
unfolding eq_z
returns c =
    let v = c.args.column.now in
    let w = c.args.taken.now in
    ap (λ n. eqb n 0)
    (sum_by_from_yields_List one (zip v w) c.map.result _ c.sum-left.ensures.ran
    (YieldsList-from_map {s = c.map.result} _ one
    (YieldsList-from_zip (YieldsList-from_slice v cc) (YieldsList-from_slice w cc))
    c.map.ensures.closure (λ x r q k. (search rules, search rules)))
    ∙ sym (length-filter differs (zip v w))
    ∙ by_rows v w c.requires.0 c.requires.1)
    ∙ none_counted 96 (λ i. eq_z (coefficients v i) (coefficients w i))
