-- `grid::tests::row_times` meets its contract: the sum is of a 1 for each column of which entry r is z, of 96 columns, so it fits.
use mathlib.Core.Path.{◌∙◌}
use mathlib.Core.Bool.{cond}
use Prim.Native.Nat.{ℕ}
use native.Mathlib.Omega.{arith}
use lib.IntN.{ℤ}
use borrow.Author.Rules.{rules}
use Rattle.std.proofs.lemmas.Iterator.{YieldsList-from_map}
use Rattle.std.proofs.lemmas.Iterator.Adapters.{fits_from_length, at_most_from_yields_List}
use Rattle.std.proofs.lemmas.Iterator.Consumers.{sum_by_from_yields_List}
use Rattle.maths.specs.Tests.{eq_z}
use Rattle.grid.proofs.Chains.{row, length-row, columns, count_row}
use Rattle.grid.proofs.tests.row_times.Goals as goal

pub sum-found-requires-clause-fits : goal.sum-found-requires-clause-fits
sum-found-requires-clause-fits c =
    let x = c.args in
    fits_from_length _ _ 96 256
    (at_most_from_yields_List (columns {s = c.map.result.iter} x.m.now x.r c.requires.inside c.requires.size (cc) (cc)) (omega (arith, length-row)))
    c.map.ensures.closure (omega arith) (λ x r q k. (search rules, search rules))

pub returns : goal.returns
unfolding eq_z
returns c =
    let x = c.args in
    let one : ℤ → ℕ = λ y. cond (eq_z y x.z) 1 0 in
    sum_by_from_yields_List one (row x.r 96 x.m.now) c.map.result _ c.sum-found.ensures.ran
    (YieldsList-from_map {s = c.map.result} _ one (columns {s = c.map.result.iter} x.m.now x.r c.requires.inside c.requires.size (cc) (cc)) c.map.ensures.closure (λ x r q k. (search rules, search rules)))
    ∙ count_row (λ y. eq_z y x.z) x.m.now x.r c.requires.inside
