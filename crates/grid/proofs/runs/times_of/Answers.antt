-- `grid::runs::times_of` meets its contract: the sum is of a 1 for each byte that is z, of at most 255 bytes, so it fits.
use Rattle.std.proofs.Common.{rules, ◌∙◌, ℤ, ℕ, cond, arith}
use Rattle.std.proofs.lemmas.Iterator.{YieldsList-from_slice, YieldsList-from_map}
use Rattle.std.proofs.lemmas.Iterator.Adapters.{fits_from_length, at_most_from_yields_List}
use Rattle.std.proofs.lemmas.Iterator.Consumers.{sum_by_from_yields_List}
use Rattle.maths.specs.Tests.{eq_z}
use Rattle.grid.proofs.Chains.{count_run}
use Rattle.grid.proofs.runs.times_of.Goals as goal

pub sum-requires-clause-fits : goal.sum-requires-clause-fits
sum-requires-clause-fits c =
    let x = c.args in
    fits_from_length _ _ 255 256 (at_most_from_yields_List (YieldsList-from_slice x.run.now cc) (omega arith)) c.map.ensures.closure (omega arith) (λ x r q k. (search rules, search rules))

pub returns : goal.returns
unfolding eq_z
returns c =
    let one : ℤ → ℕ = λ x. cond (eq_z x c.args.z) 1 0 in
    let x = c.args in
    sum_by_from_yields_List one x.run.now c.map.result _ c.sum.ensures.ran
    (YieldsList-from_map {s = c.map.result} _ one (YieldsList-from_slice _ cc) c.map.ensures.closure (λ x r q k. (search rules, search rules)))
    ∙ count_run (λ x. eq_z x c.args.z) x.run.now
