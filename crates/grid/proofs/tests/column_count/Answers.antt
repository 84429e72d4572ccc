-- `grid::tests::column_count` meets its contract: what is not 0 is what is left of the 96 entries.
use mathlib.Core.Path.{◌≡◌, ap, ◌∙◌}
use Rattle.maths.specs.Tests.{is_zero, count}
use Rattle.maths.specs.Tables.{entries}
use Rattle.maths.proofs.Tests.{count_le, count_same}
use Rattle.grid.proofs.Cuts.{nth_cut}
use Rattle.grid.proofs.Readings.{count_others}
use Rattle.grid.proofs.tests.column_count.Goals as goal
use Rattle.grid.proofs.tests.column_count.Goals.{After-times_of}

-- the zeros of the column
zeros : (c : After-times_of) → let x = c.args in c.times_of.result ≡ count 96 (λ i. is_zero (entries x.m.now i x.c))
unfolding is_zero
zeros c =
    let x = c.args in
    c.times_of.ensures
    ∙ rw (c.column.ensures.long, c.column.ensures.is)
    (count_same 96 (λ i l. ap is_zero (nth_cut x.m.now x.c i c.requires.inside l)))

pub overflow_sub-result : goal.overflow_sub-result
overflow_sub-result c = rw (zeros (goal.at.overflow_sub-result c).After-times_of) (count_le 96 _)

pub returns : goal.returns
returns c = count_others _ _ (zeros (goal.at.returns c).After-times_of)
