-- `operators::chosen::is_true_part` meets its contract: two tests, the second only where the first holds.
use Rattle.operators.proofs.chosen.Choices.{true-then, true_else}
use Rattle.operators.proofs.chosen.is_true_part.Goals as goal

pub returns-then-not-are_zero : goal.returns-then-not-are_zero
returns-then-not-are_zero c =
    let a = c.args in
    true-then a.column.now a.taken.now c.requires.1 c.are_zero.ensures c.if-not-are_zero.true c.is_whole.ensures

pub returns-else-not-are_zero : goal.returns-else-not-are_zero
returns-else-not-are_zero c = let a = c.args in true_else a.column.now a.taken.now c.requires.1 c.are_zero.ensures c.if-not-are_zero.false
