-- `engine::boundary::multiply` meets its contract: after j turns the sums are those of the first j columns.
use Rattle.engine.proofs.Products.{Multiplied}
use Rattle.engine.proofs.boundary.multiply.Given as goal

abbrev pub invariant-loop-j : goal.invariant-loop-j
invariant-loop-j l = Multiplied l.m l.chain l.j l.out
