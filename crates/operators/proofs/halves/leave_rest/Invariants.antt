-- `operators::halves::leave_rest` meets its contract: the rows below i of column c have the rest, and row i is still the old one.
use mathlib.Core.Bool.{cond}
use lib.IntN.{pos}
use Rattle.maths.specs.Tables.{entries}
use Rattle.maths.specs.Tests.{is_zero}
use Rattle.grid.proofs.Walks.{Down}
use Rattle.rules.specs.Calls.{coefficients}
use Rattle.operators.proofs.halves.leave_rest.Given as goal

abbrev pub invariant-loop-i : goal.invariant-loop-i
invariant-loop-i l = Down l.c l.i (λ i. cond (is_zero (coefficients l.taken i)) (entries l.initial.m i l.c) (pos 0)) (entries l.initial.m) l.m
