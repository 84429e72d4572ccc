-- `engine::script::run_operators` turns as `repeat` does: what is left to run, from what is reached, is always the whole.
use Rattle.rules.specs.Lending.{lent_by, SameLoans}
use Rattle.engine.proofs.Runs.{OperatorsLeft}
use Rattle.engine.proofs.script.run_operators.Given as goal

abbrev pub invariant-loop-ran : goal.invariant-loop-ran
invariant-loop-ran l = OperatorsLeft l.s l.n (lent_by l.fn.p) l.ran l.next (lent_by l.p) × SameLoans l.fn.p l.p
