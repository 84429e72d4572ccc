-- `operators::chosen::take_head` meets its contract: after i turns the first i entries are those of the part.
use lib.IntN.{pos}
use Rattle.maths.proofs.Sweep.{Filled}
use Rattle.rules.specs.Calls.{coefficients}
use Rattle.rules.specs.Edits.{part}
use Rattle.operators.specs.Part.{head}
use Rattle.operators.proofs.chosen.take_head.Given as goal

abbrev pub invariant-loop-i : goal.invariant-loop-i
invariant-loop-i l = Filled (pos 0) (part (head (coefficients l.column)) (coefficients l.column)) l.initial.taken l.taken l.i
