-- `operators::chosen::take_listed` meets its contract: after l turns the first l listed faces are marked.
use Rattle.rules.specs.Calls.{coefficients}
use Rattle.operators.specs.Part.{numbers}
use Rattle.operators.proofs.chosen.Parts.{Marked}
use Rattle.operators.proofs.chosen.take_listed.Given as goal

abbrev pub invariant-loop-i : goal.invariant-loop-i
invariant-loop-i l = Marked (numbers l.faces) (coefficients l.column) l.i-index l.taken
