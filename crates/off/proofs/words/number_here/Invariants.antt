-- `number_here` takes digit after digit, and what is still to be read, after those that were, is always the whole.
use Rattle.std.proofs.Common.{◌≡◌}
use Rattle.off.proofs.words.Numbers.{Counted}
use Rattle.off.proofs.words.number_here.Given as goal

abbrev pub invariant-loop-b : goal.invariant-loop-b
invariant-loop-b l = record { place : l.count ≡ l.b-index; counted : Counted l.s l.count l.n }
