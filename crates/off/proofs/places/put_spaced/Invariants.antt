-- `off::places::put_spaced` meets its contract: the corners so far are put.
use lib.ListN.{length, get_or}
use Rattle.maths.proofs.Buffers.{Pieces}
use Rattle.off.specs.Writing.{after_blank}
use Rattle.off.proofs.places.put_spaced.Given as goal

abbrev pub invariant-loop-c : goal.invariant-loop-c
invariant-loop-c v = Pieces (λ l. after_blank (get_or v.ring l 0)) (length v.ring) v.c-index v.initial.out v.at v.next v.out
