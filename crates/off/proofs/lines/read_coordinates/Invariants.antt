-- `read_coordinates` turns as `several` does, and the coordinates that were read stand in the list from its front on.
use Rattle.std.proofs.Common.{length, take}
use Rattle.off.specs.Words.{coordinate}
use Rattle.off.proofs.lines.Several.{Sofar}
use Rattle.off.proofs.lines.read_coordinates.Given as goal

abbrev pub invariant-loop-place : goal.invariant-loop-place
invariant-loop-place l = Sofar coordinate (length l.initial.list) l.s l.place-index (take l.place-index l.list) l.rest
