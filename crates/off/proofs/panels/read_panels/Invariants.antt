-- `read_panels` reads as `several` does, and each ring is sewn on to what the rings before it came to.
use Rattle.off.specs.Sewing.{sewn}
use Rattle.off.specs.Lying.{drawn}
use Rattle.off.proofs.panels.PanelsGoing.{PanelsGoing}
use Rattle.off.proofs.panels.read_panels.Given as goal

abbrev pub invariant-loop : goal.invariant-loop
invariant-loop l = PanelsGoing l.s l.n (sewn (drawn l.fn.c l.initial.m1 l.initial.m2)) l.limit l.m1 l.m2 l.m3 l.bytes l.rest l.sewn l.counter
