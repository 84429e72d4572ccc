-- `sew_next` makes its tests in the order of `sew_ring`.
use borrow.Author.Tests.{not-true, not-false}
use Rattle.off.proofs.panels.NextSewing.{next_far, next-long}
use Rattle.off.proofs.panels.sew_next.Goals as goal

pub returns-then-not-read : goal.returns-then-not-read
returns-then-not-read c = next_far c.requires (not-true _ c.if-not-read.true)

pub returns-then-read-gt-SIDE : goal.returns-then-read-gt-SIDE
returns-then-read-gt-SIDE c = next-long c.requires (not-false _ c.if-not-read.false) c.if-read-gt-SIDE.true
