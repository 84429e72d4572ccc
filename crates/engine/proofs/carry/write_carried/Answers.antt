-- `engine::carry::write_carried` meets its contract: the chain is copied, and each kind then changes what it says.
use Rattle.engine.proofs.Rewritings.{left_written, split_written, split_other, flip_written, flip_other}
use Rattle.engine.proofs.carry.write_carried.Goals as goal

pub returns-then-d-dim : goal.returns-then-d-dim
returns-then-d-dim c = split_written c.requires c.copy_chain.ensures c.in-Split.is c.if-d-dim.true

pub returns-else-d-dim : goal.returns-else-d-dim
returns-else-d-dim c = split_other c.requires c.copy_chain.ensures c.in-Split.is c.if-d-dim.false

pub returns-then-d-dim-2 : goal.returns-then-d-dim-2
returns-then-d-dim-2 c = flip_written c.requires c.copy_chain.ensures c.in-Flip.is c.if-d-dim-2.true

pub returns-else-d-dim-2 : goal.returns-else-d-dim-2
returns-else-d-dim-2 c = flip_other c.requires c.copy_chain.ensures c.in-Flip.is c.if-d-dim-2.false

pub returns-in-Make : goal.returns-in-Make
returns-in-Make c = left_written c.requires c.copy_chain.ensures c.in-Make.is
