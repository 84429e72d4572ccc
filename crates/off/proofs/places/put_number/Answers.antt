-- `off::places::put_number` meets its contract: what the machine's type prints is the text.
use Rattle.off.proofs.places.Numbers.{number-is}
use Rattle.off.proofs.places.put_number.Goals as goal

pub put_short-requires : goal.put_short-requires
put_short-requires c = rw (number-is c.args.n c.requires.small) c.requires.room

pub returns : goal.returns
returns c = rw (← number-is c.args.n c.requires.small) c.put_short.ensures
