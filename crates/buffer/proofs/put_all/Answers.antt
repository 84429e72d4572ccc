-- `buffer::put_all` meets its contract: the bytes from the place on are those of s.
use Rattle.std.proofs.Common.{rules}
use Rattle.std.proofs.lemmas.Slice.{overwrites}
use Rattle.buffer.proofs.put_all.Goals as goal

pub returns : goal.returns
returns c = record { place = search rules; size = search rules; upto = search (rules, overwrites); rest = search (rules, overwrites) }
