-- `good::columns::one_each` meets its contract: the two counts are those of the definition.
use Rattle.rules.specs.Good.{one_each}
use Rattle.good.proofs.columns.one_each.Goals as goal

pub returns : goal.returns
unfolding one_each
returns c = rw (c.times_of.ensures, c.times_of-2.ensures, c.requires)
