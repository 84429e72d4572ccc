-- What it says of a lent pattern that it passed its test.
use mathlib.Core.Path.{◌≡◌}
use lib.ListN.{length}
use Rattle.rules.specs.Refusals.{accepted}
use Rattle.rules.specs.Complex.{Pattern}
use Rattle.rules.specs.Good.{Held}
use Rattle.rules.proofs.Branches.FirstTests.{both_passed}
use Rattle.rules.proofs.Storage.Stored.{all-sized}
use Rattle.rules.proofs.Storage.Tested.{complex_bounded, good-true}
use Rattle.good.specs.Tested.{tested}

pub held : (p : Pattern) → length p.counts.n ≡ 4 → tested p ≡ accepted → Held p
unfolding tested
held p four e = let g = both_passed p e in record { sized = all-sized p four g.0; good = good-true (complex_bounded p) g.1 }
