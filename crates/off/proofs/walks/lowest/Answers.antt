-- `off::walks::lowest` meets its contract: the first corner that leads anywhere is the lowest.
use mathlib.Core.Path.{◌≡◌}
use mathlib.Core.Bool.{true, false}
use native.Mathlib.Omega.{arith}
use lib.Dec.{ltb}
use lib.ListN.{take}
use lib.Seq.{length-take-le}
use borrow.Author.Rules.{rules}
use Rattle.std.proofs.Common.{tests}
use Rattle.std.proofs.lemmas.Iterator.{IsFirst-from_position, YieldsList-from_slice}
use Rattle.off.proofs.walks.Steps.{start-is}
use Rattle.off.proofs.walks.lowest.Goals as goal

pub slice_bounds-iter-end : goal.slice_bounds-iter-end
slice_bounds-iter-end c = omega (arith, c.requires, length-take-le 96 c.args.next.now (omega (arith, c.requires)))

pub returns : goal.returns
returns c =
    let next = c.args.next.now in
    start-is next c.requires c.position.result
    (IsFirst-from_position _ _ c.position.result (λ b. ltb b 96 ≡ true) (λ b. ltb b 96 ≡ false) c.position.ensures.ran (YieldsList-from_slice (take 96 next) cc)
    (λ x q k. search (rules, tests)) (λ x q k. search (rules, tests)))
