-- `off::lengths::ring_length` meets its contract: the length is that of the count, of a byte, and of the corners.
use mathlib.Core.Path.{◌≡◌, ◌∙◌}
use Prim.Native.Nat.{◌+◌, ◌<◌}
use native.Mathlib.Omega.{arith}
use lib.ListN.{length}
use borrow.Author.Rules.{rules}
use Rattle.std.proofs.Common.{tests}
use Rattle.std.proofs.lemmas.Iterator.{YieldsList-from_map, YieldsList-from_slice}
use Rattle.std.proofs.lemmas.Iterator.Adapters.{serves_from_places}
use Rattle.std.proofs.lemmas.List.{get_or_default}
use Rattle.std.proofs.lemmas.Iterator.Consumers.{YieldsList-at, sum_by_from_yields_List, fits_by_from_yields_list}
use Rattle.off.specs.Exporting.{number}
use Rattle.off.specs.Writing.{spaced}
use Rattle.off.proofs.lengths.Decimal.{number-most}
use Rattle.off.proofs.lengths.LineLengths.{spaced-sum, spaced-most}
use Rattle.off.proofs.lengths.RingLine.{byte_low, ring-line-length}
use Rattle.off.proofs.lengths.ring_length.Goals as goal
use Rattle.off.proofs.lengths.ring_length.Goals.{After-sum-corners}

pub sum-corners-requires-clause-can : goal.sum-corners-requires-clause-can
sum-corners-requires-clause-can c = (
  tt,
  serves_from_places (YieldsList-at c.map.ensures.source (YieldsList-from_slice c.args.ring.now cc)) (λ x q e. search rules)
      (λ x k l e. let low : x.now < 96 = omega (arith, e, get_or_default c.args.ring.now k x.now 0 l, byte_low c.requires k l) in search (rules, low, number-most)),
)

pub sum-corners-requires-clause-fits : goal.sum-corners-requires-clause-fits
sum-corners-requires-clause-fits c =
    let ring = c.args.ring.now in
    fits_by_from_yields_list (λ x. 1 + length (number x)) ring c.map.result _
    (YieldsList-from_map _ (λ x. 1 + length (number x)) (YieldsList-at c.map.ensures.source (YieldsList-from_slice ring cc))
    c.map.ensures.closure (λ x r q k. search (rules, tests)))
    (omega (arith, spaced-sum ring, spaced-most ring (length ring), c.requires.few))

corners : (c : After-sum-corners) → let ring = c.args.ring.now in c.sum-corners.result ≡ length (spaced ring (length ring))
corners c =
    let ring = c.args.ring.now in
    sum_by_from_yields_List (λ x. 1 + length (number x)) ring _ _ c.sum-corners.ensures.ran
    (YieldsList-from_map _ (λ x. 1 + length (number x)) (YieldsList-at c.map.ensures.source (YieldsList-from_slice ring cc))
    c.map.ensures.closure (λ x r q k. search (rules, tests)))
    ∙ spaced-sum ring

pub overflow_add-result : goal.overflow_add-result
overflow_add-result c =
    let ring = c.args.ring.now in
    omega (arith, corners (goal.at.overflow_add-result c).After-sum-corners, number-most (length ring), spaced-most ring (length ring), c.requires.few)

pub overflow_add-result-2 : goal.overflow_add-result-2
overflow_add-result-2 c =
    let ring = c.args.ring.now in
    omega (arith, corners (goal.at.overflow_add-result-2 c).After-sum-corners, number-most (length ring), spaced-most ring (length ring), c.requires.few)

pub returns : goal.returns
returns c = omega (arith, corners (goal.at.returns c).After-sum-corners, ring-line-length c.args.ring.now)
