-- `off::lengths::corner_length` meets its contract: three numbers, and a byte after each.
use mathlib.Core.Path.{◌∙◌}
use Prim.Native.Nat.{◌+◌, ◌≤◌}
use native.Mathlib.Omega.{arith}
use lib.IntN.{pos, nat_abs}
use lib.ListN.{length}
use borrow.Author.Rules.{rules}
use Rattle.std.proofs.Common.{tests}
use Rattle.std.proofs.lemmas.Iterator.{YieldsList-from_map, YieldsList-from_slice}
use Rattle.std.proofs.lemmas.Iterator.Adapters.{serves_from_places}
use Rattle.std.proofs.lemmas.Iterator.Consumers.{YieldsList-at, sum_by_from_yields_List, fits_by_from_yields_list}
use Rattle.std.proofs.lemmas.List.{get_or_default}
use Rattle.off.specs.Words.{farthest}
use Rattle.off.specs.Exporting.{signed}
use Rattle.off.proofs.lengths.LineLengths.{corner-sum, corner-most}
use Rattle.off.proofs.lengths.Signs.{signed-most}
use Rattle.off.proofs.lengths.corner_length.Goals as goal

pub sum-requires-clause-can : goal.sum-requires-clause-can
sum-requires-clause-can c =
    let corner = c.args.corner.now in (
      tt,
      serves_from_places (YieldsList-at c.map.ensures.source (YieldsList-from_slice corner cc)) (λ x q e. search rules)
          (λ x k l e.
          let near : nat_abs x.now ≤ farthest = rw (e, get_or_default corner k x.now (pos 0) l) (c.requires.near k (omega (arith, c.requires.size, l))) in
          search (rules, near, signed-most)),
    )

pub sum-requires-clause-fits : goal.sum-requires-clause-fits
sum-requires-clause-fits c =
    let corner = c.args.corner.now in
    fits_by_from_yields_list (λ z. length (signed z) + 1) corner c.map.result _
    (YieldsList-from_map _ (λ z. length (signed z) + 1) (YieldsList-at c.map.ensures.source (YieldsList-from_slice corner cc))
    c.map.ensures.closure (λ x r q k. search (rules, tests)))
    (omega (arith, corner-sum corner c.requires.size, corner-most corner 0))

pub returns : goal.returns
returns c =
    let corner = c.args.corner.now in
    sum_by_from_yields_List (λ z. length (signed z) + 1) corner _ _ c.sum.ensures.ran
    (YieldsList-from_map _ (λ z. length (signed z) + 1) (YieldsList-at c.map.ensures.source (YieldsList-from_slice corner cc))
    c.map.ensures.closure (λ x r q k. search (rules, tests)))
    ∙ corner-sum corner c.requires.size
