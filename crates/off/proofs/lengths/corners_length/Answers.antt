-- `off::lengths::corners_length` meets its contract: the lengths of the corners' lines are added.
use mathlib.Core.Path.{◌≡◌, ◌∙◌}
use Prim.Native.Nat.{◌<◌}
use native.Mathlib.Omega.{arith}
use borrow.Author.Rules.{rules}
use lib.ListN.{length, take, length-take}
use lib.Seq.{get_or-take}
use Rattle.std.specs.List.{sum_by}
use Rattle.std.proofs.Common.{tests}
use Rattle.std.proofs.lemmas.Iterator.{YieldsList-from_map, YieldsList-from_slice}
use Rattle.std.proofs.lemmas.Iterator.Adapters.{serves_from_places}
use Rattle.std.proofs.lemmas.Iterator.Consumers.{YieldsList-at, sum_by_from_yields_List, fits_by_from_yields_list}
use Rattle.maths.specs.Sums.{join}
use Rattle.off.specs.Exporting.{corner_line}
use Rattle.off.specs.Writing.{NearCorner}
use Rattle.off.proofs.lengths.LineLengths.{corners-sum, corners-most}
use Rattle.off.proofs.writer.Nearness.{corner_of, near-at, corner-at, line-at}
use Rattle.off.proofs.lengths.corners_length.Goals as goal
use Rattle.off.proofs.lengths.corners_length.Goals.{After-as_chunks}

-- how long the first n are together
sums : (c : After-as_chunks) → let a = c.args in
    sum_by (λ corner. length (corner_line corner 0)) (take a.n c.as_chunks.result.0.now) ≡ length (join a.n (corner_line a.list.now))
sums c =
    let long = c.as_chunks.ensures.front_len in
    corners-sum c.args.list.now c.as_chunks.result.0.now c.args.n (omega (arith, long, c.requires.size, c.requires.few))
    (line-at c.requires c.as_chunks.ensures.front)

pub sum-requires-clause-can : goal.sum-requires-clause-can
sum-requires-clause-can c =
    let chunks = c.as_chunks.result.0.now in
    let n = c.args.n in (
      tt,
      serves_from_places (YieldsList-at c.map.ensures.source (YieldsList-from_slice (take n chunks) cc)) (λ x q e. search rules) (λ x k l e.
          let below : k < n = omega (arith, l, length-take n chunks) in
          let is : x.now ≡ corner_of c.args.list.now k = e ∙ get_or-take n chunks k x.now below ∙ corner-at c.requires c.as_chunks.ensures.front k x.now below in
          let near : NearCorner x.now = rw is (near-at c.requires k below) in search (rules, near)),
    )

pub sum-requires-clause-fits : goal.sum-requires-clause-fits
sum-requires-clause-fits c =
    let corners = take c.args.n c.as_chunks.result.0.now in
    fits_by_from_yields_list (λ corner. length (corner_line corner 0)) corners c.map.result _
    (YieldsList-from_map _ (λ corner. length (corner_line corner 0)) (YieldsList-at c.map.ensures.source (YieldsList-from_slice corners cc))
    c.map.ensures.closure (λ x r q k. search (rules, tests)))
    (omega (arith, sums (goal.at.sum-requires-clause-fits c).After-as_chunks, corners-most c.args.list.now c.args.n, c.requires.few))

pub returns : goal.returns
returns c =
    let corners = take c.args.n c.as_chunks.result.0.now in
    sum_by_from_yields_List (λ corner. length (corner_line corner 0)) corners _ _ c.sum.ensures.ran
    (YieldsList-from_map _ (λ corner. length (corner_line corner 0)) (YieldsList-at c.map.ensures.source (YieldsList-from_slice corners cc))
    c.map.ensures.closure (λ x r q k. search (rules, tests)))
    ∙ sums (goal.at.returns c).After-as_chunks
