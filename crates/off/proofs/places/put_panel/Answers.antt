-- `off::places::put_panel` meets its contract: it was gone round the panel, so the line is that of its ring.
use mathlib.Core.Path.{◌≡◌, sym, ◌∙◌}
use Prim.Native.Nat.{◌≤◌}
use lib.ListN.{length, replicate}
use lib.Seq.{length-take-le}
use Rattle.maths.specs.Tables.{column}
use Rattle.rules.specs.Mesh.{face_count}
use Rattle.off.proofs.walks.Measuring.{few-seams}
use Rattle.off.proofs.walks.PanelWalk.{panel-went, panel-corners, panel-is}
use Rattle.off.proofs.places.put_panel.Goals as goal
use Rattle.off.proofs.places.put_panel.Goals.{After-column_count, After-go_round}

few : (c : After-column_count) → c.column_count.result ≤ 96
few c = rw c.column_count.ensures (few-seams c.args.m2.now c.args.j)

pub slice_bounds-bytes-end : goal.slice_bounds-bytes-end
slice_bounds-bytes-end c = few (goal.at.slice_bounds-bytes-end c).After-column_count

pub slice_bounds-ring-end : goal.slice_bounds-ring-end
slice_bounds-ring-end c =
    sym (length-take-le c.column_count.result (replicate 96 0) (few (goal.at.slice_bounds-ring-end c).After-column_count))

long : (c : After-go_round) → length c.go_round.new.ring ≡ face_count (column c.args.m2.now c.args.j)
long c =
    let n = c.column_count.result in
    let few : n ≤ 96 = rw c.column_count.ensures (few-seams c.args.m2.now c.args.j) in
    c.go_round.auto.ring ∙ length-take-le n (replicate 96 0) few ∙ c.column_count.ensures

pub put_ring-requires : goal.put_ring-requires
put_ring-requires c =
    let pre = c.requires in
    let n = long (goal.at.put_ring-requires c).After-go_round in
    let went = panel-went pre.panel c.go_round.ensures n pre.closes in
    record {
      corners = panel-corners pre.panel c.go_round.ensures n went;
      room = rw (panel-is pre.panel c.go_round.ensures n went) pre.room;
    }

pub returns : goal.returns
returns c =
    let pre = c.requires in
    let n = long (goal.at.returns c).After-go_round in
    let went = panel-went pre.panel c.go_round.ensures n pre.closes in
    rw (← panel-is pre.panel c.go_round.ensures n went) c.put_ring.ensures
