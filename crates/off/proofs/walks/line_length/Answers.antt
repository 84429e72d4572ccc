-- `off::walks::line_length` meets its contract: a panel that is one ring was gone round, and its corners are distinct.
use mathlib.Core.Path.{◌≡◌, sym, ◌∙◌}
use Prim.Native.Nat.{◌≤◌}
use lib.ListN.{length, replicate}
use lib.Seq.{length-take-le}
use Rattle.maths.specs.Tables.{column}
use Rattle.rules.specs.Mesh.{face_count}
use Rattle.off.proofs.walks.Measuring.{few-seams}
use Rattle.off.proofs.walks.PanelWalk.{panel-open, panel-tells, panel-corners, panel-is}
use Rattle.off.proofs.walks.line_length.Goals as goal
use Rattle.off.proofs.walks.line_length.Goals.{After-column_count, After-go_round, then-not-go_round-via-then-not-go_round, then-not-go_round-via-else-not-go_round+then-not-is_ring}

few : (c : After-column_count) → c.column_count.result ≤ 96
few c = rw c.column_count.ensures (few-seams c.args.m2.now c.args.j)

pub slice_bounds-bytes-end : goal.slice_bounds-bytes-end
slice_bounds-bytes-end c = few (goal.at.slice_bounds-bytes-end c).After-column_count

pub slice_bounds-ring-end : goal.slice_bounds-ring-end
slice_bounds-ring-end c =
    sym (length-take-le c.column_count.result (replicate 96 0) (few (goal.at.slice_bounds-ring-end c).After-column_count))

-- as many bytes as the panel has seams
long : (c : After-go_round) → length c.go_round.new.ring ≡ face_count (column c.args.m2.now c.args.j)
long c =
    let n = c.column_count.result in
    let few : n ≤ 96 = rw c.column_count.ensures (few-seams c.args.m2.now c.args.j) in
    c.go_round.auto.ring ∙ length-take-le n (replicate 96 0) few ∙ c.column_count.ensures

pub is_ring-requires : goal.is_ring-requires
is_ring-requires c =
    let n = long (goal.at.is_ring-requires c).After-go_round in
    panel-corners c.requires c.go_round.ensures n c.if-not-go_round.false

pub ring_length-requires : goal.ring_length-requires
ring_length-requires c =
    let n = long (goal.at.ring_length-requires c).After-go_round in
    panel-corners c.requires c.go_round.ensures n c.if-not-go_round.false

pub returns-then-not-go_round : goal.returns-then-not-go_round
returns-then-not-go_round c =
    let n = long (goal.at.returns-then-not-go_round c).After-go_round in
    let W = c.go_round.ensures in
    elim c.then-not-go_round.branch [
      | then-not-go_round-via-then-not-go_round w ↦ rw (panel-open c.requires W n w.if-not-go_round.true)
      | then-not-go_round-via-else-not-go_round+then-not-is_ring w ↦
          rw (panel-tells c.requires W n w.if-not-go_round.false ∙ sym w.is_ring.ensures ∙ w.if-not-is_ring.true)
    ]

pub returns : goal.returns
returns c =
    let n = long (goal.at.returns c).After-go_round in
    let W = c.go_round.ensures in
    let went = c.if-not-go_round.false in
    let closes = panel-tells c.requires W n went ∙ sym c.is_ring.ensures ∙ c.if-not-is_ring.false in
    rw (closes, c.ring_length.ensures, ← panel-is c.requires W n went)
