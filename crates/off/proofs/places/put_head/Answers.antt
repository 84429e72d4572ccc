-- `off::places::put_head` meets its contract: the keyword, three numbers and the byte after each are put one after the other.
use Prim.Native.Nat.{◌+◌, ◌≤◌}
use native.Mathlib.Omega.{arith}
use lib.ListN.{length}
use Rattle.maths.proofs.Buffers.{two_pieces}
use Rattle.off.specs.Exporting.{number, head_lines}
use Rattle.off.proofs.lengths.LineLengths.{head-length-is}
use Rattle.off.proofs.places.put_head.Goals as goal
use Rattle.off.proofs.places.put_head.Goals.{After-put-after_a, After-put-after_b, After-put_all-first, After-put_number-a, After-put_number-b}

-- the room that is left after each call
after-keyword : (c : After-put_all-first) → let a = c.args in
    c.put_all-first.result + (length (number a.corners) + length (number a.panels) + length (number a.seams) + 3) ≤ length c.put_all-first.new.out
after-keyword c =
    let a = c.args in
    omega (arith, head-length-is a.corners a.panels a.seams, c.requires.room, c.put_all-first.ensures.place, c.put_all-first.ensures.size)

after-corners : (c : After-put_number-a) → let a = c.args in
    c.put_number-a.result + (length (number a.panels) + length (number a.seams) + 3) ≤ length c.put_number-a.new.out
after-corners c =
    let a = c.args in
    omega (
      arith,
      head-length-is a.corners a.panels a.seams,
      c.requires.room,
      c.put_all-first.ensures.place,
      c.put_all-first.ensures.size,
      c.put_number-a.ensures.place,
      c.put_number-a.ensures.size,
    )

after-blank : (c : After-put-after_a) → let a = c.args in
    c.put-after_a.result + (length (number a.panels) + length (number a.seams) + 2) ≤ length c.put-after_a.new.out
after-blank c =
    let a = c.args in
    omega (
      arith,
      head-length-is a.corners a.panels a.seams,
      c.requires.room,
      c.put_all-first.ensures.place,
      c.put_all-first.ensures.size,
      c.put_number-a.ensures.place,
      c.put_number-a.ensures.size,
      c.put-after_a.ensures.place,
      c.put-after_a.ensures.size,
    )

after-panels : (c : After-put_number-b) → let a = c.args in
    c.put_number-b.result + (length (number a.seams) + 2) ≤ length c.put_number-b.new.out
after-panels c =
    let a = c.args in
    omega (
      arith,
      head-length-is a.corners a.panels a.seams,
      c.requires.room,
      c.put_all-first.ensures.place,
      c.put_all-first.ensures.size,
      c.put_number-a.ensures.place,
      c.put_number-a.ensures.size,
      c.put-after_a.ensures.place,
      c.put-after_a.ensures.size,
      c.put_number-b.ensures.place,
      c.put_number-b.ensures.size,
    )

after-blank2 : (c : After-put-after_b) → c.put-after_b.result + (length (number c.args.seams) + 1) ≤ length c.put-after_b.new.out
after-blank2 c =
    let a = c.args in
    omega (
      arith,
      head-length-is a.corners a.panels a.seams,
      c.requires.room,
      c.put_all-first.ensures.place,
      c.put_all-first.ensures.size,
      c.put_number-a.ensures.place,
      c.put_number-a.ensures.size,
      c.put-after_a.ensures.place,
      c.put-after_a.ensures.size,
      c.put_number-b.ensures.place,
      c.put_number-b.ensures.size,
      c.put-after_b.ensures.place,
      c.put-after_b.ensures.size,
    )

pub put_all-first-requires : goal.put_all-first-requires
put_all-first-requires c =
    let a = c.args in
    omega (arith, head-length-is a.corners a.panels a.seams, c.requires.room)

pub put_number-a-requires : goal.put_number-a-requires
put_number-a-requires c =
    record { small = omega (arith, c.requires.few-corners); room = omega (arith, after-keyword (goal.at.put_number-a-requires c).After-put_all-first) }

pub put_number-b-requires : goal.put_number-b-requires
put_number-b-requires c =
    record { small = omega (arith, c.requires.few-panels); room = omega (arith, after-blank (goal.at.put_number-b-requires c).After-put-after_a) }

pub put_number-d-requires : goal.put_number-d-requires
put_number-d-requires c =
    record { small = omega (arith, c.requires.few-seams); room = omega (arith, after-blank2 (goal.at.put_number-d-requires c).After-put-after_b) }

pub put-after_a-requires : goal.put-after_a-requires
put-after_a-requires c = omega (arith, after-corners (goal.at.put-after_a-requires c).After-put_number-a)

pub put-after_b-requires : goal.put-after_b-requires
put-after_b-requires c = omega (arith, after-panels (goal.at.put-after_b-requires c).After-put_number-b)

pub put-requires : goal.put-requires
put-requires c =
    omega (arith, after-blank2 (goal.at.put-requires c).After-put-after_b, c.put_number-d.ensures.place, c.put_number-d.ensures.size)

pub returns : goal.returns
unfolding head_lines
returns c =
    two_pieces c.put_all-first.ensures (two_pieces c.put_number-a.ensures (two_pieces c.put-after_a.ensures
    (two_pieces c.put_number-b.ensures (two_pieces c.put-after_b.ensures (two_pieces c.put_number-d.ensures c.put.ensures)))))
