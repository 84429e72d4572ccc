-- `off::places::put_corner` meets its contract: three numbers and the byte after each are put one after the other.
use mathlib.Core.Path.{◌≡◌}
use mathlib.Core.List.{List}
use Prim.Native.Nat.{ℕ, ◌+◌, ◌<◌, ◌≤◌}
use native.Mathlib.Omega.{arith}
use lib.IntN.{ℤ, pos}
use lib.ListN.{length, get_or}
use mir.Syntax.{w32}
use mir.Val.{to_z, of_z}
use Rattle.maths.specs.Buffers.{Put}
use Rattle.maths.proofs.Buffers.{two_pieces}
use Rattle.off.specs.Exporting.{signed, corner_line}
use Rattle.off.specs.Writing.{NearCorner}
use Rattle.off.proofs.lengths.LineLengths.{corner-length-is}
use Rattle.off.proofs.lengths.Signs.{near_back}
use Rattle.off.proofs.places.put_corner.Goals as goal
use Rattle.off.proofs.places.put_corner.Goals.{After-put_signed-after_x, After-put-blank, After-put_signed-after_y, After-put-blank-2, After-put_signed-after_z}

-- the text of a coordinate of the corner
abbrev coordinate : List ℤ → ℕ → List ℕ
coordinate corner k = signed (get_or corner k (pos 0))

-- a coordinate, read back from the machine's bits
read : {corner : List ℤ} → NearCorner corner → (k : ℕ) → k < 3 → to_z w32 (of_z w32 (get_or corner k (pos 0))) ≡ get_or corner k (pos 0)
read near k h = near_back _ (near.near k h)

-- what a call put
x-put : (c : After-put_signed-after_x) → let a = c.args in
    Put a.out.now a.at (coordinate a.corner.now 0) c.put_signed-after_x.result c.put_signed-after_x.new.out
x-put c = rw (read c.requires.near 0 (omega arith)) at c.put_signed-after_x.ensures

y-put : (c : After-put_signed-after_y) →
    Put c.put-blank.new.out c.put-blank.result (coordinate c.args.corner.now 1) c.put_signed-after_y.result c.put_signed-after_y.new.out
y-put c = rw (read c.requires.near 1 (omega arith)) at c.put_signed-after_y.ensures

z-put : (c : After-put_signed-after_z) →
    Put c.put-blank-2.new.out c.put-blank-2.result (coordinate c.args.corner.now 2) c.put_signed-after_z.result c.put_signed-after_z.new.out
z-put c = rw (read c.requires.near 2 (omega arith)) at c.put_signed-after_z.ensures

-- the room that is left after each coordinate
after-x : (c : After-put_signed-after_x) → let corner = c.args.corner.now in
    c.put_signed-after_x.result + (length (coordinate corner 1) + length (coordinate corner 2) + 3) ≤ length c.put_signed-after_x.new.out
after-x c = omega (arith, corner-length-is c.args.corner.now 0, c.requires.room, (x-put c).place, (x-put c).size)

after-y : (c : After-put_signed-after_y) → let corner = c.args.corner.now in
    c.put_signed-after_y.result + (length (coordinate corner 2) + 2) ≤ length c.put_signed-after_y.new.out
after-y c =
    let x : Put c.args.out.now c.args.at (coordinate c.args.corner.now 0) c.put_signed-after_x.result c.put_signed-after_x.new.out =
    rw (read c.requires.near 0 (omega arith)) at c.put_signed-after_x.ensures in
    omega (
      arith,
      corner-length-is c.args.corner.now 0,
      c.requires.room,
      x.place,
      x.size,
      c.put-blank.ensures.place,
      c.put-blank.ensures.size,
      (y-put c).place,
      (y-put c).size,
    )

pub put_signed-after_x-requires : goal.put_signed-after_x-requires
put_signed-after_x-requires c =
    rw (read c.requires.near 0 (omega arith))
    (record { near = c.requires.near.near 0 (omega arith); room = omega (arith, corner-length-is c.args.corner.now 0, c.requires.room) })

pub put-blank-requires : goal.put-blank-requires
put-blank-requires c = omega (arith, after-x (goal.at.put-blank-requires c).After-put_signed-after_x)

pub put_signed-after_y-requires : goal.put_signed-after_y-requires
put_signed-after_y-requires c =
    rw (read c.requires.near 1 (omega arith)) (record {
      near = c.requires.near.near 1 (omega arith);
      room = omega (arith, after-x (goal.at.put_signed-after_y-requires c).After-put_signed-after_x, c.put-blank.ensures.place, c.put-blank.ensures.size);
    })

pub put-blank-requires-2 : goal.put-blank-requires-2
put-blank-requires-2 c = omega (arith, after-y (goal.at.put-blank-requires-2 c).After-put_signed-after_y)

pub put_signed-after_z-requires : goal.put_signed-after_z-requires
put_signed-after_z-requires c =
    rw (read c.requires.near 2 (omega arith)) (record {
      near = c.requires.near.near 2 (omega arith);
      room = omega (arith, after-y (goal.at.put_signed-after_z-requires c).After-put_signed-after_y, c.put-blank-2.ensures.place, c.put-blank-2.ensures.size);
    })

pub put-requires : goal.put-requires
put-requires c =
    let z = z-put (goal.at.put-requires c).After-put_signed-after_z in
    omega (arith, after-y (goal.at.put-requires c).After-put_signed-after_y, c.put-blank-2.ensures.place, c.put-blank-2.ensures.size, z.place, z.size)

pub returns : goal.returns
unfolding corner_line
returns c =
    two_pieces (x-put (goal.at.returns c).After-put_signed-after_x)
    (two_pieces c.put-blank.ensures (two_pieces (y-put (goal.at.returns c).After-put_signed-after_y)
    (two_pieces c.put-blank-2.ensures (two_pieces (z-put (goal.at.returns c).After-put_signed-after_z) c.put.ensures))))
