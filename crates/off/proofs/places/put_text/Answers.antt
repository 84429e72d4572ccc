-- `off::places::put_text` meets its contract: the head, the corners and the rings are put one after the other.
use mathlib.Core.Path.{◌≡◌}
use Prim.Native.Nat.{◌+◌}
use native.Mathlib.Omega.{arith}
use lib.ListN.{length}
use Rattle.maths.specs.Sums.{join}
use Rattle.maths.proofs.Buffers.{two_pieces}
use Rattle.rules.specs.Counts.{count_of}
use Rattle.off.specs.Exporting.{corner_line, head_lines}
use Rattle.off.specs.Walking.{ring_lines}
use Rattle.off.specs.Writing.{text_by}
use Rattle.off.proofs.places.TextParts.{text-length-is}
use Rattle.off.proofs.places.put_text.Goals as goal
use Rattle.off.proofs.places.put_text.Goals.{Start}

-- how long the text is, by its parts
size : (s : Start) → let a = s.args in
    length (text_by a.c a.m2.now a.list.now a.ends.now)
    ≡ length (head_lines (count_of a.c 0) (count_of a.c 2) (count_of a.c 1)) + length (join (count_of a.c 0) (corner_line a.list.now))
    + length (ring_lines a.m2.now a.ends.now (count_of a.c 2))
size s = let a = s.args in text-length-is a.c a.m2.now a.ends.now a.list.now

pub put_head-corners-requires : goal.put_head-corners-requires
put_head-corners-requires c =
    let measured = c.requires.measured in
    record {
      few-corners = measured.near.few;
      few-panels = measured.panels.columns.few;
      few-seams = omega (arith, measured.seams, measured.panels.seams.few);
      room = omega (arith, size (goal.at.put_head-corners-requires c).Start, c.requires.room);
    }

pub put_corners-panels-requires : goal.put_corners-panels-requires
put_corners-panels-requires c =
    record {
      corners = c.requires.measured.near;
      room = omega (arith, size (goal.at.put_corners-panels-requires c).Start, c.requires.room, c.put_head-corners.ensures.place, c.put_head-corners.ensures.size);
    }

pub put_rings-requires : goal.put_rings-requires
put_rings-requires c =
    let upto = two_pieces c.put_head-corners.ensures c.put_corners-panels.ensures in
    record {
      there = c.requires.measured.panels;
      close = c.requires.close;
      room = omega (arith, size (goal.at.put_rings-requires c).Start, c.requires.room, c.put_head-corners.ensures.place, c.put_corners-panels.ensures.place, upto.size);
    }

pub returns : goal.returns
unfolding text_by
returns c =
    two_pieces c.put_head-corners.ensures (two_pieces c.put_corners-panels.ensures c.put_rings.ensures)
