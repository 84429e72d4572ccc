-- `read_body`: the coordinates lie in the list, and then the rings are sewn on to the corners.
use mathlib.Core.Path.{◌≡◌, refl, sym, ◌∙◌}
use Prim.Native.Nat.{◌*◌}
use native.Mathlib.Omega.{arith}
use lib.ListN.{length, length-append, length-drop}
use Rattle.off.proofs.reader.Laid.{as_many, laid-over}
use Rattle.off.proofs.reader.TextAnswers.{ended, blank-sizes, blank-length, text-none, corners-room, no_corners, body_taken}
use Rattle.off.proofs.reader.read_body.Goals as goal
use Rattle.off.proofs.reader.read_body.Goals.{After-read_coordinates}

pub slice_bounds-read_coordinates-end : goal.slice_bounds-read_coordinates-end
slice_bounds-read_coordinates-end c = omega (arith, c.requires.few, blank-length c.requires.blanks)

pub slice_bounds-read_coordinates-end-2 : goal.slice_bounds-read_coordinates-end-2
slice_bounds-read_coordinates-end-2 c = sym (as_many c.args.list.now c.args.corners c.requires)

-- as many coordinates as are read
long : (c : After-read_coordinates) → length c.read_coordinates.new.list ≡ 3 * c.args.corners
long c = c.read_coordinates.auto.list ∙ as_many c.args.list.now c.args.corners c.requires

pub returns-in_err-rest : goal.returns-in_err-rest
returns-in_err-rest c =
    let B = c.requires.blanks in
    let none = c.in_err-rest.ensures.ok_part in
    let read = rw (none, as_many c.args.list.now c.args.corners c.requires) at c.read_coordinates.ensures in
    rw (ended none c.in_err-rest.ensures.value c.from_residual.ensures.1)
    (text-none (no_corners c.args.corners c.args.panels _ read) refl (blank-sizes B)
    (simp (length-append, length-drop) (omega (arith, long (goal.at.returns-in_err-rest c).After-read_coordinates, blank-length B, c.requires.few))))

-- no panel is drawn yet
pub read_end-requires : goal.read_end-requires
read_end-requires c =
    let B = c.requires.blanks in
    rw (B.none1, B.none2, B.none3) (corners-room c.args.corners c.args.panels c.requires.few c.requires.few-panels)

pub returns : goal.returns
returns c =
    let B = c.requires.blanks in
    let read = rw (c.in_ok-rest.ensures.ok_part, as_many c.args.list.now c.args.corners c.requires) at c.read_coordinates.ensures in
    body_taken c.args.corners c.args.panels c.args.s.now read c.requires.few
    (laid-over _ _ B.zeros (long (goal.at.returns c).After-read_coordinates) (omega (arith, c.requires.few)))
    (rw (B.none1, B.none2) at c.read_end.ensures)
