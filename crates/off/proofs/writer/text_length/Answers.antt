-- `off::writer::text_length` meets its contract: each test refuses the text by itself, and past them the length is that of the three parts.
use mathlib.Core.Path.{◌≡◌, sym, ◌∙◌}
use mathlib.Core.Bool.{true}
use Prim.Native.Nat.{◌+◌, ◌≤◌}
use native.Mathlib.Omega.{arith}
use lib.ListN.{length}
use Rattle.maths.specs.Tests.{all}
use Rattle.rules.specs.Counts.{count_of}
use Rattle.off.specs.Walking.{panel_closes, ring_lines}
use Rattle.off.specs.Writing.{text_by}
use Rattle.off.proofs.lengths.LineLengths.{corners-most, head-most}
use Rattle.off.proofs.walks.Answered.{answered, not_answered}
use Rattle.off.proofs.walks.Measuring.{lines-most}
use Rattle.off.proofs.places.TextParts.{some_block, not-sewn, not_alone, not_closing, all_plain, text-length-is}
use Rattle.off.proofs.writer.text_length.Goals as goal
use Rattle.off.proofs.writer.text_length.Goals.{In_ok-rings, After-corners_length, then-n-ne0-via-then-n-ne0, then-n-ne0-via-else-n-ne0+then-not-all_sewn, then-n-ne0-via-else-n-ne0+else-not-all_sewn+then-not-all_alone}

pub returns-then-n-ne0 : goal.returns-then-n-ne0
returns-then-n-ne0 c =
    let a = c.args in
    elim c.then-n-ne0.branch [
      | then-n-ne0-via-then-n-ne0 w ↦ rw (some_block a.c a.m2.now a.ends.now w.if-n-ne0.true)
      | then-n-ne0-via-else-n-ne0+then-not-all_sewn w ↦
          rw (not-sewn a.c a.m2.now a.ends.now (sym w.all_sewn.ensures ∙ w.if-not-all_sewn.true))
      | then-n-ne0-via-else-n-ne0+else-not-all_sewn+then-not-all_alone w ↦
          rw (not_alone a.c a.m2.now a.ends.now (rw c.requires.seams at (sym w.all_alone.ensures ∙ w.if-not-all_alone.true)))
    ]

pub returns-in_err-rings : goal.returns-in_err-rings
returns-in_err-rings c =
    let a = c.args in
    rw (c.from_residual.ensures, not_closing a.c a.m2.now a.ends.now (not_answered _ _ (sym c.rings_length.ensures ∙ c.in_err-rings.was)))

-- all panels close up, and how long their lines are
rings : (c : In_ok-rings) → let a = c.args in
    (all (count_of a.c 2) (panel_closes a.m2.now a.ends.now) ≡ true) × (c.in_ok-rings.rings ≡ length (ring_lines a.m2.now a.ends.now (count_of a.c 2)))
rings c = answered _ (sym c.rings_length.ensures ∙ c.in_ok-rings.was)

-- how long the three parts are together
parts : (c : After-corners_length) → let a = c.args in
    c.head_length.result + c.corners_length.result + c.in_ok-rings.rings ≡ length (text_by a.c a.m2.now a.list.now a.ends.now)
parts c =
    let a = c.args in
    let lines = (answered _ (sym c.rings_length.ensures ∙ c.in_ok-rings.was)).1 in
    omega (arith, text-length-is a.c a.m2.now a.ends.now a.list.now, c.head_length.ensures, c.corners_length.ensures, lines)

small : (c : After-corners_length) → c.head_length.result + c.corners_length.result + c.in_ok-rings.rings ≤ 77116
small c =
    let a = c.args in
    let pre = c.requires in
    omega (
      arith,
      parts c,
      text-length-is a.c a.m2.now a.ends.now a.list.now,
      head-most (count_of a.c 0) (count_of a.c 2) (count_of a.c 1),
      corners-most a.list.now (count_of a.c 0),
      lines-most a.m2.now a.ends.now (count_of a.c 2),
      pre.near.few,
      pre.panels.columns.few,
    )

pub returns : goal.returns
returns c =
    let a = c.args in
    let plain =
    all_plain a.c a.m2.now a.ends.now c.if-n-ne0.false (sym c.all_sewn.ensures ∙ c.if-not-all_sewn.false)
    (rw c.requires.seams at (sym c.all_alone.ensures ∙ c.if-not-all_alone.false)) (rings (goal.at.returns c).In_ok-rings).0 in
    rw (plain, parts (goal.at.returns c).After-corners_length)

pub overflow_add-result : goal.overflow_add-result
overflow_add-result c = omega (arith, small (goal.at.overflow_add-result c).After-corners_length)

pub overflow_add-result-2 : goal.overflow_add-result-2
overflow_add-result-2 c = omega (arith, small (goal.at.overflow_add-result-2 c).After-corners_length)
