-- `off::walks::rings_length` meets its contract: the panels before j close up, and the length is that of their lines.
use mathlib.Core.Path.{◌≡◌, sym, ◌∙◌}
use mathlib.Core.Bool.{true}
use native.Mathlib.Omega.{arith}
use lib.ListN.{length}
use Rattle.maths.proofs.Tests.{all-not}
use Rattle.off.specs.Exporting.{ring_line}
use Rattle.off.specs.Walking.{panel_closes, panel_ring}
use Rattle.off.proofs.walks.Answered.{answered, not_answered}
use Rattle.off.proofs.walks.Measuring.{measuring_none, measuring_fits, measuring_more}
use Rattle.off.proofs.walks.rings_length.Goals as goal
use Rattle.off.proofs.walks.rings_length.Goals.{In_ok-length}

pub loop-j-init : goal.loop-j-init
loop-j-init c = measuring_none

-- panel j closes up, and how long its line is
line : (c : In_ok-length) → let a = c.args in
    (panel_closes a.m2.now a.ends.now c.loop-j.j ≡ true) × (c.in_ok-length.field-0 ≡ length (ring_line (panel_ring a.m2.now a.ends.now c.loop-j.j)))
line c = answered _ (sym c.line_length.ensures ∙ c.in_ok-length.was)

pub overflow_add-length : goal.overflow_add-length
overflow_add-length c =
    let most = measuring_fits c.loop-j.invariant (line (goal.at.overflow_add-length c).In_ok-length).1 in
    omega (arith, most, c.requires.columns.few)

pub loop-j-preserved : goal.loop-j-preserved
loop-j-preserved c =
    let t = line (goal.at.loop-j-preserved c).In_ok-length in measuring_more c.loop-j.invariant t.1 t.0

pub returns-in_err-length : goal.returns-in_err-length
returns-in_err-length c =
    let a = c.args in
    let none = not_answered _ _ (sym c.line_length.ensures ∙ c.in_err-length.was) in
    rw (c.from_residual.ensures, all-not a.panels (panel_closes a.m2.now a.ends.now) c.loop-j.j (omega arith) none)
