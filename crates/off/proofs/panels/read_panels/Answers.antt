-- `read_panels` reads as `several` does, and each ring is sewn on to what the rings before it came to.
use mathlib.Core.Path.{◌∙◌}
use Prim.Native.Nat.{ℕ}
use native.Mathlib.Omega.{arith}
use lib.ListN.{length-replicate}
use Rattle.off.specs.Plain.{ring}
use Rattle.off.proofs.lines.Several.{no_more}
use Rattle.off.proofs.panels.PanelsGoing.{going_none, going_done, going_on, going_past}
use Rattle.off.proofs.panels.read_panels.Goals as goal
use Rattle.off.proofs.panels.read_panels.Goals.{in-Ok, in_default}

pub loop-init : goal.loop-init
loop-init c = going_none c.requires c.args.s.now (length-replicate {A = ℕ} 96 0)

pub read_ring-requires : goal.read_ring-requires
read_ring-requires c = record { room = c.loop.invariant.room; small = c.requires.drawn.held.good.few 0 }

pub returns-in_err-read : goal.returns-in_err-read
returns-in_err-read c =
    let I = c.loop.invariant in
    rw c.from_residual.ensures (record { sizes = I.stands.sizes; is = no_more ring I.sofar c.loop-test.true c.in_err-read.ensures })

pub loop-preserved : goal.loop-preserved
loop-preserved c =
    let room = c.read_ring.auto.bytes ∙ c.loop.invariant.room in
    elim c.match-sewn.branch [
      | in-Ok w ↦ rw (w.m1-is, w.m2-is, w.m3-is, w.sewn-is) (going_on c.loop-test.true c.in_ok-read.ensures room (rw w.in-Ok.is at c.loop.invariant) c.requires.few w.sew_next-sewn.ensures)
      | in_default w ↦ rw (w.m1-is, w.m2-is, w.m3-is, w.sewn-is, w.in_default.is) (going_past c.loop-test.true c.in_ok-read.ensures room (rw w.in_default.is at c.loop.invariant))
    ]

pub returns : goal.returns
returns c = record { sizes = c.loop.invariant.stands.sizes; is = going_done c.loop.invariant (omega arith) }
