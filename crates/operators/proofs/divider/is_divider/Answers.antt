-- `operators::divider::is_divider` meets its contract: the test of a seam asks more than that of a panel.
use Rattle.rules.specs.Calls.{coefficients}
use Rattle.operators.proofs.split.Edges.{improper, seam_tested, panel_tested}
use Rattle.operators.proofs.divider.is_divider.Goals as goal

pub returns-then-dim-ne2 : goal.returns-then-dim-ne2
returns-then-dim-ne2 c =
    let d = c.requires in
    panel_tested (coefficients c.args.v.now) d.0 d.1 c.is_proper.ensures c.if-is_proper.true c.if-dim-ne2.true

pub returns-else-dim-ne2 : goal.returns-else-dim-ne2
returns-else-dim-ne2 c =
    let d = c.requires in
    seam_tested (coefficients c.args.v.now) d.0 d.1 c.is_proper.ensures c.if-is_proper.true c.if-dim-ne2.false c.one_each.ensures

pub returns-else-is_proper : goal.returns-else-is_proper
returns-else-is_proper c =
    let d = c.requires in
    improper (coefficients c.args.v.now) d.0 d.1 c.is_proper.ensures c.if-is_proper.false
