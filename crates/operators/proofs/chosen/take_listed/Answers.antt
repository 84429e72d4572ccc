-- `operators::chosen::take_listed` meets its contract: after l turns the first l listed faces are marked.
use mathlib.Core.Path.{refl}
use native.Mathlib.Omega.{arith}
use lib.IntN.{pos}
use lib.ListN.{get_or}
use mir.Syntax.{w8}
use Rattle.maths.proofs.Sizes.{back}
use Rattle.grid.proofs.Summing.{blank}
use Rattle.operators.proofs.chosen.Parts.{mark_begin, mark_more, mark_end}
use Rattle.operators.proofs.chosen.take_listed.Goals as goal

pub loop-i-init : goal.loop-i-init
loop-i-init c = mark_begin blank

pub loop-i-preserved : goal.loop-i-preserved
loop-i-preserved c =
    let i = get_or c.args.faces.now c.loop-i.i-index 0 in
    mark_more {i = i} c.loop-i.invariant (omega arith) refl (omega (arith, c.requires.few c.loop-i.i-index 0))
    (back w8 {z = get_or c.args.column.now i (pos 0)} (omega arith))

pub returns : goal.returns
returns c = mark_end c.loop-i.invariant (omega arith)
