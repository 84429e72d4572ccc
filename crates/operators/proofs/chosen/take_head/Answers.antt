-- `operators::chosen::take_head` meets its contract: after i turns the first i entries are those of the part.
use mathlib.Core.Path.{ap, ◌∙◌}
use native.Mathlib.Omega.{arith}
use lib.IntN.{pos}
use lib.ListN.{get_or}
use mir.Syntax.{w8}
use mir.Val.{to_z, bool_byte}
use Rattle.maths.proofs.Sizes.{bits_eq}
use Rattle.maths.proofs.Tables.{is-table}
use Rattle.maths.proofs.Sweep.{filled_more}
use Rattle.rules.specs.Calls.{coefficients}
use Rattle.operators.proofs.chosen.Parts.{head_entry}
use Rattle.operators.proofs.chosen.take_head.Goals as goal

pub loop-i-preserved : goal.loop-i-preserved
loop-i-preserved c =
    let x = get_or c.args.column.now c.loop-i.i (pos 0) in
    filled_more _ c.loop-i.invariant (omega (arith, c.loop-i.invariant.long))
    (ap (λ b. to_z w8 (bool_byte b)) (bits_eq w8 {x = x} {y = pos 1} (record { sfits = omega arith }) (record { sfits = omega arith }))
    ∙ head_entry (coefficients c.args.column.now) c.loop-i.i)

pub returns : goal.returns
returns c = is-table (pos 0) c.loop-i.invariant.long (λ k h. c.loop-i.invariant.done k (omega arith))
