-- `coordinate` skips blanks, and a minus is met or not; a coordinate fits 32 bits with either sign.
use Rattle.std.proofs.Common.{arith, refl, ◌∙◌}
use mir.Syntax.{w32}
use Rattle.maths.proofs.Sizes.{neg_is}
use Rattle.off.specs.Words.{number_here}
use Rattle.off.proofs.words.Texts.{coordinate-minus, coordinate_plain}
use Rattle.off.proofs.words.Numbers.{limited_none, negated}
use Rattle.off.proofs.words.coordinate.Goals as goal

pub returns-in_default : goal.returns-in_default
returns-in_default c =
    c.limited.ensures ∙ coordinate_plain c.args.s.now c.skip_blanks-here.result.now c.skip_blanks-here.ensures c.in_default.ensures.cases

pub returns-in_err-z : goal.returns-in_err-z
returns-in_err-z c =
    let cut = c.in-Some.ensures.cases in
    rw (c.from_residual.ensures) (
    limited_none (number_here c.in-Some.after.now) c.in_err-z.ensures
    ∙ rw (cut.1) (coordinate-minus c.args.s.now c.skip_blanks-here.result.now c.skip_blanks-here.ensures cut.0))

pub returns : goal.returns
returns c =
    let cut = c.in-Some.ensures.cases in
    let N = negated c.in_ok-z.z c.in_ok-z.rest.now (number_here c.in-Some.after.now) c.in_ok-z.ensures in
    rw (neg_is w32 {x = c.in_ok-z.z} refl (omega (arith, N.near)))
    (N.is ∙ rw (cut.1) (coordinate-minus c.args.s.now c.skip_blanks-here.result.now c.skip_blanks-here.ensures cut.0))
