-- `read_coordinates` turns as `several` does, and the coordinates that were read stand in the list from its front on.
use Rattle.std.proofs.Common.{◌≡◌, ◌<◌, length, arith, ◌∙◌, ap, sym}
use Rattle.std.proofs.Math.Numerals.{add-one}
use Rattle.std.proofs.Math.Seq.{take-suc-set}
use Rattle.std.proofs.lemmas.List.{take_all}
use mir.Syntax.{w32}
use mir.Val.{to_z, of_z}
use Rattle.maths.proofs.Sizes.{back}
use Rattle.off.specs.Words.{coordinate, found}
use Rattle.off.proofs.lines.Several.{none_yet, one_more_lem, no_more, all_read}
use Rattle.off.proofs.lines.read_coordinates.Goals as goal

pub loop-place-init : goal.loop-place-init
loop-place-init c = none_yet coordinate _ _

pub returns-in_err-z : goal.returns-in_err-z
returns-in_err-z c = rw c.from_residual.ensures (no_more coordinate c.loop-place.invariant c.loop-place-test.true (sym c.in_err-z.ensures))

pub loop-place-preserved : goal.loop-place-preserved
loop-place-preserved c =
    let loop = c.loop-place in
    let z = c.in_ok-z.z in
    let stored : to_z w32 (of_z w32 z) ≡ z = back w32 (omega arith) in
    let inside : loop.place-index < length loop.list = omega arith in
    rw (stored, add-one, take-suc-set, ← add-one) (one_more_lem coordinate loop.invariant c.loop-place-test.true (sym c.in_ok-z.ensures))

pub returns : goal.returns
returns c =
    let loop = c.loop-place in
    all_read coordinate loop.invariant (omega arith) ∙ ap (λ l. found l loop.rest.now) (take_all loop.place-index loop.list (omega arith))
