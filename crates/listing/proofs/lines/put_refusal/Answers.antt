-- `listing::lines::put_refusal` meets its contract: a fault's place follows its number, and any other refusal has none.
use mathlib.Core.Path.{sym, ◌∙◌}
use mathlib.Core.List.{append-nil}
use native.Mathlib.Omega.{arith}
use Rattle.maths.proofs.Buffers.{two_pieces}
use Rattle.rules.specs.Printed.{place_text}
use Rattle.listing.specs.Lines.{stop_text}
use Rattle.listing.proofs.lines.put_refusal.Goals as goal

pub overflow_cast-place : goal.overflow_cast-place
overflow_cast-place c =
    let small = c.requires.place_small (sym c.is_fault.ensures ∙ c.if-is_fault.true) in
    omega (arith, small)

pub returns-then-is_fault : goal.returns-then-is_fault
unfolding stop_text place_text
returns-then-is_fault c =
    let number = rw c.into.ensures at c.put_labelled-next.ensures in
    rw (sym c.is_fault.ensures ∙ c.if-is_fault.true)
    (record { put = two_pieces number.put c.put_labelled.ensures.put; most = omega arith })

pub returns : goal.returns
unfolding stop_text place_text
returns c =
    let number = rw c.into.ensures at c.put_labelled-next.ensures in
    rw (sym c.is_fault.ensures ∙ c.if-is_fault.false) (simp append-nil (record { put = number.put; most = omega arith }))
