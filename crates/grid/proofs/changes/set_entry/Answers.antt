-- `grid::changes::set_entry` meets its contract: one place is stored, and every other entry is the old one.
use mathlib.Core.Path.{◌≡◌, refl}
use native.Mathlib.Omega.{arith}
use lib.Dec.{eqb}
use mir.Facts.{to_z-of_z}
use borrow.Author.Tests.{eqb-true, eqb-false}
use Rattle.maths.proofs.Cases.{is-cond}
use Rattle.maths.proofs.Sweep.{begin, store, finish}
use Rattle.grid.specs.Grid.{over, with_entry}
use Rattle.grid.proofs.changes.set_entry.Goals as goal

pub returns : goal.returns
unfolding over with_entry
returns c =
    let x = c.args in
    let s = store {P = λ i j. ⊥} {P' = λ i j. (j ≡ x.c) × (i ≡ x.r)} {new = λ i j. x.z} x.r x.c _
    (begin c.requires.size (λ i j hi hj e. e)) c.requires.first c.requires.second (to_z-of_z c.ranges.z) (refl, refl)
    (λ i j hi hj e y. omega arith) (λ i j hi hj e y. absurd y) in
    finish s λ i j hi hj. is-cond (eqb j x.c)
    (λ e. is-cond (eqb i x.r) (λ f. s.done i j hi hj (omega (arith, eqb-true))) (λ f. s.rest i j hi hj (omega (arith, eqb-false))))
    (λ e. s.rest i j hi hj (omega (arith, eqb-false)))
