-- `off::walks::set_next` meets its contract: the two tests are those of the entry, and each way has its store.
use mathlib.Core.Path.{◌≡◌, sym, ◌∙◌}
use mathlib.Core.Logic.{◌≢◌}
use mathlib.Core.Bool.{true, false}
use native.Mathlib.Omega.{arith}
use lib.IntN.{ℤ, pos}
use mir.Syntax.{w8}
use mir.Val.{SFits, of_z}
use borrow.Author.Tests.{eq-eqb, ne_eqb}
use Rattle.maths.specs.Tests.{eq_z, is_zero}
use Rattle.maths.proofs.Cases.{cond-true, cond-false}
use Rattle.maths.proofs.Sizes.{bits_eq}
use Rattle.off.proofs.walks.set_next.Goals as goal

module _ {z : ℤ} (f : SFits w8 z) (y : ℤ) (g : SFits w8 y) where
  is : of_z w8 z ≡ of_z w8 y → eq_z z y ≡ true
  is e = sym (bits_eq w8 f g) ∙ eq-eqb (of_z w8 z) (of_z w8 y) e

  is_not : of_z w8 z ≢ of_z w8 y → eq_z z y ≡ false
  is_not e = sym (bits_eq w8 f g) ∙ ne_eqb (of_z w8 z) (of_z w8 y) e

pub returns-then-z-eq0 : goal.returns-then-z-eq0
unfolding is_zero
returns-then-z-eq0 c = sym (cond-true _ _ (is c.ranges.z (pos 0) (record { sfits = omega arith }) c.if-z-eq0.true))

pub returns-then-z-eq1 : goal.returns-then-z-eq1
unfolding is_zero
returns-then-z-eq1 c =
    sym (cond-false _ _ (is_not c.ranges.z (pos 0) (record { sfits = omega arith }) c.if-z-eq0.false)
    ∙ cond-true _ _ (is c.ranges.z (pos 1) (record { sfits = omega arith }) c.if-z-eq1.true))

pub returns-else-z-eq1 : goal.returns-else-z-eq1
unfolding is_zero
returns-else-z-eq1 c =
    sym (cond-false _ _ (is_not c.ranges.z (pos 0) (record { sfits = omega arith }) c.if-z-eq0.false)
    ∙ cond-false _ _ (is_not c.ranges.z (pos 1) (record { sfits = omega arith }) c.if-z-eq1.false))
