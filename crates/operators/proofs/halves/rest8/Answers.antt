-- `operators::halves::rest8` meets its contract: the two sides of its test are those of the definition.
use mathlib.Core.Path.{◌≡◌, refl, ◌∙◌}
use lib.Dec.{eqb}
use lib.IntN.{ℤ}
use borrow.Author.Tests.{eq-eqb, ne_eqb}
use native.Mathlib.Omega.{arith}
use mir.Facts.{to_z-of_z}
use mir.Syntax.{w8}
use mir.Val.{of_z, SFits}
use Rattle.maths.proofs.Sizes.{bits_eq}
use Rattle.maths.specs.Tests.{is_zero}
use Rattle.operators.proofs.halves.rest8.Goals as goal

-- the machine's test for 0
zero_bits : {x : ℤ} → SFits w8 x → eqb (of_z w8 x) 0 ≡ is_zero x
unfolding is_zero
zero_bits f = bits_eq w8 f (record { sfits = omega arith })

pub returns-then-taken-eq0 : goal.returns-then-taken-eq0
returns-then-taken-eq0 c = to_z-of_z c.ranges.x ∙ rw (← zero_bits c.ranges.taken, eq-eqb _ 0 c.if-taken-eq0.true) refl

pub returns-else-taken-eq0 : goal.returns-else-taken-eq0
returns-else-taken-eq0 c = rw (← zero_bits c.ranges.taken, ne_eqb _ 0 c.if-taken-eq0.false) refl
