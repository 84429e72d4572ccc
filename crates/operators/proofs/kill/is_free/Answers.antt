-- `operators::kill::is_free` meets its contract: the matrix above has the row that is tested, and above blocks there is nothing.
use mathlib.Core.Path.{◌≡◌, sym}
use native.Mathlib.Omega.{arith}
use Rattle.rules.specs.Good.{all_zero}
use Rattle.maths.proofs.Tests.{all_of, zero_is}
use Rattle.operators.proofs.kill.is_free.Goals as goal

pub returns-in-0 : goal.returns-in-0
unfolding all_zero
returns-in-0 c = rw c.in-0.is c.row_zero.ensures

pub returns-in-1 : goal.returns-in-1
unfolding all_zero
returns-in-1 c = rw c.in-1.is c.row_zero-in-1.ensures

pub returns-in-2 : goal.returns-in-2
unfolding all_zero
returns-in-2 c = rw c.in-2.is c.row_zero-in-2.ensures

pub returns-in_default : goal.returns-in_default
unfolding all_zero
returns-in_default c =
    let e : c.args.dim ≡ 3 = omega (arith, c.requires.range.high) in
    rw e (sym (all_of 96 (λ i h. zero_is)))
