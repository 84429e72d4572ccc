-- `grid::sums::add_run` meets its contract: in turn i sum i is still the old one, and leaves room for an entry in a byte.
use native.Mathlib.Omega.{arith}
use lib.IntN.{ℤ}
use lib.ListN.{length-take, length-drop}
use Rattle.grid.proofs.Adding.{adding_begin, adding_more, adding_end, sum_fits, sum_is}
use Rattle.grid.proofs.sums.add_run.Goals as goal

pub loop-i-init : goal.loop-i-init
loop-i-init g c = adding_begin _ c.requires.addable.size

pub overflow_add-sums : goal.overflow_add-sums
overflow_add-sums g c = sum_fits c.loop-i.invariant c.requires.addable (omega (arith, length-take {A = ℤ})) _ c.requires.s_bound

pub loop-i-preserved : goal.loop-i-preserved
loop-i-preserved g c =
    adding_more c.loop-i.invariant _ (omega (arith, length-take {A = ℤ}))
    (sum_is c.loop-i.invariant c.requires.addable (omega (arith, length-take {A = ℤ})) _ c.requires.s_bound)

pub returns : goal.returns
returns g c = adding_end c.loop-i.invariant (omega (arith, length-take {A = ℤ}, length-drop {A = ℤ}))
