-- `grid::removals::remove_row` meets its contract: row r is removed from the columns below j, and those from j on are still the old ones.
use mathlib.Core.Path.{sym, ◌∙◌}
use native.Mathlib.Omega.{arith}
use lib.Dec.{eqb}
use borrow.Author.Tests.{eqb-true, eqb-false}
use Rattle.maths.specs.Sums.{up}
use Rattle.maths.proofs.Sweep.{turn, finish_all}
use Rattle.maths.proofs.Tables.{in_or_out, entries-out}
use Rattle.grid.specs.Grid.{over, removed_in, removed_row}
use Rattle.grid.proofs.Walks.{along_begin}
use Rattle.grid.proofs.removals.remove_row.Goals as goal

pub loop-j-init : goal.loop-j-init
loop-j-init c = along_begin 0 c.requires.size (omega arith) (λ i j hi h. absurd (omega arith))

pub remove_in-requires : goal.remove_in-requires
remove_in-requires c = record { size = c.loop-j.invariant.part.size; first = omega arith; second = omega arith }

pub loop-j-preserved : goal.loop-j-preserved
unfolding over removed_in removed_row
loop-j-preserved c =
    let s = c.loop-j.invariant.part in
    let k = c.loop-j.j in
    let old = c.args.m.now in
    record {
      from = omega arith;
      upto = omega arith;
      part = turn (λ i j. eqb j k) _ s c.remove_in.ensures
          (λ i j hi hj e. rw (eqb-true j k e) (in_or_out (up c.args.r i) k
          (λ hi' hk. s.rest _ k hi' hk (omega arith))
          (λ o. entries-out c.loop-j.m _ k o ∙ sym (entries-out old _ k o))))
          (omega (arith, eqb-true))
          (omega (arith, eqb-false))
          (omega arith);
    }

pub returns : goal.returns
unfolding over
returns c = finish_all c.loop-j.invariant.part (omega arith)
