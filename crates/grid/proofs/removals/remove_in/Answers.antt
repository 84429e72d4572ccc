-- `grid::removals::remove_in` meets its contract: in column c the rows from r up to i are the next ones, and past the last is nothing.
use mathlib.Core.Path.{◌≡◌, sym, ap, ◌∙◌}
use Prim.Native.Nat.{suc}
use native.Mathlib.Omega.{arith}
use lib.IntN.{pos}
use lib.ListN.{length-set}
use mir.Syntax.{w8}
use Rattle.maths.specs.Tables.{entries}
use Rattle.maths.proofs.Sizes.{back}
use Rattle.maths.proofs.Sums.{up_lt, up_ge, up-past}
use Rattle.maths.proofs.Sweep.{rest-place}
use Rattle.maths.proofs.Tables.{entries-out}
use Rattle.grid.specs.Grid.{over, removed_in}
use Rattle.grid.proofs.Walks.{down_from, down_store, down_end}
use Rattle.grid.proofs.removals.remove_in.Goals as goal

pub loop-i-init : goal.loop-i-init
loop-i-init c =
    let x = c.args in
    record {
      from = omega arith;
      upto = omega arith;
      down = down_from x.c x.r c.requires.size c.requires.first (omega arith)
          (λ k h. sym (ap (λ i. entries x.m.now i x.c) (up_lt x.r k h)));
    }

pub loop-i-preserved : goal.loop-i-preserved
loop-i-preserved c =
    let x = c.args in
    let s = c.loop-i.invariant.down in
    let i = c.loop-i.i in
    record {
      from = omega arith;
      upto = omega arith;
      down = down_store s _ (omega arith)
          (back w8 c.m-1.given
          ∙ rest-place s.part (suc i) x.c _ (omega arith) (omega arith) (omega arith) (omega arith)
          ∙ sym (ap (λ i. entries x.m.now i x.c) (up_ge x.r i (omega arith))));
    }

pub shape_of-m : goal.shape_of-m
shape_of-m c = simp length-set (omega arith)

pub returns : goal.returns
unfolding over removed_in
returns c =
    let x = c.args in
    let e : c.loop-i.i ≡ 95 = omega arith in
    down_end (down_store (rw e at c.loop-i.invariant.down) (pos 0) (omega arith)
    (sym (entries-out x.m.now _ x.c (omega (arith, up-past x.r 96 95 (omega arith) (omega arith)))))) (omega arith)
