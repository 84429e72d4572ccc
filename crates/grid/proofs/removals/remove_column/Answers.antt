-- `grid::removals::remove_column` meets its contract: before the place p the columns from c on are the next ones, and past the last is nothing.
use mathlib.Core.Path.{sym, ap, ◌∙◌}
use Prim.Native.Nat.{suc, ◌/◌, ◌%◌}
use native.Mathlib.Omega.{arith}
use mir.Syntax.{w8}
use borrow.Author.Tests.{lt-ltb, le-ltb}
use Rattle.maths.specs.Tables.{entries}
use Rattle.maths.proofs.Cases.{lt_or, cond-true, cond-false}
use Rattle.maths.proofs.Sizes.{back}
use Rattle.maths.proofs.Sums.{up_lt, up_ge, up-past}
use Rattle.maths.proofs.Sweep.{rest-place}
use Rattle.maths.proofs.Tables.{entries-out, tab_same}
use Rattle.grid.specs.Grid.{over, cleared_from, removed_column}
use Rattle.grid.proofs.Walks.{along_begin, along_store}
use Rattle.grid.proofs.removals.remove_column.Goals as goal

pub loop-p-init : goal.loop-p-init
unfolding removed_column
loop-p-init c = along_begin _ c.requires.size (omega arith) (λ i j hi h. sym (ap (entries _ i) (up_lt c.args.c j (omega arith))))

pub loop-p-preserved : goal.loop-p-preserved
unfolding removed_column
loop-p-preserved c =
    let p = c.loop-p.p in
    along_store c.loop-p.invariant _ (omega arith)
    (back w8 c.m-1.given
    ∙ rest-place c.loop-p.invariant.part (p % 96) (suc (p / 96)) _ (omega arith) (omega arith) (omega arith) (omega arith)
    ∙ sym (ap (entries _ (p % 96)) (up_ge c.args.c (p / 96) (omega arith))))

pub clear_from-requires : goal.clear_from-requires
clear_from-requires c = record { size = c.loop-p.invariant.part.size; inside = omega arith }

pub returns : goal.returns
unfolding over cleared_from removed_column
returns c =
    let x = c.args in
    c.clear_from.ensures
    ∙ tab_same λ i j hi hj. lt_or j 95
    (λ l. cond-true _ _ (lt-ltb j 95 l) ∙ c.loop-p.invariant.part.done i j hi hj (omega arith))
    (λ l. cond-false _ _ (le-ltb j 95 l) ∙ sym (entries-out x.m.now i _ (λ _. up-past x.c 96 j (omega arith) l)))
