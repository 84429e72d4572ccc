-- `grid::changes::negate_column` meets its contract: the first entries of the column are negated.
use mathlib.Core.Path.{◌≡◌, refl, ◌∙◌}
use mathlib.Core.List.{List}
use Prim.Native.Nat.{ℕ, ◌+◌, ◌*◌, ◌<◌}
use native.Mathlib.Omega.{arith}
use lib.Dec.{eqb}
use lib.IntN.{ℤ, pos}
use lib.ListN.{length, get_or, length-take}
use mir.Syntax.{w8}
use Rattle.std.specs.List.{between}
use Rattle.std.proofs.lemmas.List.Edits.{length-between}
use Rattle.maths.specs.Tables.{entries}
use Rattle.maths.proofs.Cases.{cond_same}
use Rattle.maths.proofs.Sizes.{neg_fits, neg_is}
use Rattle.maths.proofs.Sweep.{Filled, filled_none, filled_more}
use Rattle.maths.proofs.Tables.{tab_same}
use Rattle.grid.specs.Grid.{over, negated_column}
use Rattle.grid.proofs.Walks.{room}
use Rattle.grid.proofs.Written.{column_read, column_written}
use Rattle.grid.proofs.changes.negate_column.Goals as goal

-- the entry of this turn is still the old one
here : (m : List ℤ) {items : List ℤ} {f : ℕ → ℤ} (c i : ℕ) → Filled (pos 0) f (between (96 * c) (96 * c + 96) m) items i → c < 96 → i < 96
    → get_or items i (pos 0) ≡ entries m i c
here m c i s hc hi = s.rest i (omega arith) ∙ column_read m c _ i hc hi (omega arith)

pub loop-x-init : goal.loop-x-init
loop-x-init c = filled_none _

pub overflow_sub-x : goal.overflow_sub-x
overflow_sub-x c =
    let l : c.loop-x.x-index < 96 = omega (arith, length-take {A = ℤ}) in
    neg_fits w8 (here _ _ _ c.loop-x.invariant c.requires.inside l) (room c.requires.units _ _)

pub loop-x-preserved : goal.loop-x-preserved
loop-x-preserved c =
    let l : c.loop-x.x-index < 96 = omega (arith, length-take {A = ℤ}) in
    filled_more _ c.loop-x.invariant (omega arith) (neg_is w8 (here _ _ _ c.loop-x.invariant c.requires.inside l) (room c.requires.units _ _))

pub returns : goal.returns
unfolding over negated_column
returns c =
    let x = c.args in
    let long : length (between (96 * x.c) (96 * x.c + 96) x.m.now) ≡ 96 = length-between x.m.now _ _ (omega arith) ∙ omega arith in
    column_written x.m.now _ x.c _ (omega arith) c.requires.size c.requires.inside (c.loop-x.invariant.long ∙ long)
    ∙ tab_same (λ i j hi hj. cond_same {b = entries x.m.now i j} (eqb j x.c) (λ e. c.loop-x.invariant.done i (omega arith)) (λ e. refl))
