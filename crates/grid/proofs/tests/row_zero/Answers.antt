-- `grid::tests::row_zero` meets its contract: entry r of each column is tested.
use mathlib.Core.Path.{refl, sym, ap, ◌∙◌}
use mathlib.Core.Bool.{Bool}
use Prim.Native.Nat.{ℕ, ◌+◌, ◌*◌}
use lib.IntN.{pos}
use lib.ListN.{get_or}
use borrow.Author.Rules.{rules}
use Rattle.std.proofs.lemmas.Iterator.{YieldsList-from_range}
use Rattle.std.proofs.lemmas.Iterator.Search.{all_from_yields_List}
use Rattle.maths.specs.Tests.{eq_z, is_zero}
use Rattle.maths.proofs.Tables.{entries_in}
use Rattle.maths.proofs.Tests.{all_same}
use Rattle.grid.proofs.Chains.{all_numbers}
use Rattle.grid.proofs.tests.row_zero.Goals as goal

pub returns : goal.returns
unfolding is_zero eq_z
returns c =
    let x = c.args in
    let p : ℕ → Bool = λ j. is_zero (get_or x.m.now (96 * j + x.r) (pos 0)) in
    all_from_yields_List p _ _ c.all.result c.all.ensures.ran (YieldsList-from_range 0 96 96 refl refl) (λ j b q k. (search rules, search rules))
    ∙ all_numbers p 96
    ∙ all_same 96 (λ j l. ap is_zero (sym (entries_in x.m.now x.r j c.requires.inside l)))
