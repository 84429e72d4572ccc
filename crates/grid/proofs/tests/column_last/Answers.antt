-- `grid::tests::column_last` meets its contract: the rows are searched from the last.
use mathlib.Core.Path.{sym, ap, ◌∙◌}
use Prim.Native.Nat.{◌+◌, ◌*◌}
use lib.IntN.{pos}
use lib.ListN.{get_or}
use borrow.Author.Rules.{rules}
use Rattle.maths.specs.Tests.{eq_z}
use Rattle.maths.proofs.Tables.{entries_in}
use Rattle.maths.proofs.Tests.{last_same}
use Rattle.grid.proofs.Backwards.{found}
use Rattle.grid.proofs.tests.column_last.Goals as goal

pub returns : goal.returns
unfolding eq_z
returns c =
    let x = c.args in
    c.unwrap_or.ensures
    ∙ found _ _ (λ i. eq_z (get_or x.m.now (96 * x.c + i) (pos 0)) x.z) (λ i b h k. (search rules, search rules)) c.rev.result _ c.find.result 96 c.rev.ensures.source c.find.ensures.ran
    ∙ last_same 96 (λ i l. ap (λ y. eq_z y x.z) (sym (entries_in x.m.now i x.c l c.requires.inside)))
