-- `grid::tests::row_last` meets its contract: the columns are searched from the last.
use mathlib.Core.Path.{◌≡◌, sym, ap, ◌∙◌}
use mathlib.Core.Bool.{not}
use Prim.Native.Nat.{◌+◌, ◌*◌}
use native.Mathlib.Omega.{arith}
use lib.Dec.{eqb}
use lib.IntN.{pos}
use lib.ListN.{get_or}
use mir.Syntax.{w8}
use mir.Val.{of_z}
use borrow.Author.Rules.{rules}
use Rattle.maths.specs.Tests.{is_zero}
use Rattle.maths.proofs.Sizes.{bits_eq}
use Rattle.maths.proofs.Tables.{entries_in}
use Rattle.maths.proofs.Tests.{last_same}
use Rattle.grid.proofs.Backwards.{found}
use Rattle.grid.proofs.tests.row_last.Goals as goal

pub returns : goal.returns
unfolding is_zero
returns c =
    let x = c.args in
    c.unwrap_or.ensures
    ∙ found _ _ (λ j. not (is_zero (get_or x.m.now (96 * j + x.r) (pos 0))))
    (λ j b h k. (
      search rules,
      let told : b ≡ not (eqb (of_z w8 (get_or x.m.now (96 * j + x.r) (pos 0))) (of_z w8 (pos 0))) = search rules in
          told ∙ ap not (bits_eq w8 (search rules) (search rules)),
    ))
    c.rev.result _ c.find.result x.n c.rev.ensures.source c.find.ensures.ran
    ∙ last_same x.n (λ j l. ap (λ y. not (is_zero y)) (sym (entries_in x.m.now x.r j c.requires.inside (omega arith))))
