-- `off::writer::all_sewn` meets its contract: every seam is tested.
use mathlib.Core.Path.{◌≡◌, refl, ◌∙◌}
use mathlib.Core.Bool.{not}
use native.Mathlib.Omega.{arith}
use borrow.Author.Rules.{rules}
use Rattle.std.specs.List.{list_all, range_with_len}
use Rattle.std.proofs.Common.{tests}
use Rattle.std.proofs.lemmas.Iterator.{YieldsList-from_range}
use Rattle.std.proofs.lemmas.Iterator.Search.{all_from_yields_List}
use Rattle.maths.specs.Tests.{is_zero, all}
use Rattle.maths.specs.Tables.{entries}
use Rattle.off.proofs.ends.FrontAll.{range_all}
use Rattle.off.proofs.writer.all_sewn.Goals as goal
use Rattle.off.proofs.writer.all_sewn.Goals.{After-all}

tested : (c : After-all) → let m2 = c.args.m2.now in
    c.all.result ≡ list_all (λ i. not (all 96 (λ j. is_zero (entries m2 i j)))) (range_with_len 0 c.args.n)
tested c =
    all_from_yields_List _ _ _ _ c.all.ensures.ran (YieldsList-from_range 0 c.args.n c.args.n refl (omega arith)) (λ x b q k. search (rules, tests))

pub returns : goal.returns
returns c = tested (goal.at.returns c).After-all ∙ range_all _ _
