-- `off::ends::all_alone` meets its contract: every seam is tested.
use mathlib.Core.Path.{◌≡◌, refl, ◌∙◌}
use lib.ListN.{length}
use native.Mathlib.Omega.{arith}
use borrow.Author.Rules.{rules}
use Rattle.std.specs.List.{list_all, range_with_len}
use Rattle.std.proofs.Common.{tests}
use Rattle.std.proofs.lemmas.Iterator.{YieldsList-from_range}
use Rattle.std.proofs.lemmas.Iterator.Search.{all_from_yields_List}
use Rattle.off.specs.Exporting.{is_alone}
use Rattle.off.specs.Walking.{ends_by}
use Rattle.off.proofs.ends.FrontAll.{range_all}
use Rattle.off.proofs.ends.all_alone.Goals as goal
use Rattle.off.proofs.ends.all_alone.Goals.{After-all}

tested : (c : After-all) → let ends = c.args.ends.now in
    c.all.result ≡ list_all (is_alone (ends_by ends)) (range_with_len 0 (length ends))
tested c =
    all_from_yields_List _ _ _ _ c.all.ensures.ran (YieldsList-from_range 0 (length c.args.ends.now) (length c.args.ends.now) refl (omega arith)) (λ x b q k. search (rules, tests))

pub returns : goal.returns
returns c = tested (goal.at.returns c).After-all ∙ range_all _ _
