-- `off::ends::is_alone` meets its contract: every seam before seam j has other ends.
use mathlib.Core.Path.{◌≡◌, sym, ◌∙◌}
use mathlib.Core.Bool.{not}
use native.Mathlib.Omega.{arith}
use lib.ListN.{take}
use borrow.Author.Rules.{rules}
use Rattle.std.specs.List.{list_all}
use Rattle.std.proofs.Common.{tests}
use Rattle.std.proofs.lemmas.Iterator.{YieldsList-from_slice}
use Rattle.std.proofs.lemmas.Iterator.Search.{all_from_yields_List}
use Rattle.off.specs.Walking.{seam_at, same_ends}
use Rattle.off.proofs.ends.FrontAll.{front_all}
use Rattle.off.proofs.ends.SameEnds.{alone_is}
use Rattle.off.proofs.ends.is_alone.Goals as goal
use Rattle.off.proofs.ends.is_alone.Goals.{After-all}

tested : (c : After-all) → let a = c.args in
    c.all.result ≡ list_all (λ other. not (same_ends other (seam_at a.ends.now a.j))) (take a.j a.ends.now)
tested c =
    all_from_yields_List _ _ _ _ c.all.ensures.ran (YieldsList-from_slice (take c.args.j c.args.ends.now) cc) (λ x b q k. search (rules, tests))

pub returns : goal.returns
returns c =
    tested (goal.at.returns c).After-all ∙ front_all _ _ c.args.ends.now c.args.j (omega (arith, c.requires)) ∙ sym (alone_is c.args.ends.now c.args.j)
