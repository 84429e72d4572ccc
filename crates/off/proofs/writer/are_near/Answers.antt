-- `off::writer::are_near` meets its contract: every coordinate of the n corners is tested.
use mathlib.Core.Path.{◌≡◌, ◌∙◌}
use Prim.Native.Nat.{◌*◌}
use native.Mathlib.Omega.{arith}
use lib.Dec.{leb}
use lib.IntN.{nat_abs}
use lib.ListN.{take}
use borrow.Author.Rules.{rules}
use Rattle.std.specs.List.{list_all}
use Rattle.std.proofs.Common.{tests}
use Rattle.std.proofs.lemmas.Iterator.{YieldsList-from_slice}
use Rattle.std.proofs.lemmas.Iterator.Search.{all_from_yields_List}
use Rattle.off.specs.Words.{farthest}
use Rattle.off.specs.Exporting.{coordinates_near}
use Rattle.off.proofs.ends.FrontAll.{front_all}
use Rattle.off.proofs.writer.are_near.Goals as goal
use Rattle.off.proofs.writer.are_near.Goals.{After-all}

tested : (c : After-all) → c.all.result ≡ list_all (λ z. leb (nat_abs z) farthest) (take (3 * c.args.n) c.args.list.now)
tested c =
    all_from_yields_List _ _ _ _ c.all.ensures.ran (YieldsList-from_slice (take (3 * c.args.n) c.args.list.now) cc) (λ x b q k. search (rules, tests))

pub returns : goal.returns
unfolding coordinates_near
returns c = tested (goal.at.returns c).After-all ∙ front_all _ _ c.args.list.now (3 * c.args.n) (omega (arith, c.requires.size, c.requires.few))
