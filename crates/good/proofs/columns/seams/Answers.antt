-- `good::columns::seams` meets its contract: `all` tests each column in use.
use Rattle.std.proofs.Common.{rules, ◌∙◌, arith}
use Rattle.std.proofs.lemmas.Iterator.{YieldsList-from_range}
use Rattle.std.proofs.lemmas.Iterator.Search.{all_from_yields_List}
use Rattle.maths.proofs.Tests.{all_same}
use Rattle.rules.specs.Good.{one_each}
use Rattle.grid.specs.Grid.{cut, nth}
use Rattle.good.proofs.Places.{one_each_column}
use Rattle.grid.proofs.Cuts.{in_use}
use Rattle.std.proofs.lemmas.Iterator.{serves_from_Range}
use Rattle.good.proofs.Ranges.{all_range}
use Rattle.good.proofs.columns.seams.Goals as goal

pub all-requires-clause-callable : goal.all-requires-clause-callable
all-requires-clause-callable c = serves_from_Range (λ x q k. search rules) (λ x l h.
    let line = in_use x c.requires (omega arith) in
    search (rules, line))

pub returns : goal.returns
returns c =
    let a = c.args in
    all_from_yields_List (λ j. one_each (nth (cut j a.m.now))) _ _ _ c.all.ensures.ran
    (YieldsList-from_range 0 a.n a.n (cc) (omega arith)) (λ x b q k. (search rules, search rules))
    ∙ all_range (λ j. one_each (nth (cut j a.m.now))) a.n
    ∙ all_same a.n (λ j h. one_each_column a.m.now j (omega arith))
