-- `operators::chosen::faces_below` meets its contract: `all` tests each listed number.
use Rattle.std.proofs.Common.{rules, ◌∙◌}
use lib.Dec.{ltb}
use Rattle.std.proofs.lemmas.Iterator.{YieldsList-from_slice}
use Rattle.std.proofs.lemmas.Iterator.Search.{all_from_yields_List}
use Rattle.rules.specs.Operators.{all_below}
use Rattle.operators.proofs.chosen.Lists.{all_listed}
use Rattle.operators.proofs.chosen.faces_below.Goals as goal

pub returns : goal.returns
unfolding all_below
returns c =
    let a = c.args in
    all_from_yields_List (λ i. ltb i a.n) _ _ _ c.all.ensures.ran (YieldsList-from_slice a.faces.now cc) (λ x b q k. (search rules, search rules))
    ∙ all_listed (λ i. ltb i a.n) 0 a.faces.now
