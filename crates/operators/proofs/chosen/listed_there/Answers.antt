-- `operators::chosen::listed_there` meets its contract: `all` tests the entry of each listed face.
use Rattle.std.proofs.Common.{rules, ◌∙◌}
use mathlib.Core.Bool.{not}
use Rattle.std.proofs.lemmas.Iterator.{YieldsList-from_slice}
use Rattle.std.proofs.lemmas.Iterator.Search.{all_from_yields_List}
use Rattle.maths.specs.Tests.{eq_z, is_zero}
use Rattle.rules.specs.Calls.{coefficients}
use Rattle.operators.specs.Part.{all_there}
use Rattle.operators.proofs.chosen.Lists.{all_listed}
use Rattle.operators.proofs.chosen.listed_there.Goals as goal

pub returns : goal.returns
unfolding all_there is_zero eq_z
returns c =
    let a = c.args in
    all_from_yields_List (λ i. not (is_zero (coefficients a.column.now i))) _ _ _ c.all.ensures.ran
    (YieldsList-from_slice a.faces.now cc) (λ x b q k. (search rules, search rules))
    ∙ all_listed (λ i. not (is_zero (coefficients a.column.now i))) 0 a.faces.now
