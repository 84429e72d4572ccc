-- `good::pattern::few` meets its contract: `all` tests the four counts.
use Rattle.std.proofs.Common.{rules, ◌≡◌, ◌∙◌, length, arith}
use lib.Dec.{leb}
use Rattle.std.proofs.lemmas.Iterator.{YieldsList-from_slice}
use Rattle.std.proofs.lemmas.Iterator.Search.{all_from_yields_List}
use Rattle.good.specs.Parts.{few_cells}
use Rattle.good.proofs.Ranges.{all_listed}
use Rattle.good.proofs.pattern.few.Goals as goal

pub returns : goal.returns
unfolding few_cells
returns c =
    let four : length c.args.c.n ≡ 4 = omega arith in
    all_from_yields_List (λ n. leb n 96) _ _ _ c.all.ensures.ran (YieldsList-from_slice c.args.c.n cc) (λ x b q k. (search rules, search rules))
    ∙ all_listed (λ n. leb n 96) 0 c.args.c.n ∙ rw four
