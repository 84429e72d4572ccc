-- `good::pattern::is_formed` meets its contract: its five tests are those of the definition; past the rows in use a product is zero.
use Rattle.good.specs.Parts.{formed}
use Rattle.good.proofs.Places.{product-rows}
use Rattle.good.proofs.pattern.is_formed.Goals as goal

pub returns : goal.returns
unfolding formed
returns c =
    let pre = c.requires in
    let first = product-rows pre.all_placed.first pre.stored.first.short _ _ _ c.product_zero.ensures in
    let second = product-rows pre.all_placed.second pre.stored.second.short _ _ _ c.product_zero-2.ensures in
    rw (c.seams.ensures, c.faces.ensures, c.faces-2.ensures, first, second)
