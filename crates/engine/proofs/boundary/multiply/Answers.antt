-- `engine::boundary::multiply` meets its contract: after j turns the sums are those of the first j columns.
use mathlib.Core.Path.{◌∙◌}
use native.Mathlib.Omega.{arith}
use Rattle.engine.proofs.Products.{product-none, coefficient, product_more, product_terms}
use Rattle.engine.proofs.boundary.multiply.Goals as goal

pub loop-j-init : goal.loop-j-init
loop-j-init c = product-none _ _ c.requires.room (c.fill.ensures.after (λ y e. e))

pub add_times-requires : goal.add_times-requires
add_times-requires c =
    rw (coefficient c.requires c.loop-j.j (omega arith), c.loop-j.invariant.are) (product_terms c.requires c.loop-j.j (omega arith))

pub loop-j-preserved : goal.loop-j-preserved
loop-j-preserved c =
    record {
      upto = omega arith;
      are = c.add_times.ensures
          ∙ rw (c.loop-j.invariant.are, coefficient c.requires c.loop-j.j (omega arith)) (product_more c.requires c.loop-j.j (omega arith));
    }
