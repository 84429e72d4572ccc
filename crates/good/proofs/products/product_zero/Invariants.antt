-- `good::products::product_zero` meets its contract: the columns so far have passed.
use Rattle.maths.specs.Tables.{entries}
use Rattle.rules.specs.Good.{closes}
use Rattle.rules.specs.Complex.{layer}
use Rattle.grid.proofs.Joined.{Passed}
use Rattle.good.proofs.products.product_zero.Given as goal

abbrev pub invariant-loop-j : goal.invariant-loop-j
invariant-loop-j l = Passed (λ j. closes 96 (layer l.between l.low) (λ i. entries l.high i j)) l.n l.j
