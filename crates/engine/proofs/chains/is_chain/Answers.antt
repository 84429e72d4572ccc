-- `engine::chains::is_chain` meets its contract: the closure tests each coefficient as the definition does.
use mathlib.Core.Bool.{cond}
use mathlib.Core.Path.{◌∙◌}
use Prim.Native.Nat.{ℕ}
use lib.Dec.{ltb, leb}
use lib.IntN.{ℤ, nat_abs}
use borrow.Author.Rules.{rules}
use Rattle.std.proofs.lemmas.Iterator.{YieldsList-from_slice}
use Rattle.std.proofs.lemmas.Iterator.Consumers.{YieldsList-from_enumerate}
use Rattle.std.proofs.lemmas.Iterator.Search.{all_from_yields_List}
use Rattle.maths.specs.Tests.{eq_z, is_zero}
use Rattle.rules.specs.Chains.{is_chain}
use Rattle.engine.proofs.Listed.{tested-each}
use Rattle.engine.proofs.chains.is_chain.Goals as goal

pub returns : goal.returns
unfolding is_chain is_zero eq_z
returns c =
    let a = c.args in
    all_from_yields_List (λ (x : ℕ × ℤ). cond (ltb x.0 a.n) (leb (nat_abs x.1) a.limit) (is_zero x.1)) _ _ _ c.all.ensures.ran
    (YieldsList-from_enumerate (YieldsList-from_slice a.chain.now cc) c.enumerate.ensures.count) (λ x b q k. search rules)
    ∙ tested-each (λ i z. cond (ltb i a.n) (leb (nat_abs z) a.limit) (is_zero z)) a.chain.now c.requires
