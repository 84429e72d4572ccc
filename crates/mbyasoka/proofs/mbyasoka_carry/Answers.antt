-- `mbyasoka::mbyasoka_carry` meets its contract: the place is a number of 32 bits.
use mathlib.Core.Path.{ap}
use native.Mathlib.Omega.{arith}
use borrow.Author.Rules.{rules}
use Rattle.rules.specs.Calls.{Given}
use Rattle.mbyasoka.specs.Places.{pattern_lent}
use Rattle.mbyasoka.proofs.Places.{carry_small}
use Rattle.mbyasoka.proofs.mbyasoka_carry.Goals as goal

pub returns : goal.returns
returns c =
    let a = c.args in
    let p = pattern_lent a.counts.now a.m1.now a.m2.now a.m3.now in
    let place = ap (λ (g : Given). g.place) (rw c.view.ensures at c.carry-answer.ensures.does) in
    rw (c.place_of.ensures (omega (arith, carry_small p a.s.now a.d a.chain.now a.out.now, place))) (search rules)
