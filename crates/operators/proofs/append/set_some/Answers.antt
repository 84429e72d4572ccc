-- `operators::append::set_some` meets its contract: the test of 96 bytes is that of the chain, and what is stored is the column.
use mathlib.Core.Path.{sym, ◌∙◌}
use Rattle.maths.specs.Tests.{is_zero, all}
use Rattle.rules.specs.Calls.{coefficients}
use Rattle.rules.specs.Good.{all_zero}
use Rattle.operators.proofs.chosen.Lists.{of_96}
use Rattle.operators.proofs.make.Closing.{set_no, set_yes}
use Rattle.operators.proofs.append.set_some.Goals as goal

pub returns-then-are_zero : goal.returns-then-are_zero
unfolding all_zero
returns-then-are_zero c =
    let a = c.args in
    let column = a.column.now in
    set_no a.at column a.m.now (sym (of_96 c.requires.size (λ n. all n (λ i. is_zero (coefficients column i))) c.are_zero.ensures) ∙ c.if-are_zero.true)

pub returns : goal.returns
unfolding all_zero
returns c =
    let a = c.args in
    let column = a.column.now in
    set_yes a.at column a.m.now (sym (of_96 c.requires.size (λ n. all n (λ i. is_zero (coefficients column i))) c.are_zero.ensures) ∙ c.if-are_zero.false)
    c.set_column.ensures
