-- `engine::carry::carry` meets its contract: each return is one of the call's answers.
use mathlib.Core.Path.{sym}
use native.Mathlib.Omega.{arith}
use borrow.Author.Rules.{rules}
use Rattle.rules.specs.Lending.{seen_by}
use Rattle.good.proofs.Passing.{held}
use Rattle.rules.proofs.Branches.Refused.{handed_on}
use Rattle.engine.proofs.Answers.{lone_read, lone_placed}
use Rattle.engine.proofs.CarryAnswers.{carry_short, carry_not-good, carry_form, carry_faulty, carry_done}
use Rattle.engine.proofs.carry.carry.Goals as goal

pub returns-then-chain-ne-SIDE-clause-does : goal.returns-then-chain-ne-SIDE-clause-does
returns-then-chain-ne-SIDE-clause-does c = carry_short _ _ _ _ _ (λ e f. omega arith)

pub returns-in_err-refusal_of_pattern-clause-does : goal.returns-in_err-refusal_of_pattern-clause-does
returns-in_err-refusal_of_pattern-clause-does c =
    rw (handed_on c.from_residual.ensures) (carry_not-good _ _ _ _ _ c.if-chain-ne-SIDE.false c.if-out-ne-SIDE.false _ c.in_err-refusal_of_pattern.ensures)

pub returns-in_err-refusal_of_pattern-clause-placed : goal.returns-in_err-refusal_of_pattern-clause-placed
returns-in_err-refusal_of_pattern-clause-placed c = rw (handed_on c.from_residual.ensures) tt

pub returns-then-d-gt3-clause-does : goal.returns-then-d-gt3-clause-does
returns-then-d-gt3-clause-does c =
    carry_form _ _ _ _ _ c.if-chain-ne-SIDE.false c.if-out-ne-SIDE.false (sym c.in_ok-refusal_of_pattern.ensures) c.if-d-gt3.true

pub returns-then-d-gt3-clause-placed : goal.returns-then-d-gt3-clause-placed
returns-then-d-gt3-clause-placed c = tt

pub returns-in_err-o-clause-does : goal.returns-in_err-o-clause-does
returns-in_err-o-clause-does c =
    rw (handed_on c.from_residual-in_err-o.ensures)
    (carry_faulty _ _ _ _ _ c.if-chain-ne-SIDE.false c.if-out-ne-SIDE.false (sym c.in_ok-refusal_of_pattern.ensures) c.if-d-gt3.false (sym c.in_err-o.ensures))

pub returns-in_err-o-clause-placed : goal.returns-in_err-o-clause-placed
returns-in_err-o-clause-placed c = rw (handed_on c.from_residual-in_err-o.ensures) (lone_placed c.args.s.now (sym c.in_err-o.ensures))

pub carry_through-requires : goal.carry_through-requires
carry_through-requires c =
    record {
      held = held (seen_by c.args.p) (search rules) (sym c.in_ok-refusal_of_pattern.ensures);
      source = lone_read (sym c.in_ok-o.ensures);
      dim = c.if-d-gt3.false;
      long = c.if-chain-ne-SIDE.false;
      room = c.if-out-ne-SIDE.false;
    }

pub returns-in_err-carry_through-clause-does : goal.returns-in_err-carry_through-clause-does
returns-in_err-carry_through-clause-does c =
    rw (handed_on c.from_residual-in_err-carry_through.ensures)
    (carry_done _ _ _ _ _ c.if-chain-ne-SIDE.false c.if-out-ne-SIDE.false (sym c.in_ok-refusal_of_pattern.ensures) c.if-d-gt3.false (sym c.in_ok-o.ensures)
    c.in_err-carry_through.ensures)

pub returns-in_err-carry_through-clause-placed : goal.returns-in_err-carry_through-clause-placed
returns-in_err-carry_through-clause-placed c = rw (handed_on c.from_residual-in_err-carry_through.ensures) tt

pub returns-clause-does : goal.returns-clause-does
returns-clause-does c =
    carry_done _ _ _ _ _ c.if-chain-ne-SIDE.false c.if-out-ne-SIDE.false (sym c.in_ok-refusal_of_pattern.ensures) c.if-d-gt3.false (sym c.in_ok-o.ensures)
    c.in_ok-carry_through.ensures
