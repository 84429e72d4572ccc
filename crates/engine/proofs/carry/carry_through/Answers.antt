-- `engine::carry::carry_through` meets its contract: each return is one of the answers once the operator is read.
use mathlib.Core.Path.{sym, ◌∙◌}
use Rattle.rules.proofs.Branches.Refused.{handed_on}
use Rattle.engine.proofs.CarryAnswers.{through_refused, through_chain, rewritable, through_done}
use Rattle.engine.proofs.carry.carry_through.Goals as goal

pub returns-in_err-refusal_of_carrying : goal.returns-in_err-refusal_of_carrying
returns-in_err-refusal_of_carrying c =
    rw (handed_on c.from_residual.ensures) (through_refused c.requires _ c.in_err-refusal_of_carrying.ensures)

pub returns-then-not-is_chain : goal.returns-then-not-is_chain
returns-then-not-is_chain c =
    through_chain c.requires c.in_ok-refusal_of_carrying.ensures (sym c.is_chain.ensures ∙ c.if-not-is_chain.true)

pub write_carried-requires : goal.write_carried-requires
write_carried-requires c =
    rewritable c.requires c.in_ok-refusal_of_carrying.ensures (sym c.is_chain.ensures ∙ c.if-not-is_chain.false)

pub returns : goal.returns
returns c =
    through_done c.requires c.in_ok-refusal_of_carrying.ensures (sym c.is_chain.ensures ∙ c.if-not-is_chain.false) c.write_carried.ensures
