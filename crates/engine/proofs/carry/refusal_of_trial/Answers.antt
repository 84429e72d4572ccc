-- `engine::carry::refusal_of_trial` meets its contract: the copies are the matrices, so the operator answers for the pattern.
use Rattle.engine.proofs.Trials.{applied-number}
use Rattle.engine.proofs.carry.refusal_of_trial.Goals as goal

pub returns : goal.returns
returns c = applied-number _ _ (rw (c.copy_from_slice.ensures.after, c.copy_from_slice-2.ensures.after, c.copy_from_slice-3.ensures.after) at c.apply.ensures.does)
