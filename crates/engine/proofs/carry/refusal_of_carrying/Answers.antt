-- `engine::carry::refusal_of_carrying` meets its contract: 17 for a kill and a merge, and the trial's number for the others.
use Rattle.engine.proofs.Trials.{not-carried, as-tried}
use Rattle.engine.proofs.carry.refusal_of_carrying.Goals as goal

pub returns-in-Kill : goal.returns-in-Kill
returns-in-Kill c = not-carried _ _ c.in-Kill.is

pub returns-in-Make : goal.returns-in-Make
returns-in-Make c = as-tried _ _ c.in-Make.is c.refusal_of_trial.ensures
