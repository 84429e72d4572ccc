-- `engine::run_script` meets its contract: what the operators leave is what the call does.
use Rattle.engine.proofs.ScriptAnswers.{run-done}
use Rattle.engine.proofs.run_script.Goals as goal

pub run_operators-requires : goal.run_operators-requires
run_operators-requires c = (rw c.view.ensures at c.in-Ok.ensures).runnable

pub returns-in-Ok-clause-does : goal.returns-in-Ok-clause-does
returns-in-Ok-clause-does c = run-done (rw c.view.ensures at c.in-Ok.ensures) c.run_operators.ensures.does

pub returns-in-Err-clause-does : goal.returns-in-Err-clause-does
returns-in-Err-clause-does c = (rw c.view.ensures at c.in-Err.ensures).is
