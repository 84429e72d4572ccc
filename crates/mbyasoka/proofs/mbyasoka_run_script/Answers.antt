-- `mbyasoka::mbyasoka_run_script` meets its contract: the place is a number of 32 bits.
use mathlib.Core.Path.{ap}
use native.Mathlib.Omega.{arith}
use borrow.Author.Rules.{rules}
use Rattle.rules.specs.Answers.{ScriptRun}
use Rattle.rules.specs.Calls.{Lent}
use Rattle.mbyasoka.specs.Places.{pattern_lent}
use Rattle.mbyasoka.proofs.Places.{run_small}
use Rattle.mbyasoka.proofs.mbyasoka_run_script.Goals as goal

pub returns : goal.returns
returns c =
    let a = c.args in
    let p = pattern_lent a.counts.now a.m1.now a.m2.now a.m3.now in
    let place = ap (λ (l : Lent ScriptRun). l.answer.place) c.run_script-run.ensures.does in
    rw (c.place_of.ensures (omega (arith, run_small p a.s.now, place))) (search rules)
