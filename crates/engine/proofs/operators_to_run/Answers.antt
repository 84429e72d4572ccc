-- `engine::operators_to_run` meets its contract: each return is one of the answers before a run, or starts it.
use mathlib.Core.Path.{sym}
use borrow.Author.Rules.{rules}
use Rattle.rules.specs.Lending.{seen_by}
use Rattle.rules.specs.Good.{Held}
use Rattle.good.proofs.Passing.{held}
use Rattle.rules.proofs.Branches.Refused.{handed_on}
use Rattle.engine.proofs.ScriptAnswers.{script_says, too_long, run-not-good, run-faulty, run-stale, run-starts}
use Rattle.engine.proofs.operators_to_run.Goals as goal
use Rattle.engine.proofs.operators_to_run.Goals.{In_ok-refusal_of_pattern}

-- the pattern passed its test
good : (c : In_ok-refusal_of_pattern) → Held (seen_by c.args.p)
good c = held (seen_by c.args.p) (search rules) (sym c.in_ok-refusal_of_pattern.ensures)

pub returns-then-s-gt-LONGEST_SCRIPT : goal.returns-then-s-gt-LONGEST_SCRIPT
returns-then-s-gt-LONGEST_SCRIPT c = too_long _ _ c.if-s-gt-LONGEST_SCRIPT.true

pub returns-in_err-refusal_of_pattern : goal.returns-in_err-refusal_of_pattern
returns-in_err-refusal_of_pattern c =
    rw (handed_on c.from_residual.ensures) (run-not-good _ _ c.if-s-gt-LONGEST_SCRIPT.false _ c.in_err-refusal_of_pattern.ensures)

pub returns-in_err-n : goal.returns-in_err-n
returns-in_err-n c =
    rw (handed_on c.from_residual-in_err-n.ensures)
    (run-faulty _ _ c.if-s-gt-LONGEST_SCRIPT.false (good (goal.at.returns-in_err-n c).In_ok-refusal_of_pattern) (sym c.in_err-n.ensures))

pub same_base-requires : goal.same_base-requires
same_base-requires c = (script_says c.args.s.now (sym c.in_ok-n.ensures)).0

pub returns-then-not-same_base : goal.returns-then-not-same_base
returns-then-not-same_base c =
    run-stale _ _ c.if-s-gt-LONGEST_SCRIPT.false (good (goal.at.returns-then-not-same_base c).In_ok-refusal_of_pattern) (sym c.in_ok-n.ensures)
    c.same_base.ensures c.if-not-same_base.true

pub returns : goal.returns
returns c =
    run-starts _ _ c.if-s-gt-LONGEST_SCRIPT.false (good (goal.at.returns c).In_ok-refusal_of_pattern) (sym c.in_ok-n.ensures)
    c.same_base.ensures c.if-not-same_base.false
