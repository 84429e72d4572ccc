-- `keyword` skips blanks, and each return is one way of `keyword_here`.
use Rattle.std.proofs.Common.{arith}
use Rattle.std.proofs.lemmas.Grind.{common_steps}
use Rattle.off.proofs.words.Texts.{keyword-is}
use Rattle.off.proofs.words.keyword.Goals as goal

pub returns-in_err-rest : goal.returns-in_err-rest
returns-in_err-rest c = let k = keyword-is c.args.s.now c.skip_blanks.result.now c.skip_blanks.ensures in grind (arith, common_steps, k)

pub returns-then-not-word_ends : goal.returns-then-not-word_ends
returns-then-not-word_ends c = let k = keyword-is c.args.s.now c.skip_blanks.result.now c.skip_blanks.ensures in grind (arith, common_steps, k)

pub returns : goal.returns
returns c = let k = keyword-is c.args.s.now c.skip_blanks.result.now c.skip_blanks.ensures in grind (arith, common_steps, k)
