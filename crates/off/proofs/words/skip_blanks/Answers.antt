-- `skip_blanks` leaves out as many bytes as are blanks.
use Rattle.std.proofs.Common.{arith}
use Rattle.std.proofs.lemmas.Grind.{common_steps}
use Rattle.off.proofs.words.Texts.{after_blanks}
use Rattle.off.proofs.words.skip_blanks.Goals as goal

pub returns : goal.returns
returns c = grind (arith, common_steps, after_blanks c.args.s.now)
