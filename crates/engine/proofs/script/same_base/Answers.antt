-- `engine::script::same_base` meets its contract: the four base counts are compared one by one.
use mathlib.Core.Path.{◌∙◌}
use borrow.Author.Rules.{rules}
use Rattle.engine.proofs.Listed.{bases-same}
use Rattle.engine.proofs.script.same_base.Goals as goal

pub returns : goal.returns
returns c = c.eq.ensures ∙ bases-same c.args.s.now c.args.c.n c.requires (search rules)
