-- `operators::append::append` meets its contract: by the dimension, it tries the column in that dimension's matrix by the tests that `closed` has.
use mathlib.Core.Path.{◌≡◌}
use native.Mathlib.Omega.{arith}
use Rattle.rules.specs.Complex.{Pattern}
use Rattle.rules.specs.Lending.{lent_by}
use Rattle.operators.proofs.make.Made.{panel_fits, block_fits, append_0, append_1, append_2, append_3}
use Rattle.operators.proofs.append.append.Goals as goal
use Rattle.operators.proofs.append.append.Goals.{In_default, Start}

-- the pattern at entry
abbrev entry : (c : Start) → Pattern
entry c = lent_by c.args.p.now

-- the last dimension
last : (c : In_default) → c.args.k ≡ 3
last c = omega arith

pub set_closed-requires : goal.set_closed-requires
set_closed-requires c = panel_fits c.requires c.in-2.is

pub set_closed-requires-in_default : goal.set_closed-requires-in_default
set_closed-requires-in_default c = block_fits c.requires (last (goal.at.set_closed-requires-in_default c).In_default)

pub returns-in-0-clause-does : goal.returns-in-0-clause-does
returns-in-0-clause-does c =
    append_0 (entry (goal.at.returns-in-0-clause-does c).Start) c.requires.held c.args.column.now c.in-0.is

pub returns-in-1-clause-does : goal.returns-in-1-clause-does
returns-in-1-clause-does c =
    append_1 (entry (goal.at.returns-in-1-clause-does c).Start) c.requires.held c.args.column.now c.in-1.is c.set_some.ensures

pub returns-in-2-clause-does : goal.returns-in-2-clause-does
returns-in-2-clause-does c =
    append_2 (entry (goal.at.returns-in-2-clause-does c).Start) c.requires.held c.args.column.now c.in-2.is c.set_closed.ensures

pub returns-in_default-clause-does : goal.returns-in_default-clause-does
returns-in_default-clause-does c =
    append_3 (entry (goal.at.returns-in_default-clause-does c).Start) c.requires.held c.args.column.now (last (goal.at.returns-in_default-clause-does c).In_default)
    c.set_closed-in_default.ensures
