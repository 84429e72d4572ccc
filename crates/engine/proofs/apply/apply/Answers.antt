-- `engine::apply::apply` meets its contract: each kind of operator is what its call answers, and has the form that the call needs.
use Rattle.rules.specs.Operators.{step}
use Rattle.engine.proofs.Shapes.{shaped}
use Rattle.engine.proofs.apply.apply.Goals as goal

pub make-requires : goal.make-requires
make-requires c =
    let held = c.requires.held in
    let source = c.requires.read_from in
    let form = rw c.in-Make.is at (shaped source) in
    record { held = held; make_form = form }

pub kill-requires : goal.kill-requires
kill-requires c =
    let held = c.requires.held in
    let source = c.requires.read_from in
    let form = rw c.in-Kill.is at (shaped source) in
    record { dimension = form; held = held }

pub split-requires : goal.split-requires
split-requires c =
    let held = c.requires.held in
    let source = c.requires.read_from in
    let form = rw c.in-Split.is at (shaped source) in
    record { held = held; split_form = form }

pub merge-requires : goal.merge-requires
merge-requires c =
    let held = c.requires.held in
    let source = c.requires.read_from in
    let form = rw c.in-Merge.is at (shaped source) in
    record { dimension = form; held = held }

pub flip-requires : goal.flip-requires
flip-requires c =
    let held = c.requires.held in
    let source = c.requires.read_from in
    let form = rw c.in-Flip.is at (shaped source) in
    record { dimension = form; held = held }

pub returns-in-Make-clause-does : goal.returns-in-Make-clause-does
unfolding step
returns-in-Make-clause-does c = rw c.in-Make.is c.make.ensures.does

pub returns-in-Kill-clause-does : goal.returns-in-Kill-clause-does
unfolding step
returns-in-Kill-clause-does c = rw c.in-Kill.is c.kill.ensures.does

pub returns-in-Split-clause-does : goal.returns-in-Split-clause-does
unfolding step
returns-in-Split-clause-does c = rw c.in-Split.is c.split.ensures.does

pub returns-in-Merge-clause-does : goal.returns-in-Merge-clause-does
unfolding step
returns-in-Merge-clause-does c = rw c.in-Merge.is c.merge.ensures.does

pub returns-in-Flip-clause-does : goal.returns-in-Flip-clause-does
unfolding step
returns-in-Flip-clause-does c = rw c.in-Flip.is c.flip.ensures.does
