-- `operators::split::split` meets its contract: the tests of the definition in its order, then the matrices, then the counts.
use mathlib.Core.Path.{refl}
use Rattle.operators.proofs.chosen.SplitForms.{list_form}
use Rattle.rules.proofs.Branches.Refused.{not_accepted, handed_on}
use Rattle.operators.proofs.split.SplitAnswers.{no_such_cell_lem, no_room_lem, prepared, split-answer-refused, split-answer-accepted}
use Rattle.operators.proofs.split.split.Goals as goal

pub listing-faces-requires : goal.listing-faces-requires
listing-faces-requires c =
    let form = c.requires.split_form in
    list_form form

pub returns-then-not-cell-here-clause-does : goal.returns-then-not-cell-here-clause-does
returns-then-not-cell-here-clause-does c =
    let held = c.requires.held in
    let form = c.requires.split_form in
    no_such_cell_lem held form c.listing-faces.ensures c.faces_below.ensures c.if-not-cell-here.true-raw

pub returns-then-not-below-here-clause-does : goal.returns-then-not-below-here-clause-does
returns-then-not-below-here-clause-does c =
    let held = c.requires.held in
    let form = c.requires.split_form in
    no_room_lem held form c.listing-faces.ensures c.faces_below.ensures c.if-not-cell-here.false-raw c.if-not-below-here.true-raw

pub split_at-requires : goal.split_at-requires
split_at-requires c =
    let held = c.requires.held in
    let form = c.requires.split_form in
    prepared held form c.listing-faces.ensures c.faces_below.ensures c.if-not-cell-here.false-raw c.if-not-below-here.false-raw

pub returns-in_err-split_at-clause-does : goal.returns-in_err-split_at-clause-does
returns-in_err-split_at-clause-does c =
    let held = c.requires.held in
    let form = c.requires.split_form in
    rw (handed_on c.from_residual.ensures, c.in_err-split_at.ensures.counts)
    (split-answer-refused held form c.listing-faces.ensures c.faces_below.ensures c.if-not-cell-here.false-raw c.if-not-below-here.false-raw
    c.in_err-split_at.ensures.does (not_accepted c.in_err-split_at.field-0.0))

pub returns-clause-does : goal.returns-clause-does
returns-clause-does c =
    let held = c.requires.held in
    let form = c.requires.split_form in
    split-answer-accepted held form c.listing-faces.ensures c.faces_below.ensures c.if-not-cell-here.false-raw c.if-not-below-here.false-raw
    c.in_ok-split_at.ensures.does refl
    (rw (c.grown-p.ensures, c.grown.ensures, c.in_ok-split_at.ensures.counts))
