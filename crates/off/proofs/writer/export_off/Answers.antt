-- `off::writer::export_off` meets its contract: the lengths and the pattern are tested, and a good pattern is exported.
use mathlib.Core.Path.{◌≡◌, sym, ◌∙◌}
use lib.ListN.{length}
use borrow.Author.Rules.{rules}
use Rattle.rules.specs.Refusals.{accepted}
use Rattle.rules.specs.Lending.{seen_by}
use Rattle.rules.specs.Good.{Held}
use Rattle.good.specs.Tested.{tested}
use Rattle.good.proofs.Passing.{held}
use Rattle.off.proofs.writer.ExportAnswers.{wrong_list, wrong_pattern, good-pattern}
use Rattle.rules.proofs.Branches.Refused.{not_accepted, handed_on}
use Rattle.off.proofs.writer.export_off.Goals as goal
use Rattle.off.proofs.writer.export_off.Goals.{In_ok-refusal_of_pattern}

-- it passed its test
passed : (c : In_ok-refusal_of_pattern) → tested (seen_by c.args.p) ≡ accepted
passed c = sym c.in_ok-refusal_of_pattern.ensures

good : (c : In_ok-refusal_of_pattern) → Held (seen_by c.args.p)
good c =
    let four : length c.args.p.counts.n ≡ 4 = search rules in held (seen_by c.args.p) four (passed c)

pub export_good-requires : goal.export_good-requires
export_good-requires c =
    let h = good (goal.at.export_good-requires c).In_ok-refusal_of_pattern in
    record {
      four = h.sized.four;
      corners = h.good.few 0;
      seams = record { size = h.sized.size1; few = h.good.few 1 };
      panels = record { size = h.sized.size2; few = h.good.few 2 };
      size = c.if-list-ne-COORDINATES.false;
    }

pub returns : goal.returns
returns c =
    c.export_good.ensures ∙ good-pattern _ _ _ c.if-list-ne-COORDINATES.false (passed (goal.at.returns c).In_ok-refusal_of_pattern)

pub returns-then-list-ne-COORDINATES : goal.returns-then-list-ne-COORDINATES
returns-then-list-ne-COORDINATES c = wrong_list _ _ _ c.if-list-ne-COORDINATES.true

pub returns-in_err-refusal_of_pattern : goal.returns-in_err-refusal_of_pattern
returns-in_err-refusal_of_pattern c =
    rw (handed_on c.from_residual.ensures)
    (wrong_pattern _ _ _ c.if-list-ne-COORDINATES.false c.in_err-refusal_of_pattern.ensures (not_accepted c.in_err-refusal_of_pattern.field-0.0))
