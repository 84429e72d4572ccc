-- `off::writer::export_good` meets its contract: the ends that were taken are the pattern's, so each answer is one of exporting's.
use mathlib.Core.Path.{◌≡◌, sym, ap, ◌∙◌}
use mathlib.Core.Bool.{true}
use native.Mathlib.Omega.{arith}
use lib.ListN.{length, replicate}
use lib.Seq.{length-take-le}
use Rattle.std.proofs.Common.{None}
use Rattle.std.specs.Option.{ok_or}
use Rattle.std.specs.Result.{result_ok}
use Rattle.rules.specs.declared.refusals.Refusal.{Refusal}
use Rattle.rules.specs.Counts.{count_of}
use Rattle.off.specs.Exporting.{coordinates_near}
use Rattle.off.specs.Writing.{Measurable, plain_by, text_by}
use Rattle.off.proofs.walks.Answered.{answered, not_answered}
use Rattle.off.proofs.places.TextParts.{plain-closes}
use Rattle.off.proofs.writer.TextTaken.{ends_low, plain-taken, text-taken}
use Rattle.off.proofs.writer.ExportAnswers.{too_far, no_plain, too_long, exported}
use Rattle.rules.proofs.Branches.Refused.{handed_on}
use Rattle.off.proofs.writer.export_good.Goals as goal
use Rattle.off.proofs.writer.export_good.Goals.{After-take_ends, In_ok-length}

-- there is an entry for each seam
size : (c : After-take_ends) → length c.take_ends.new.ends ≡ count_of c.args.p.counts 1
size c = c.take_ends.auto.ends ∙ length-take-le (count_of c.args.p.counts 1) (replicate 96 (record { tail = 0; head = 0 })) c.requires.seams.few

near : (c : After-take_ends) → coordinates_near (count_of c.args.p.counts 0) c.args.list.now ≡ true
near c = sym c.are_near.ensures ∙ c.if-not-are_near.false

-- what measuring and putting need
measurable : (c : After-take_ends) → let a = c.args in Measurable a.p.counts a.p.m2.now a.list.now c.take_ends.new.ends
measurable c =
    let pre = c.requires in
    record {
      four = pre.four;
      near = record { size = pre.size; few = pre.corners; near = near c };
      seams = size c;
      panels = record { columns = pre.panels; seams = ends_low c.take_ends.ensures };
    }

-- there is a text, and how long it is
text : (c : In_ok-length) → let a = c.args in
    (plain_by a.p.counts a.p.m2.now c.take_ends.new.ends ≡ true) × (c.in_ok-length.length ≡ length (text_by a.p.counts a.p.m2.now a.list.now c.take_ends.new.ends))
text c = answered _ (sym c.text_length.ensures ∙ c.ok_or.ensures.ok_part ∙ ap result_ok c.in_ok-length.was)

pub returns-then-not-are_near : goal.returns-then-not-are_near
returns-then-not-are_near c = too_far _ _ _ (sym c.are_near.ensures ∙ c.if-not-are_near.true)

pub text_length-requires : goal.text_length-requires
text_length-requires c = measurable (goal.at.text_length-requires c).After-take_ends

pub returns-in_err-length : goal.returns-in_err-length
returns-in_err-length c =
    let at = (goal.at.returns-in_err-length c).After-take_ends in
    let found = c.ok_or.ensures in
    let none : c.text_length.result ≡ None = found.ok_part ∙ ap result_ok c.in_err-length.was in
    let plain = not_answered _ _ (sym c.text_length.ensures ∙ none) in
    rw (handed_on c.from_residual.ensures ∙ sym c.in_err-length.was ∙ found.value ∙ ap (λ o. ok_or o Refusal.NotPlain) none)
    (no_plain _ _ _ (near at) (sym (plain-taken _ _ _ c.take_ends.ensures (size at)) ∙ plain))

pub returns-then-out-length : goal.returns-then-out-length
returns-then-out-length c =
    let a = c.args in
    let at = (goal.at.returns-then-out-length c).After-take_ends in
    let t = text (goal.at.returns-then-out-length c).In_ok-length in
    let same = text-taken a.p.counts a.p.m1.now a.p.m2.now c.take_ends.ensures (size at) a.list.now in
    too_long _ _ _ (near at) (sym (plain-taken _ _ _ c.take_ends.ensures (size at)) ∙ t.0) (omega (arith, t.1, ap length same, c.if-out-length.true))

pub put_text-written-requires : goal.put_text-written-requires
put_text-written-requires c =
    let t = text (goal.at.put_text-written-requires c).In_ok-length in
    record {
      measured = measurable (goal.at.put_text-written-requires c).After-take_ends;
      close = plain-closes _ _ _ t.0;
      room = omega (arith, c.if-out-length.false, t.1);
    }

pub returns : goal.returns
returns c =
    let a = c.args in
    let at = (goal.at.returns c).After-take_ends in
    let t = text (goal.at.returns c).In_ok-length in
    let same = text-taken a.p.counts a.p.m1.now a.p.m2.now c.take_ends.ensures (size at) a.list.now in
    exported _ _ _ (near at) (sym (plain-taken _ _ _ c.take_ends.ensures (size at)) ∙ t.0) (omega (arith, t.1, ap length same, c.if-out-length.false))
    (rw same at c.put_text-written.ensures)
