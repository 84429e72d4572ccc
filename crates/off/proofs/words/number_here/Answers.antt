-- `number_here` takes digit after digit, and what is still to be read, after those that were, is always the whole; of eight digits it reads no more.
use Rattle.std.proofs.Common.{◌≡◌, ◌<◌, true, false, length, get_or, inl, inr, refl, arith}
use Rattle.off.specs.Words.{is_digit}
use Rattle.off.proofs.words.Numbers.{rest_of, counted_none, counted_more, value_fits, digit_past, no_number, a_number}
use Rattle.off.proofs.words.number_here.Goals as goal
use Rattle.off.proofs.words.number_here.Goals.{Left-loop-b, Else-not-is_digit, Else-count-eq7, else-loop-b-test, then-loop-b-test+then-not-is_digit, then-count-lt1-via-then-count-lt1, then-count-lt1-via-else-count-lt1+then-not-word_ends}

pub loop-b-init : goal.loop-b-init
loop-b-init c = record { place = refl; counted = counted_none c.args.s.now }

-- a digit follows those that were counted
inside : (c : Else-not-is_digit) → c.loop-b.count < length c.args.s.now
inside c = let place = c.loop-b.invariant.place in omega arith

more : (c : Else-not-is_digit) → is_digit (get_or c.args.s.now c.loop-b.count 0) ≡ true
more c = let place = c.loop-b.invariant.place in rw place (cc)

-- or none
over : (c : Left-loop-b) → c.loop-b.count < length c.args.s.now → is_digit (get_or c.args.s.now c.loop-b.count 0) ≡ false
over c h = let place = c.loop-b.invariant.place in elim c.loop-b-test.branch [
  | else-loop-b-test w ↦ absurd (omega arith)
  | then-loop-b-test+then-not-is_digit w ↦ rw place (cc)
]

pub returns-then-count-eq7 : goal.returns-then-count-eq7
returns-then-count-eq7 c =
    let d = (goal.at.returns-then-count-eq7 c).Else-not-is_digit in
    digit_past c.loop-b.invariant.counted (inside d) (more d) c.if-count-eq7.true

pub overflow_sub-b : goal.overflow_sub-b
overflow_sub-b c =
    let d = (goal.at.overflow_sub-b c).Else-not-is_digit in
    rw (← c.loop-b.invariant.place) (value_fits c.loop-b.invariant.counted (inside d) (more d) c.if-count-eq7.false).0

pub loop-b-preserved : goal.loop-b-preserved
loop-b-preserved c =
    let d = (goal.at.loop-b-preserved c).Else-not-is_digit in
    let place = c.loop-b.invariant.place in
    record {
      place = omega arith;
      counted = rw (c.from.ensures, ← place) (counted_more c.loop-b.invariant.counted (inside d) (more d) c.if-count-eq7.false);
    }

pub returns-then-count-lt1 : goal.returns-then-count-lt1
returns-then-count-lt1 c =
    no_number c.loop-b.invariant.counted (over (goal.at.returns-then-count-lt1 c).Left-loop-b) (elim c.then-count-lt1.branch [
      | then-count-lt1-via-then-count-lt1 w ↦ inl w.if-count-lt1.true
      | then-count-lt1-via-else-count-lt1+then-not-word_ends w ↦ inr (rw (← rest_of c.args.s.now c.loop-b.count) (cc))
    ])

pub returns : goal.returns
returns c =
    rw (rest_of c.args.s.now c.loop-b.count)
    (a_number c.loop-b.invariant.counted (over (goal.at.returns c).Left-loop-b) c.if-count-lt1.false (rw (← rest_of c.args.s.now c.loop-b.count) (cc)))
