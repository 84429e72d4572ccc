-- `operators::faces::draw_pairs` meets its contract: after k turns the first k pairs are added up, and the others are left.
use mathlib.Core.Path.{◌≡◌, refl, sym, ap, ◌∙◌}
use mathlib.Core.List.{List}
use Prim.Native.Nat.{ℕ, ◌+◌, ◌*◌, ◌<◌, ◌≤◌}
use native.Mathlib.Omega.{arith}
use lib.IntN.{ℤ, pos, nat_abs}
use lib.ListN.{length, get_or, set, drop, length-drop}
use mir.Syntax.{w8}
use Rattle.std.specs.Slice.Iter.{chunks_exact_rest}
use Rattle.std.proofs.lemmas.List.{length_push}
use Rattle.rules.specs.Form.{sign_of}
use Rattle.maths.proofs.Sizes.{plus_fits, plus-is}
use Rattle.grid.proofs.Summing.{blank}
use Rattle.operators.specs.Column.{pairs_of}
use Rattle.operators.proofs.make.Bytes.{sign-unit}
use Rattle.operators.proofs.make.Columns.{Summed, Turn, pair_turn, summed_none, summed_more, summed_small, drawn_all, drawn_none}
use Rattle.operators.proofs.faces.draw_pairs.Goals as goal
use Rattle.operators.proofs.faces.draw_pairs.Goals.{In-Some}

pub loop-pair-init : goal.loop-pair-init
loop-pair-init c =
    let same = c.into_iter-pair-iterator.ensures.into_iter_gives in
    record { size = rw same c.chunks_exact-pair-items.ensures.size; rest = rw same c.chunks_exact-pair-items.ensures.rest; summed = summed_none _ _ blank }

-- the pair of this turn
turn : (c : In-Some) → Turn c.args.pairs.now (chunks_exact_rest c.next.new.self) c.in-Some.pair.now (length c.loop-pair.yielded)
turn c = pair_turn (sym c.loop-pair.invariant.rest ∙ c.in-Some.ensures.steps.1.0) (c.in-Some.ensures.steps.1.1 ∙ c.loop-pair.invariant.size)

pub returns-then-n-pair : goal.returns-then-n-pair
returns-then-n-pair c =
    let t = turn (goal.at.returns-then-n-pair c).In-Some in
    drawn_none _ _ t.less (omega (arith, t.number, c.if-n-pair.true))

-- the entry before this turn is small, and the sign is a unit
small : (b : List ℕ) {n k : ℕ} {column : List ℤ} → length b ≤ 192 → Summed (pairs_of b) n k column → (i : ℕ)
    → nat_abs (get_or column i (pos 0)) ≤ 96
small b {n} h s i = summed_small (pairs_of b) n s (omega arith) (λ l. sign-unit (get_or b (2 * l + 1) 0)) i

unit : {z : ℤ} (b : ℕ) → z ≡ sign_of b → nat_abs z ≤ 1
unit b e = rw e (sign-unit b)

pub overflow_add-column : goal.overflow_add-column
overflow_add-column c =
    let i = get_or c.in-Some.pair.now 0 0 in
    plus_fits w8 {x = get_or c.loop-pair.column i (pos 0)} {y = c.sign_of.result} refl refl
    (omega (arith, small c.args.pairs.now c.requires.short c.loop-pair.invariant.summed i, unit _ c.sign_of.ensures))

pub loop-pair-preserved : goal.loop-pair-preserved
loop-pair-preserved c =
    let t = turn (goal.at.loop-pair-preserved c).In-Some in
    let i = get_or c.in-Some.pair.now 0 0 in
    record {
      size = c.in-Some.ensures.steps.0 ∙ c.loop-pair.invariant.size;
      rest = rw length_push t.rest;
      summed = rw length_push (summed_more _ _ c.loop-pair.invariant.summed {i = i} {z = c.sign_of.result} t.less c.requires.few c.if-n-pair.false t.number
          (c.sign_of.ensures ∙ ap sign_of t.sign)
          (ap (set c.loop-pair.column i) (plus-is w8 {x = get_or c.loop-pair.column i (pos 0)} {y = c.sign_of.result} refl refl
          (omega (arith, small c.args.pairs.now c.requires.short c.loop-pair.invariant.summed i, unit _ c.sign_of.ensures)))));
    }

pub returns : goal.returns
returns c =
    let short : length (drop (2 * length c.loop-pair.yielded) c.args.pairs.now) < 2 =
    rw (c.loop-pair.invariant.rest, c.loop-pair.invariant.size) at c.in-None.ensures.steps.1.0 in
    drawn_all _ _ c.loop-pair.invariant.summed (omega (arith, length-drop {A = ℕ}, short))
