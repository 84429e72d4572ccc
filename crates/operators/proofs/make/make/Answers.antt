-- `operators::make::make` meets its contract: its tests are those of `make_step`, in the same order, and the column that is stored is the chain of the faces.
use mathlib.Core.Path.{◌≡◌, ap, ◌∙◌}
use Prim.Native.Nat.{ℕ, pred, ◌-◌, ◌<◌, ◌≤◌}
use native.Mathlib.Omega.{arith}
use Rattle.rules.specs.Counts.{count_of}
use Rattle.rules.specs.Complex.{Pattern, complex}
use Rattle.rules.specs.Lending.{lent_by}
use Rattle.rules.specs.Form.{made_of}
use Rattle.rules.proofs.Bytes.Faces.{given-units}
use Rattle.operators.proofs.make.Bytes.{make-formed}
use Rattle.rules.proofs.Storage.Stored.{count-is}
use Rattle.operators.proofs.Patterns.Counted.{count-below}
use Rattle.operators.specs.Column.{drawn}
use Rattle.operators.proofs.make.Columns.{Drawn, got_drawn, not-drawn}
use Rattle.operators.proofs.make.Made.{no_such_face, full, not-closed, made_is}
use Rattle.operators.proofs.make.make.Goals as goal
use Rattle.operators.proofs.make.make.Goals.{In-Some, Else-p-k-ge-MOST}

-- how many cells the faces are to be among
cells : {k : ℕ} (p : Pattern) (dim : ℕ) → dim ≤ 3 → k ≡ dim - 1 → count_of p.counts k ≡ (complex p (pred dim)).n
cells p dim most e = rw e (count-below p dim most)

pub draw-requires : goal.draw-requires
draw-requires c =
    let held = c.requires.held in
    let form = c.requires.make_form in
    let entry = lent_by c.args.p.now in
    record { bytes = form; few = rw (cells entry c.args.dim form.most c.saturating_sub.ensures) (held.good.few (pred c.args.dim)) }

pub returns-in_default-clause-does : goal.returns-in_default-clause-does
returns-in_default-clause-does c =
    let entry = lent_by c.args.p.now in
    let faces = made_of c.args.s.now c.args.dim c.args.list in
    no_such_face entry c.args.dim faces
    (not-drawn _ faces (c.in_default.ensures ∙ ap (λ n. drawn n faces) (cells entry c.args.dim c.requires.make_form.most c.saturating_sub.ensures)))

-- all faces are cells, and the column is their chain
column : (c : In-Some) → let a = c.args in
    Drawn (complex (lent_by a.p.now) (pred a.dim)).n (made_of a.s.now a.dim a.list) c.in-Some.column
column c =
    let a = c.args in
    let entry = lent_by a.p.now in
    got_drawn _ _ (c.requires.held.good.few (pred a.dim))
    (c.in-Some.ensures ∙ ap (λ n. drawn n (made_of a.s.now a.dim a.list)) (cells entry a.dim c.requires.make_form.most c.saturating_sub.ensures))

pub returns-then-p-k-ge-MOST-clause-does : goal.returns-then-p-k-ge-MOST-clause-does
returns-then-p-k-ge-MOST-clause-does c =
    let entry = lent_by c.args.p.now in
    let faces = made_of c.args.s.now c.args.dim c.args.list in
    let form = c.requires.make_form in
    full entry c.args.dim faces (column (goal.at.returns-then-p-k-ge-MOST-clause-does c).In-Some).below
    (omega (arith, count-is entry c.args.dim form.most, c.if-p-k-ge-MOST.true))

-- there is room
room : (c : Else-p-k-ge-MOST) → (complex (lent_by c.args.p.now) c.args.dim).n < 96
room c =
    let entry = lent_by c.args.p.now in
    let form = c.requires.make_form in
    omega (arith, count-is entry c.args.dim form.most, c.if-p-k-ge-MOST.false)

pub append-requires : goal.append-requires
append-requires c =
    let held = c.requires.held in
    let form = c.requires.make_form in
    let drawn = column (goal.at.append-requires c).In-Some in
    record {
      dim = form.most;
      held = held;
      room = room (goal.at.append-requires c).Else-p-k-ge-MOST;
      size = drawn.size;
      unit = λ i. rw (ap (λ x. x i) drawn.chain) (given-units (made_of c.args.s.now c.args.dim c.args.list) (make-formed form).1 i);
    }

pub returns-then-not-append-clause-does : goal.returns-then-not-append-clause-does
returns-then-not-append-clause-does c =
    let entry = lent_by c.args.p.now in
    let faces = made_of c.args.s.now c.args.dim c.args.list in
    let drawn = column (goal.at.returns-then-not-append-clause-does c).In-Some in
    rw c.append.ensures.counts
    (not-closed entry c.args.dim faces drawn.below (room (goal.at.returns-then-not-append-clause-does c).Else-p-k-ge-MOST)
    drawn.chain (rw c.if-not-append.true at c.append.ensures.does))

pub returns-clause-does : goal.returns-clause-does
returns-clause-does c =
    let entry = lent_by c.args.p.now in
    let faces = made_of c.args.s.now c.args.dim c.args.list in
    let held = c.requires.held in
    let form = c.requires.make_form in
    let drawn = column (goal.at.returns-clause-does c).In-Some in
    rw (c.grown-p.ensures, c.append.ensures.counts)
    (made_is entry c.args.dim faces drawn.below (room (goal.at.returns-clause-does c).Else-p-k-ge-MOST)
    drawn.chain held.sized form.most (rw c.if-not-append.false at c.append.ensures.does))
