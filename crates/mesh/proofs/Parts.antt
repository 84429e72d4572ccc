-- The parts of the reading: one cell, cells one after another, and a section.
use Rattle.std.specs.Prelude.{Result, Ok, Err}
use mathlib.Core.Path.{◌≡◌, refl, sym, ap, ◌∙◌}
use mathlib.Core.List.{List}
use Prim.Native.Nat.{ℕ, ◌+◌, ◌-◌, ◌<◌, ◌≤◌}
use native.Mathlib.Omega.{arith}
use Rattle.maths.specs.Repeat.{repeat}
use Rattle.maths.proofs.Repeat.{repeat-ended, turned, stopped}
use Rattle.rules.specs.declared.form.Fault.{Fault}
use Rattle.rules.specs.declared.operator.Operator.{Operator}
use Rattle.rules.specs.declared.refusals.Refusal.{Refusal}
use Rattle.rules.specs.declared.refusals.Stop.{Stop}
use Rattle.rules.specs.Complex.{Pattern, complex}
use Rattle.rules.specs.Operators.{make_step, step}
use Rattle.rules.specs.Form.{byte_at, make_at, made_of}
use Rattle.rules.specs.Mesh.{Reading, faulty, refused, Place, read_cell, read_section}
use Rattle.rules.specs.Calls.{lent, applied}
use Rattle.rules.specs.Refusals.{accepted}
use Rattle.rules.specs.Told.{refusal_number}
use Rattle.rules.proofs.Bytes.Decoded.{made}
use Rattle.rules.specs.Good.{Held}
use Rattle.operators.specs.Column.{MakeForm}
use Rattle.rules.proofs.Calls.Left.{applied-held}
use Rattle.operators.proofs.Patterns.Answered.{answer-accepted, answer-refused}
use Rattle.mesh.specs.Reading.{Readable, reached, PartTaken, PartStopped, PartRead}
use Rattle.rules.proofs.Branches.Refused.{not_accepted}

-- a part that is a fault of the form
pub faulted : {part : (Place → Reading) → Reading} {p : Pattern} (f : Fault) → Held p → ((go : Place → Reading) → part go ≡ faulty f) → PartStopped part (Stop.Form f) p
faulted f H is = record { held = H; last = faulty f; is = is; refusal = refl }

-- a part told otherwise
pub went_as : {part part' : (Place → Reading) → Reading} (r : Result ℕ Stop) (p : Pattern)
    → ((go : Place → Reading) → part go ≡ part' go) → PartRead part' r p → PartRead part r p
went_as (Ok at) p same W = record { held = W.held; goes = λ go. same go ∙ W.goes go }
went_as (Err stop) p same W = record { held = W.held; last = W.last; is = λ go. same go ∙ W.is go; refusal = W.refusal }

module _ (s : List ℕ) (k at : ℕ) (p : Pattern) where
  abbrev cell : (Place → Reading) → Reading
  cell = read_cell s k (complex p, at)

  pub cell-faulty : {f : Fault} → make_at s k at ≡ Err f → (go : Place → Reading) → cell go ≡ faulty f
  unfolding read_cell
  cell-faulty e go = rw e

  module _ (R : Readable k p) {o : Operator} {next : ℕ} (f : make_at s k at ≡ Ok (o, next)) where
    decoded : make_at s k at ≡ Ok (Operator.Make k at, next)
    decoded = rw (made s at k R.dim f).0 at f

    pub cell-form : MakeForm s k at
    cell-form = record { most = R.dim; next = next; form = decoded }

    pub cell_taken : {q : Pattern}
        → lent (record { counts = q.counts; refusal = accepted }) q ≡ applied p (make_step k (made_of s k at) (complex p))
        → PartTaken cell next q
    unfolding read_cell step
    cell_taken e =
        let make = Operator.Make k at in
        let F = (made s at k R.dim decoded).1 in
        record {
          held = applied-held R.held s make F e;
          goes = λ go. rw decoded (answer-accepted p s make e refused (λ X. go (X, next)) R.held F refl);
        }

    pub cell_refused : {r : Refusal} {q : Pattern}
        → lent (record { counts = q.counts; refusal = refusal_number r }) q ≡ applied p (make_step k (made_of s k at) (complex p))
        → PartStopped cell (Stop.Meaning r) q
    unfolding read_cell step
    cell_refused {r} e = record {
      held = applied-held R.held s (Operator.Make k at) (made s at k R.dim decoded).1 e;
      last = refused (refusal_number r);
      is = λ go. rw decoded (answer-refused p s (Operator.Make k at) e refused (λ X. go (X, next)) (not_accepted r));
      refusal = refl;
    }

-- n cells: what is left to read from here is the whole
module _ (s : List ℕ) (k n : ℕ) (start : Place) where
  abbrev cells : (Place → Reading) → Reading
  cells go = repeat (read_cell s k) go n start

  pub record CellsLeft (i at : ℕ) (p : Pattern) : Type 0 where
    pub held : Held p
    pub rest : (go : Place → Reading) → repeat (read_cell s k) go (n - i) (reached p at) ≡ cells go

  module _ {i at : ℕ} {p : Pattern} (U : CellsLeft i at p) where
    pub cells_more : {next : ℕ} {q : Pattern} → i < n → PartTaken (read_cell s k (reached p at)) next q → CellsLeft (i + 1) next q
    cells_more {next} {q} h W = record {
      held = W.held;
      rest = λ go.
          ap (λ left. repeat (read_cell s k) go left (reached q next)) (omega arith)
          ∙ turned (read_cell s k) go (reached p at) (omega arith) (λ go. W.goes go) ∙ U.rest go;
    }

    pub cells_stop : {stop : Stop} {q : Pattern} → i < n → PartStopped (read_cell s k (reached p at)) stop q → PartStopped cells stop q
    cells_stop h E = record {
      held = E.held;
      last = E.last;
      is = λ go. sym (U.rest go) ∙ sym (stopped (read_cell s k) go (reached p at) (omega arith) E.is);
      refusal = E.refusal;
    }

    pub cells_end : n ≤ i → PartTaken cells at p
    cells_end h = record {
      held = U.held;
      goes = λ go. sym (U.rest go) ∙ sym (repeat-ended (read_cell s k) go (reached p at) (omega arith) refl);
    }

-- a section: its count, and its cells
module _ (s : List ℕ) (k : ℕ) (x : Place) where
  pub section_faulty : {f : Fault} → byte_at s x.1 0 96 ≡ Err f → (go : Place → Reading) → read_section s k x go ≡ faulty f
  unfolding read_section
  section_faulty e go = rw e

  pub section_is : {n : ℕ} → byte_at s x.1 0 96 ≡ Ok n → (go : Place → Reading) → read_section s k x go ≡ repeat (read_cell s k) go n (x.0, x.1 + 1)
  unfolding read_section
  section_is e go = rw e
