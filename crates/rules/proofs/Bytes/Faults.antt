-- Where a fault of the form lies: 3 at the end of the bytes, 4 and 14 at one of them; and not far behind the place where the reading began.
use Rattle.std.specs.Prelude.{Option, Some, Ok, Err, None}
use mathlib.Core.Path.{◌≡◌, refl, sym, ◌∙◌}
use mathlib.Core.Bool.{Bool, true, false}
use mathlib.Core.List.{List}
use Prim.Native.Nat.{ℕ, zero, suc, ◌+◌, ◌*◌, ◌<◌, ◌≤◌}
use native.Mathlib.Omega.{arith}
use borrow.Author.Tests.{ltb-true, ltb-false, leb-true}
use lib.Dec.{eqb, ltb, leb}
use lib.ListN.{length, get_or}
use Rattle.maths.specs.Repeat.{repeat}
use Rattle.maths.proofs.Cases.{no_eq, and_left, and_right}
use Rattle.rules.specs.declared.form.Fault.{Fault}
use Rattle.rules.specs.declared.form.Code.{Code}
use Rattle.rules.specs.declared.operator.Operator.{Operator}
use Rattle.rules.specs.Refusals.{bytes_end, wrong_form, bytes_left, no_place}
use Rattle.rules.specs.Form.{fault_number, fault_place, is_fault, within, byte_at, word_at, after, after_entry, after_operator, code_of, entry_at, entries_at, list_at, make_at, split_at, cell_at, operands_at, operator_at, lone_operator, counts_at, operators_at, script_form, Field, EntryForm, OperatorForm}
use Rattle.rules.proofs.Branches.Branches.{cond_each}
use Rattle.rules.proofs.Bytes.Fields.{Byte, bad_field, bad_operator}

-- "for 4 the first byte of the faulty field, for 14 the first byte left over, for 3 the length of the bytes", and no place for any other number
pub data Located (s : List ℕ) : ℕ → ℕ → Type 0 where
  ends : Located s bytes_end (length s)
  wrong : {at : ℕ} → at < length s → Located s wrong_form at
  left : {at : ℕ} → at < length s → Located s bytes_left at
  nowhere : {r : ℕ} → is_fault r ≡ false → Located s r no_place

-- so a fault's place is in the bytes, and what is no fault has none
pub fault_inside : {s : List ℕ} {r at : ℕ} → Located s r at → is_fault r ≡ true → at ≤ length s
fault_inside ends e = omega arith
fault_inside (wrong l) e = omega arith
fault_inside (left l) e = omega arith
fault_inside (nowhere n) e = no_eq (sym n ∙ e)

pub no_place_lem : {s : List ℕ} {r at : ℕ} → Located s r at → is_fault r ≡ false → at ≡ no_place
no_place_lem ends e = no_eq (sym e)
no_place_lem (wrong l) e = no_eq (sym e)
no_place_lem (left l) e = no_eq (sym e)
no_place_lem (nowhere n) e = refl

-- a fault of the bytes s, at most at `most`
pub record Lies (s : List ℕ) (most : ℕ) (f : Fault) : Type 0 where
  pub located : Located s (fault_number f) (fault_place f)
  pub inside : fault_place f ≤ length s
  pub near : fault_place f ≤ most

ends_lies : {s : List ℕ} {most : ℕ} → length s ≤ most → Lies s most (Fault.Ends (length s))
ends_lies h = record { located = ends; inside = omega arith; near = h }

wrong_lies : {s : List ℕ} {most at : ℕ} → at < length s → at ≤ most → Lies s most (Fault.Wrong at)
wrong_lies l h = record { located = wrong l; inside = omega arith; near = h }

left_lies : {s : List ℕ} {most at : ℕ} → at < length s → at ≤ most → Lies s most (Fault.Left at)
left_lies l h = record { located = left l; inside = omega arith; near = h }

pub further : {s : List ℕ} {near far : ℕ} {f : Fault} → near ≤ far → Lies s near f → Lies s far f
further h L = record { located = L.located; inside = L.inside; near = omega (arith, L.near) }

here : {s : List ℕ} {most : ℕ} {f : Fault} → Lies s most f → Lies s (length s) f
here L = record { located = L.located; inside = L.inside; near = L.inside }

-- what was read has the property Q, or a fault lies there; of a field, an entry and an operator
abbrev pub FieldOr : List ℕ → ℕ → (ℕ → Type 0) → Field → Type 0
FieldOr s most Q (Ok x) = Q x
FieldOr s most Q (Err f) = Lies s most f

abbrev EntryOr : List ℕ → ℕ → EntryForm → Type 0
EntryOr s most (Ok (low, next)) = next ≤ most
EntryOr s most (Err f) = Lies s most f

abbrev pub OperatorOr : List ℕ → ℕ → OperatorForm → Type 0
OperatorOr s most (Ok (o, next)) = next ≤ most
OperatorOr s most (Err f) = Lies s most f

reached : (s : List ℕ) {near far : ℕ} (f : Field) → near ≤ far → FieldOr s near (λ x. Unit {0}) f → FieldOr s far (λ x. Unit {0}) f
reached s (Ok x) h q = tt
reached s (Err f) h L = further h L

onward : (s : List ℕ) {near far : ℕ} (f : OperatorForm) → near ≤ far → OperatorOr s near f → OperatorOr s far f
onward s (Ok (o, next)) h l = omega arith
onward s (Err f) h L = further h L

-- the fault of a field, and of an operator
pub field_fault : (s : List ℕ) {most : ℕ} {g : Fault} (f : Field) → FieldOr s most (λ x. Unit {0}) f → f ≡ Err g → Lies s most g
field_fault s {g = g} (Ok x) q e = absurd (bad_field g (sym e))
field_fault s {g = g} (Err f) L e = let q : f ≡ g = cc e in rw q at L

pub operator_fault : (s : List ℕ) {most : ℕ} {g : Fault} (f : OperatorForm) → OperatorOr s most f → f ≡ Err g → Lies s most g
operator_fault s {g = g} (Ok (o, next)) l e = absurd (bad_operator g (sym e))
operator_fault s {g = g} (Err f) L e = let q : f ≡ g = cc e in rw q at L

module _ {A : Type 0} (P : A → Type 0) {s : List ℕ} {most : ℕ} where
  pub field_or : {Q : ℕ → Type 0} {bad : Fault → A} {go : ℕ → A} (f : Field) → FieldOr s most Q f → ((g : Fault) → Lies s most g → P (bad g)) →
      ((x : ℕ) → Q x → P (go x)) → P (after f bad go)
  field_or (Ok x) h bad go = go x h
  field_or (Err g) h bad go = bad g h

  entry_or : {bad : Fault → A} {go : ℕ → ℕ → A} (f : EntryForm) → EntryOr s most f → ((g : Fault) → Lies s most g → P (bad g)) →
      ((low next : ℕ) → next ≤ most → P (go low next)) → P (after_entry f bad go)
  entry_or (Ok (low, next)) h bad go = go low next h
  entry_or (Err g) h bad go = bad g h

  pub operator_or : {bad : Fault → A} {go : Operator → ℕ → A} (f : OperatorForm) → OperatorOr s most f → ((g : Fault) → Lies s most g → P (bad g)) →
      ((o : Operator) (next : ℕ) → f ≡ Ok (o, next) → next ≤ most → P (go o next)) → P (after_operator f bad go)
  operator_or (Ok (o, next)) h bad go = go o next refl h
  operator_or (Err g) h bad go = bad g h

module _ (s : List ℕ) where
  pub byte_lies : (at low high : ℕ) → FieldOr s at (Byte s at low high) (byte_at s at low high)
  unfolding byte_at
  byte_lies at low high =
      let P = FieldOr s at (Byte s at low high) in
      let x = get_or s at 0 in
      cond_each P (ltb at (length s))
      (λ t. cond_each P (within low high x)
      (λ w. record { there = ltb-true at (length s) t; is = refl; least = leb-true low x (and_left (leb low x) (leb x high) w); most = leb-true x high (and_right (leb low x) (leb x high) w) })
      (λ w. wrong_lies (ltb-true at (length s) t) (omega arith)))
      (λ t. ends_lies (ltb-false at (length s) t))

  word_lies : (at high : ℕ) → FieldOr s (at + 1) (λ x. Unit {0}) (word_at s at high)
  unfolding word_at
  word_lies at high =
      let P = FieldOr s (at + 1) (λ x. Unit {0}) in
      cond_each P (ltb (at + 1) (length s))
      (λ t. cond_each P (within 0 high (get_or s at 0 + 256 * get_or s (at + 1) 0)) (λ w. tt) (λ w. let l : at < length s = omega (arith, ltb-true (at + 1) (length s) t) in wrong_lies {most = at + 1} l (omega arith)))
      (λ t. ends_lies (ltb-false (at + 1) (length s) t))

  entry_lies : (signed : Bool) (at low : ℕ) → EntryOr s (at + 2) (entry_at signed s at low)
  unfolding entry_at
  entry_lies signed at low =
      let P = EntryOr s (at + 2) in
      field_or P (byte_at s at low 255) (byte_lies at low 255) (λ g. further (omega arith)) λ x _.
      cond_each P signed
      (λ t. field_or P (byte_at s (at + 1) 1 2) (byte_lies (at + 1) 1 2) (λ g. further (omega arith)) (λ sign _. omega arith))
      (λ t. omega arith)

  -- entries of two bytes at most
  entries-lie : (signed : Bool) (most n at low : ℕ) → at + 2 * n ≤ most → FieldOr s most (λ next. next ≤ most)
      (repeat {S = ℕ × ℕ} (λ x go. after_entry (entry_at signed s x.0 x.1) Err λ low next. go (next, low)) (λ x. Ok x.0) n (at, low))
  unfolding repeat
  entries-lie signed most zero at low h = omega arith
  entries-lie signed most (suc n) at low h =
      entry_or (FieldOr s most (λ next. next ≤ most)) (entry_at signed s at low) (entry_lies signed at low) (λ g. further (omega arith)) λ low' next l.
      entries-lie signed most n next low' (omega arith)

  list_lies : (signed : Bool) (at : ℕ) → FieldOr s (at + 193) (λ next. next ≤ at + 193) (list_at signed s at)
  unfolding list_at entries_at
  list_lies signed at =
      field_or (FieldOr s (at + 193) (λ next. next ≤ at + 193)) (byte_at s at 0 96) (byte_lies at 0 96) (λ g. further (omega arith)) λ n B.
      entries-lie signed (at + 193) n (at + 1) 0 (omega (arith, B.most))

  -- what stands after the code
  pub make_lies : (k at : ℕ) → OperatorOr s (at + 193) (make_at s k at)
  unfolding make_at
  make_lies k at =
      let P = OperatorOr s (at + 193) in
      cond_each P (eqb k 0) (λ t. omega arith) λ t.
      cond_each P (eqb k 1)
      (λ u. field_or P (byte_at s at 0 255) (byte_lies at 0 255) (λ g. further (omega arith)) λ tail _.
      field_or P (byte_at s (at + 1) 0 255) (byte_lies (at + 1) 0 255) (λ g. further (omega arith)) (λ head _. omega arith))
      (λ u. field_or P (list_at true s at) (list_lies true at) (λ g L. L) (λ next l. l))

  split_lies : (k at : ℕ) → OperatorOr s (at + 194) (split_at s k at)
  unfolding split_at
  split_lies k at =
      let P = OperatorOr s (at + 194) in
      field_or P (byte_at s at 0 255) (byte_lies at 0 255) (λ g. further (omega arith)) λ c _.
      cond_each P (eqb k 1) (λ t. omega arith)
      (λ t. field_or P (list_at false s (at + 1)) (list_lies false (at + 1)) (λ g. further (omega arith)) (λ next l. omega arith))

  cell_lies : (o : ℕ → Operator) (at : ℕ) → OperatorOr s (at + 194) (cell_at s o at)
  unfolding cell_at
  cell_lies o at = field_or (OperatorOr s (at + 194)) (byte_at s at 0 255) (byte_lies at 0 255) (λ g. further (omega arith)) (λ c _. omega arith)

  operands_lie : (at : ℕ) → at < length s → (c : Option Code) → OperatorOr s (at + 195) (operands_at s at c)
  operands_lie at h (Some (Code.Make k)) = onward s (make_at s k (at + 1)) (omega arith) (make_lies k (at + 1))
  operands_lie at h (Some (Code.Kill k)) = onward s (cell_at s (Operator.Kill k) (at + 1)) (omega arith) (cell_lies (Operator.Kill k) (at + 1))
  operands_lie at h (Some (Code.Split k)) = onward s (split_at s k (at + 1)) (omega arith) (split_lies k (at + 1))
  operands_lie at h (Some (Code.Merge k)) = onward s (cell_at s (Operator.Merge k) (at + 1)) (omega arith) (cell_lies (Operator.Merge k) (at + 1))
  operands_lie at h (Some (Code.Flip k)) = onward s (cell_at s (Operator.Flip k) (at + 1)) (omega arith) (cell_lies (Operator.Flip k) (at + 1))
  operands_lie at h None = wrong_lies h (omega arith)

  pub operator_lies : (at : ℕ) → OperatorOr s (at + 195) (operator_at s at)
  unfolding operator_at
  operator_lies at =
      field_or (OperatorOr s (at + 195)) (byte_at s at 0 255) (byte_lies at 0 255) (λ g. further (omega arith)) (λ b B. operands_lie at B.there (code_of b))

  -- the bytes of one operator, and a script
  pub lone_lies : OperatorOr s 195 (lone_operator s)
  unfolding lone_operator
  lone_lies =
      let P = OperatorOr s 195 in
      operator_or P (operator_at s 0) (operator_lies 0) (λ g L. L) λ o next e l.
      cond_each P (ltb next (length s)) (λ t. left_lies (ltb-true next (length s) t) l) (λ t. l)

  counts-lie : (n at : ℕ) → FieldOr s (at + n) (λ next. Unit {0}) (counts_at s n at)
  unfolding counts_at repeat
  counts-lie zero at = tt
  counts-lie (suc n) at =
      let P = FieldOr s (at + suc n) (λ next. Unit {0}) in
      field_or P (byte_at s at 0 96) (byte_lies at 0 96) (λ g. further (omega arith)) (λ x B. reached s (counts_at s n (at + 1)) (omega arith) (counts-lie n (at + 1)))

  operators_lie : (count n at : ℕ) → FieldOr s (length s) (λ x. Unit {0}) (operators_at s count n at)
  unfolding operators_at repeat
  operators_lie count zero at =
      cond_each (FieldOr s (length s) (λ x. Unit {0})) (ltb at (length s))
      (λ t. let l = ltb-true at (length s) t in left_lies l (omega (arith, l))) (λ t. tt)
  operators_lie count (suc n) at =
      operator_or (FieldOr s (length s) (λ x. Unit {0})) (operator_at s at) (operator_lies at) (λ g. here)
      (λ o next e l. operators_lie count n next)

  pub script_lies : FieldOr s (length s) (λ n. Unit {0}) (script_form s)
  unfolding script_form
  script_lies =
      let P = FieldOr s (length s) (λ n. Unit {0}) in
      field_or P (byte_at s 0 4 4) (byte_lies 0 4 4) (λ g. here) λ base _.
      field_or P (counts_at s 4 1) (counts-lie 4 1) (λ g. here) λ at _.
      field_or P (word_at s 5 1024) (word_lies 5 1024) (λ g. here) λ count _.
      operators_lie count count 7
