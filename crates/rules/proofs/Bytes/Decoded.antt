-- What a decoded operator says of its bytes: its dimension, the faces of a cell that is made, and the place after it.
use Rattle.std.specs.Prelude.{Option, Some, Ok, None}
use mathlib.Core.Path.{◌≡◌, refl, sym}
use mathlib.Core.Bool.{true, false, cond}
use mathlib.Core.List.{List}
use Prim.Native.Nat.{ℕ, zero, suc, ◌+◌, ◌*◌, ◌<◌, ◌≤◌}
use native.Mathlib.Omega.{arith}
use borrow.Author.Tests.{ne_eqb, leb-true}
use lib.Dec.{eqb, leb}
use lib.IntN.{pos, negsuc, nat_abs}
use lib.ListN.{length, get_or}
use Rattle.maths.proofs.Cases.{bool_or, by_bool, lt_or, and_left, and_right}
use Rattle.rules.specs.declared.form.Fault.{Fault}
use Rattle.rules.specs.declared.form.Code.{Code}
use Rattle.rules.specs.declared.operator.Operator.{Operator}
use Rattle.rules.specs.Form.{within, code_of, list_at, make_at, split_at, cell_at, operands_at, operator_at, sign_of, made_of, OperatorForm}
use Rattle.rules.proofs.Bytes.Fields.{bad_operator, after_got, byte_after, same_operator}
use Rattle.rules.proofs.Bytes.Faces.{Distinct, GivenFaces}
use Rattle.rules.proofs.Bytes.Listed.{Listed, list_says}

-- the faces of a cell that is made

sign-unit : (b : ℕ) → nat_abs (sign_of b) ≡ 1
sign-unit b = by_bool (eqb b 1) (λ t. nat_abs (cond t (pos 1) (negsuc 0)) ≡ 1) (λ _. refl) (λ _. refl)

module _ (s : List ℕ) (at : ℕ) where
  listed-distinct : (q : ℕ) {next : ℕ} → Listed true s at next → Distinct (made_of s (suc (suc q)) at)
  unfolding made_of
  listed-distinct q L = record {
    few = L.few;
    apart = λ l l' h h' a e. lt_or l l' (λ k. omega (arith, L.rising l l' k h')) (λ k. omega (arith, L.rising l' l (omega arith) h));
    signs = λ l h. sign-unit (get_or s (at + 2 + 2 * l) 0);
  }

  corner-given : GivenFaces 0 (made_of s 0 at)
  unfolding made_of
  corner-given = record { corner = λ e. refl; seam = λ e. absurd (omega arith); signed = λ h. absurd (omega arith) }

  seam_given : GivenFaces 1 (made_of s 1 at)
  unfolding made_of
  seam_given = record {
    corner = λ e. absurd (omega arith);
    seam = λ e. record { two = refl; tail = refl; head = refl };
    signed = λ h. absurd (omega arith);
  }

  listed-given : (q : ℕ) {next : ℕ} → Listed true s at next → GivenFaces (suc (suc q)) (made_of s (suc (suc q)) at)
  listed-given q L = record { corner = λ e. absurd (omega arith); seam = λ e. absurd (omega arith); signed = λ h. listed-distinct q L }

-- what a decoded operator says of its bytes: its dimension, and the faces of a cell that is made
abbrev pub Formed : List ℕ → Operator → Type 0
Formed s (Operator.Make k list) = (k ≤ 3) × GivenFaces k (made_of s k list)
Formed s (Operator.Kill k c) = k ≤ 3
Formed s (Operator.Split k c list) = (1 ≤ k) × (k ≤ 3)
Formed s (Operator.Merge k t) = k ≤ 2
Formed s (Operator.Flip k c) = (1 ≤ k) × (k ≤ 3)

-- an operator whose operands start at `at`
record Read (s : List ℕ) (at : ℕ) (o : Operator) (next : ℕ) : Type 0 where
  formed : Formed s o
  after : at ≤ next
  inside : at ≤ length s → next ≤ length s

module _ (s : List ℕ) (at : ℕ) {o : Operator} {next : ℕ} where
  read_as : (o' : Operator) (next' : ℕ) → ◌≡◌ {A = OperatorForm} (Ok (o', next')) (Ok (o, next)) → Formed s o' → at ≤ next' →
      (at ≤ length s → next' ≤ length s) → Read s at o next
  read_as o' next' e f a i =
      let same = same_operator e in
      rw (sym same.0, sym same.1) (record { formed = f; after = a; inside = i })

  -- the bytes of a seam, and of a panel or block
  pub seam_bytes : make_at s 1 at ≡ Ok (o, next) → (o ≡ Operator.Make 1 at) × (next ≡ at + 2) × (at + 1 < length s)
  unfolding make_at
  seam_bytes e =
      let a = byte_after s at 0 255 _ bad_operator e in
      let b = byte_after s (at + 1) 0 255 _ bad_operator a.1 in
      let same = same_operator b.1 in
      (sym same.0, sym same.1, b.0.there)

  pub list_bytes : (q : ℕ) → make_at s (suc (suc q)) at ≡ Ok (o, next) → (o ≡ Operator.Make (suc (suc q)) at) × Listed true s at next
  unfolding make_at
  list_bytes q e =
      let a = after_got (list_at true s at) bad_operator (rw (ne_eqb (suc (suc q)) 0 (omega arith), ne_eqb (suc (suc q)) 1 (omega arith)) at e) in
      let same = same_operator a.2 in
      (sym same.0, rw same.1 at (list_says true s at a.0 a.1))

  make_read : (k : ℕ) → k ≤ 3 → make_at s k at ≡ Ok (o, next) → (o ≡ Operator.Make k at) × Read s at o next
  unfolding make_at
  make_read zero d e = (sym (same_operator e).0, read_as (Operator.Make 0 at) at e (d, corner-given s at) (omega arith) (λ h. h))
  make_read (suc zero) d e =
      let b = seam_bytes e in
      (b.0, rw b.0 (record { formed = (d, seam_given s at); after = omega (arith, b.1); inside = λ h. omega (arith, b.1, b.2) }))
  make_read (suc (suc q)) d e =
      let b = list_bytes q e in
      (b.0, rw b.0 (record { formed = (d, listed-given s at q b.1); after = omega (arith, b.1.next-is); inside = λ h. b.1.inside }))

  split_read : (k : ℕ) → 1 ≤ k → k ≤ 3 → split_at s k at ≡ Ok (o, next) → Read s at o next
  unfolding split_at
  split_read k l d e =
      let a = byte_after s at 0 255 _ bad_operator e in
      let o' = Operator.Split k (get_or s at 0) (at + 1) in
      bool_or (eqb k 1)
      (λ t. read_as o' (at + 1) (rw t at a.1) (l, d) (omega arith) (λ h. omega (arith, a.0.there)))
      (λ t.
      let b = after_got (list_at false s (at + 1)) bad_operator (rw t at a.1) in
      let L = list_says false s (at + 1) b.0 b.1 in
      read_as o' b.0 b.2 (l, d) (omega (arith, L.next-is)) (λ h. L.inside))

  operand_read : (f : ℕ → Operator) → ((c : ℕ) → Formed s (f c)) → cell_at s f at ≡ Ok (o, next) → Read s at o next
  unfolding cell_at
  operand_read f w e =
      let a = byte_after s at 0 255 _ bad_operator e in
      read_as (f (get_or s at 0)) (at + 1) a.1 (w (get_or s at 0)) (omega arith) (λ h. omega (arith, a.0.there))

  pub made : (k : ℕ) → k ≤ 3 → make_at s k at ≡ Ok (o, next) →
      (o ≡ Operator.Make k at) × Formed s o × (at ≤ next) × (at ≤ length s → next ≤ length s)
  made k d e = let r = make_read k d e in (r.0, r.1.formed, r.1.after, r.1.inside)

-- the dimension that a code has
abbrev Coded : Option Code → Type 0
Coded (Some (Code.Make k)) = k ≤ 3
Coded (Some (Code.Kill k)) = k ≤ 3
Coded (Some (Code.Split k)) = (1 ≤ k) × (k ≤ 3)
Coded (Some (Code.Merge k)) = k ≤ 2
Coded (Some (Code.Flip k)) = (1 ≤ k) × (k ≤ 3)
Coded None = Unit {0}

range : (low high b : ℕ) (x y : Option Code) → (low ≤ b → b ≤ high → Coded x) → Coded y → Coded (cond (within low high b) x y)
range low high b x y on off = by_bool (within low high b) (λ t. Coded (cond t x y))
    (λ t. on (leb-true low b (and_left _ _ t)) (leb-true b high (and_right (leb low b) _ t)))
    (λ _. off)

coded : (b : ℕ) → Coded (code_of b)
unfolding code_of
coded b =
    range 0x10 0x13 b _ _ (λ l h. omega arith)
    (range 0x20 0x23 b _ _ (λ l h. omega arith)
    (range 0x31 0x33 b _ _ (λ l h. (omega arith, omega arith))
    (range 0x40 0x42 b _ _ (λ l h. omega arith)
    (range 0x51 0x53 b _ _ (λ l h. (omega arith, omega arith)) tt))))

module _ (s : List ℕ) (at : ℕ) {o : Operator} {next : ℕ} where
  operands_read : (c : Option Code) → Coded c → operands_at s at c ≡ Ok (o, next) → Read s (at + 1) o next
  operands_read (Some (Code.Make k)) d e = (make_read s (at + 1) k d e).1
  operands_read (Some (Code.Kill k)) d e = operand_read s (at + 1) (Operator.Kill k) (λ c. d) e
  operands_read (Some (Code.Split k)) d e = split_read s (at + 1) k d.0 d.1 e
  operands_read (Some (Code.Merge k)) d e = operand_read s (at + 1) (Operator.Merge k) (λ c. d) e
  operands_read (Some (Code.Flip k)) d e = operand_read s (at + 1) (Operator.Flip k) (λ c. d) e
  operands_read None d e = absurd (bad_operator (Fault.Wrong at) e)

  pub decoded : operator_at s at ≡ Ok (o, next) → Formed s o × (at < next) × (next ≤ length s)
  unfolding operator_at
  decoded e =
      let a = byte_after s at 0 255 _ bad_operator e in
      let r = operands_read (code_of (get_or s at 0)) (coded (get_or s at 0)) a.1 in
      (r.formed, omega (arith, r.after), r.inside (omega (arith, a.0.there)))
