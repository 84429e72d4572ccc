-- An operator that was read has the form that its code asks for.
use Rattle.std.specs.Prelude.{Ok, Option, Some, None}
use mathlib.Core.Path.{◌≡◌, sym}
use mathlib.Core.Bool.{false}
use mathlib.Core.List.{List}
use Prim.Native.Nat.{ℕ, zero, suc, ◌+◌, ◌≤◌}
use native.Mathlib.Omega.{arith}
use lib.Dec.{eqb}
use lib.ListN.{get_or}
use Rattle.maths.proofs.Cases.{bool_or}
use Rattle.rules.specs.declared.form.Fault.{Fault}
use Rattle.rules.specs.declared.form.Code.{Code}
use Rattle.rules.specs.declared.operator.Operator.{Operator}
use Rattle.rules.specs.Form.{code_of, list_at, make_at, split_at, cell_at, operands_at, operator_at}
use Rattle.rules.proofs.Bytes.Fields.{bad_operator, after_got, byte_after, same_operator}
use Rattle.rules.proofs.Bytes.Decoded.{Formed, seam_bytes, list_bytes, decoded}
use Rattle.operators.specs.Cells.{Dimension}
use Rattle.operators.specs.Split.{SplitForm}
use Rattle.operators.specs.Column.{MakeForm}
use Rattle.engine.specs.Source.{ReadFrom}

-- what each kind needs of its bytes
abbrev pub Shaped : List ℕ → Operator → Type 0
Shaped s (Operator.Make k list) = MakeForm s k list
Shaped s (Operator.Kill k c) = Dimension 0 3 k
Shaped s (Operator.Split k c list) = SplitForm s k c list
Shaped s (Operator.Merge k t) = Dimension 0 2 k
Shaped s (Operator.Flip k c) = Dimension 1 3 k

module _ (s : List ℕ) (at : ℕ) {o : Operator} {next : ℕ} where
  make-is : (k : ℕ) → make_at s k at ≡ Ok (o, next) → o ≡ Operator.Make k at
  unfolding make_at
  make-is zero e = sym (same_operator e).0
  make-is (suc zero) e = (seam_bytes s at e).0
  make-is (suc (suc q)) e = (list_bytes s at q e).0

  split-is : (k : ℕ) → split_at s k at ≡ Ok (o, next) → o ≡ Operator.Split k (get_or s at 0) (at + 1)
  unfolding split_at
  split-is k e =
      let a = byte_after s at 0 255 _ bad_operator e in
      bool_or (eqb k 1)
      (λ t. sym (same_operator (rw t at a.1)).0)
      (λ t. let b = after_got (list_at false s (at + 1)) bad_operator (rw t at a.1) in sym (same_operator b.2).0)

  cell-is : (f : ℕ → Operator) → cell_at s f at ≡ Ok (o, next) → o ≡ f (get_or s at 0)
  unfolding cell_at
  cell-is f e = let a = byte_after s at 0 255 _ bad_operator e in sym (same_operator a.1).0

  make_shaped : (k : ℕ) → Formed s o → make_at s k at ≡ Ok (o, next) → Shaped s o
  make_shaped k F e =
      let p = make-is k e in
      let G : Formed s (Operator.Make k at) = rw p at F in
      rw p (record { most = G.0; next = next; form = rw p at e })

  split_shaped : (k : ℕ) → Formed s o → split_at s k at ≡ Ok (o, next) → Shaped s o
  split_shaped k F e =
      let p = split-is k e in
      let G : Formed s (Operator.Split k (get_or s at 0) (at + 1)) = rw p at F in
      rw p (record { least = G.0; most = G.1; at = at; next = next; form = rw p at e })

  kill_shaped : (k : ℕ) → Formed s o → cell_at s (Operator.Kill k) at ≡ Ok (o, next) → Shaped s o
  kill_shaped k F e =
      let p = cell-is (Operator.Kill k) e in
      let G : k ≤ 3 = rw p at F in
      rw p (record { low = omega arith; high = G })

  merge_shaped : (k : ℕ) → Formed s o → cell_at s (Operator.Merge k) at ≡ Ok (o, next) → Shaped s o
  merge_shaped k F e =
      let p = cell-is (Operator.Merge k) e in
      let G : k ≤ 2 = rw p at F in
      rw p (record { low = omega arith; high = G })

  flip_shaped : (k : ℕ) → Formed s o → cell_at s (Operator.Flip k) at ≡ Ok (o, next) → Shaped s o
  flip_shaped k F e =
      let p = cell-is (Operator.Flip k) e in
      let G : (1 ≤ k) × (k ≤ 3) = rw p at F in
      rw p (record { low = G.0; high = G.1 })

module _ (s : List ℕ) (at : ℕ) {o : Operator} {next : ℕ} (F : Formed s o) where
  operands_shaped : (c : Option Code) → operands_at s at c ≡ Ok (o, next) → Shaped s o
  operands_shaped (Some (Code.Make k)) e = make_shaped s (at + 1) k F e
  operands_shaped (Some (Code.Kill k)) e = kill_shaped s (at + 1) k F e
  operands_shaped (Some (Code.Split k)) e = split_shaped s (at + 1) k F e
  operands_shaped (Some (Code.Merge k)) e = merge_shaped s (at + 1) k F e
  operands_shaped (Some (Code.Flip k)) e = flip_shaped s (at + 1) k F e
  operands_shaped None e = absurd (bad_operator (Fault.Wrong at) e)

module _ {s : List ℕ} {o : Operator} (R : ReadFrom s o) where
  pub operator_formed : Formed s o
  operator_formed = (decoded s R.at R.form).0

  pub shaped : Shaped s o
  unfolding operator_at
  shaped = operands_shaped s R.at operator_formed (code_of (get_or s R.at 0)) (byte_after s R.at 0 255 _ bad_operator R.form).1
