-- What the bytes of a split say of its list.
use Rattle.std.specs.Prelude.{Ok, Err}
use mathlib.Core.Path.{◌≡◌}
use mathlib.Core.Bool.{false, cond}
use mathlib.Core.List.{List}
use Prim.Native.Nat.{ℕ, ◌+◌, ◌<◌, ◌≤◌}
use native.Mathlib.Omega.{arith}
use borrow.Author.Tests.{ne_eqb}
use lib.Dec.{eqb}
use lib.ListN.{length, get_or}
use Rattle.rules.specs.declared.operator.Operator.{Operator}
use Rattle.rules.specs.Form.{OperatorForm, after, byte_at, list_at, split_at}
use Rattle.rules.proofs.Bytes.Fields.{bad_operator, same_operator, after_got}
use Rattle.rules.proofs.Bytes.Listed.{list_says}
use Rattle.operators.specs.Split.{SplitForm}
use Rattle.operators.specs.Part.{ListForm}

module _ {s : List ℕ} {dim cell list : ℕ} (S : SplitForm s dim cell list) where
  -- after the number there is a list
  list_after : (x : ℕ) → 2 ≤ dim
      → cond {A = OperatorForm} (eqb dim 1) (Ok (Operator.Split dim x (S.at + 1), S.at + 1))
      (after (list_at false s (S.at + 1)) Err λ next. Ok (Operator.Split dim x (S.at + 1), next))
      ≡ Ok (Operator.Split dim cell list, S.next)
      → list + get_or s list 0 < length s
  list_after x h e =
      let b = after_got (list_at false s (S.at + 1)) bad_operator (rw (ne_eqb dim 1 (omega arith)) at e) in
      let L = list_says false s (S.at + 1) b.0 b.1 in
      let o = (same_operator b.2).0 in
      let q : S.at + 1 ≡ list = cc o in
      rw (← q) (omega (arith, L.next-is, L.inside))

  list_there : 2 ≤ dim → list + get_or s list 0 < length s
  unfolding split_at
  list_there h = let a = after_got (byte_at s S.at 0 255) bad_operator S.form in list_after a.0 h a.2

  pub list_form : ListForm s dim list
  list_form = record { least = S.least; inside = list_there }
