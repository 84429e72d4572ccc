-- An operator of a script, cut out of the script's bytes, is read as the same operator.
use Rattle.std.specs.Prelude.{Ok}
use mathlib.Core.Path.{◌≡◌, sym, ap, ◌∙◌}
use mathlib.Core.List.{List}
use Prim.Native.Nat.{ℕ, ◌+◌, ◌-◌, ◌<◌, ◌≤◌}
use native.Mathlib.Omega.{arith}
use borrow.Author.Tests.{le-ltb}
use lib.ListN.{length, get_or, take, drop, length-drop}
use lib.Seq.{get_or-take, get_or-drop, length-take-le}
use Rattle.rules.specs.declared.operator.Operator.{Operator}
use Rattle.rules.specs.Complex.{Complex}
use Rattle.rules.specs.Operators.{amount_of, step}
use Rattle.rules.specs.Form.{operator_at, lone_operator, faces_of}
use Rattle.rules.specs.Chains.{carry_step}
use Rattle.rules.proofs.Bytes.Decoded.{decoded}
use Rattle.rules.proofs.Bytes.Alike.{alike_steps, alike_carries, alike_amount}
use Rattle.rules.proofs.Bytes.Copied.{Stretch, operator_again}

-- the bytes of s from `at` up to `next`
abbrev pub bytes_from : List ℕ → ℕ → ℕ → List ℕ
bytes_from s at next = take (next - at) (drop at s)

-- the operator o, which stands in s from `at` up to `next`, as it is read from its own bytes alone
pub record Alone (s : List ℕ) (at : ℕ) (o : Operator) (next : ℕ) : Type 0 where
  pub own : Operator
  pub form : lone_operator (bytes_from s at next) ≡ Ok (own, next - at)
  pub steps : (X : Complex) → step own (faces_of (bytes_from s at next) own) X ≡ step o (faces_of s o) X
  pub carries : (X : Complex) → carry_step own (faces_of (bytes_from s at next) own) X ≡ carry_step o (faces_of s o) X
  pub amount : amount_of own ≡ amount_of o

-- how many they are, and each of them
module _ (s : List ℕ) (at next : ℕ) (h : next ≤ length s) where
  bytes-length : length (bytes_from s at next) ≡ next - at
  bytes-length = length-take-le (next - at) (drop at s) (rw length-drop (omega arith))

  bytes_copied : (p q : ℕ) → p ≡ at + q → q < length (bytes_from s at next) → get_or (bytes_from s at next) q 0 ≡ get_or s p 0
  bytes_copied p q e l =
      get_or-take (next - at) (drop at s) q 0 (omega (arith, bytes-length)) ∙ get_or-drop at s q 0 ∙ ap (λ i. get_or s i 0) (sym e)

pub alone : (s : List ℕ) (at : ℕ) {o : Operator} {next : ℕ} → operator_at s at ≡ Ok (o, next) → Alone s at o next
unfolding lone_operator
alone s at {o} {next} e =
    let d = decoded s at e in
    let n : length (bytes_from s at next) ≡ next - at = bytes-length s at next d.2 in
    let H : Stretch (bytes_from s at next) at at 0 next (next - at) = record { start = omega arith; stop = omega (arith, d.1); inside = omega arith } in
    let r = operator_again (bytes_from s at next) s at (bytes_copied s at next d.2) H e in
    record {
      own = r.own;
      form = rw (r.reads, le-ltb (next - at) (length (bytes_from s at next)) (omega arith));
      steps = alike_steps r.is;
      carries = alike_carries r.is;
      amount = alike_amount r.is;
    }
