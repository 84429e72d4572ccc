-- The two cells on either side of a cell: where its row has 1 and -1, and how merge finds them.
use mathlib.Core.Path.{◌≡◌, sym, ◌∙◌}
use mathlib.Core.Logic.{◌≢◌}
use Prim.Native.Nat.{ℕ, ◌<◌}
use native.Mathlib.Omega.{arith}
use lib.IntN.{pos, neg_ℤ, ◌*ℤ◌}
use Rattle.maths.proofs.Integers.{neg_inj}
use Rattle.maths.proofs.Cases.{lt_or}
use Rattle.maths.proofs.Tests.{zero_is, not-zero, last-is}
use Rattle.rules.specs.Complex.{Chain}
use Rattle.rules.specs.Operators.{lower, higher}
use Rattle.rules.proofs.Layers.Seams.{Ends, one_not_zero}

-- v is 1 and -1, or -1 and 1, at a and b, and 0 elsewhere
pub record Sides (v : Chain) (a b : ℕ) : Type 0 where
  pub less : a < b
  pub high : b < 96
  pub unit : v a *ℤ v a ≡ pos 1
  pub opposite : v b ≡ neg_ℤ (v a)
  pub only : (j : ℕ) → j ≢ a → j ≢ b → v j ≡ pos 0

module _ {v : Chain} {a b : ℕ} (E : Ends v a b) where
  tail-first : a < b → Sides v a b
  tail-first l = record { less = l; high = E.high; unit = rw E.tail; opposite = rw (E.tail, E.head); only = E.only }

  pub head_first : b < a → Sides v b a
  head_first l = record { less = l; high = E.low; unit = rw E.head; opposite = rw (E.tail, E.head); only = λ j f g. E.only j g f }

module _ {v : Chain} {a b : ℕ} (S : Sides v a b) where
  low_face : v a ≢ pos 0
  low_face e = one_not_zero S.unit (rw e)

  pub high_face : v b ≢ pos 0
  high_face e = low_face (neg_inj (v a) (pos 0) (sym S.opposite ∙ e))

  pub higher-is : higher v ≡ b
  higher-is = last-is 96 b S.high (rw (not-zero high_face)) (λ i h l. rw (S.only i (omega (arith, S.less)) (omega arith), zero_is))

  pub lower-is : lower v ≡ a
  lower-is = rw higher-is (last-is b a S.less (rw (not-zero low_face)) (λ i h l. rw (S.only i (omega arith) (omega arith), zero_is)))

-- so merge finds them
sides-at : {v : Chain} {a b : ℕ} → Sides v a b → Sides v (lower v) (higher v)
sides-at S = rw (lower-is S, higher-is S) S

pub sides-found : {v : Chain} {a b : ℕ} → Ends v a b → Sides v (lower v) (higher v)
sides-found {v} {a} {b} E = lt_or a b (λ l. sides-at (tail-first E l)) (λ l. sides-at (head_first E (omega (arith, E.apart))))
