-- What the definitions by `repeat` come to at a turn of the loop that goes as they do, and at its end.
use Rattle.std.specs.Prelude.{Ok, Err}
use mathlib.Core.Path.{◌≡◌, refl, sym}
use mathlib.Core.Bool.{Bool, cond}
use mathlib.Core.List.{List}
use Prim.Native.Nat.{ℕ, suc, ◌+◌, ◌-◌, ◌<◌}
use native.Mathlib.Omega.{arith}
use lib.Dec.{ltb}
use lib.ListN.{length}
use Rattle.maths.specs.Repeat.{repeat}
use Rattle.maths.proofs.Repeat.{repeat-ended}
use Rattle.rules.specs.Form.{Field, after, after_entry, after_operator, byte_at, counts_at, entry_at, entries_at, operator_at, operators_at}
use Rattle.rules.specs.declared.form.Fault.{Fault}

-- turn i of n, and no turn left
module _ {S R : Type 0} (step : S → (S → R) → R) (done : S → R) where
  turn : (n i : ℕ) (x : S) → i < n → repeat step done (n - i) x ≡ step x (λ y. repeat step done (n - (i + 1)) y)
  unfolding repeat
  turn n i x h = let e : n - i ≡ suc (n - (i + 1)) = omega arith in rw e refl

  ended : (n : ℕ) (x : S) → n ≡ 0 → repeat step done n x ≡ done x
  ended n x e = sym (repeat-ended step done x e refl)

-- n entries from `at`, the first at least low, as `entries_at` reads them from 0
unfoldable pub entries_from : Bool → List ℕ → ℕ → ℕ → ℕ → Field
entries_from signed s n at low =
    repeat {S = ℕ × ℕ}
    (λ x go. after_entry (entry_at signed s x.0 x.1) Err λ low next. go (next, low))
    (λ x. Ok x.0)
    n (at, low)

module _ (s : List ℕ) where
  pub counts_at-turn : (n i at : ℕ) → i < n → counts_at s (n - i) at ≡ after (byte_at s at 0 96) Err λ c. counts_at s (n - (i + 1)) (at + 1)
  unfolding counts_at
  counts_at-turn n i at h = turn _ _ n i at h

  pub counts_at-end : (n at : ℕ) → n ≡ 0 → counts_at s n at ≡ Ok at
  unfolding counts_at
  counts_at-end n at e = ended _ _ n at e

  pub operators_at-turn : (count n i at : ℕ) → i < n
      → operators_at s count (n - i) at ≡ after_operator (operator_at s at) Err λ o next. operators_at s count (n - (i + 1)) next
  unfolding operators_at
  operators_at-turn count n i at h = turn _ _ n i at h

  pub operators_at-end : (count n at : ℕ) → n ≡ 0 → operators_at s count n at ≡ cond (ltb at (length s)) (Err (Fault.Left at)) (Ok count)
  unfolding operators_at
  operators_at-end count n at e = ended _ _ n at e

module _ (signed : Bool) (s : List ℕ) where
  pub entries_at-from : (n at : ℕ) → entries_at signed s n at ≡ entries_from signed s n at 0
  unfolding entries_at entries_from
  entries_at-from n at = refl

  pub entries_from-turn : (n i at low : ℕ) → i < n
      → entries_from signed s (n - i) at low ≡ after_entry (entry_at signed s at low) Err λ least next. entries_from signed s (n - (i + 1)) next least
  unfolding entries_from
  entries_from-turn n i at low h = turn _ _ n i (at, low) h

  pub entries_from-end : (n at low : ℕ) → n ≡ 0 → entries_from signed s n at low ≡ Ok at
  unfolding entries_from
  entries_from-end n at low e = ended _ _ n (at, low) e

-- for each of the loops
pub ruleset counts = (counts_at-turn, counts_at-end)

pub ruleset operators = (operators_at-turn, operators_at-end)

pub ruleset entries = (entries_at-from, entries_from-turn, entries_from-end)
