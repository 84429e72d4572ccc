-- What is stored by the tests of a column.
use mathlib.Core.Path.{◌≡◌, refl}
use mathlib.Core.Bool.{Bool, true, false, not, ◌&&◌, and-true}
use mathlib.Core.List.{List}
use Prim.Native.Nat.{ℕ}
use lib.IntN.{ℤ}
use Rattle.grid.specs.Grid.{over, with_column}
use Rattle.operators.specs.Append.{tried, set_if}

module _ (at : ℕ) (column m : List ℤ) where
  pub set_no : {zero : Bool} → zero ≡ true → tried false m ≡ set_if (not zero) at column m
  unfolding set_if
  set_no e = rw e

  pub set_yes : {zero : Bool} {m' : List ℤ} → zero ≡ false → m' ≡ over (with_column at column) m → tried true m' ≡ set_if (not zero) at column m
  unfolding set_if
  set_yes e q = rw (e, q)

  pub set_open : (some : Bool) {closed : Bool} → closed ≡ false → tried false m ≡ set_if (some && closed) at column m
  unfolding set_if
  set_open true e = rw e
  set_open false e = refl

  pub set_shut : (some : Bool) {closed : Bool} → closed ≡ true → set_if some at column m ≡ set_if (some && closed) at column m
  set_shut some e = rw (e, and-true some)
