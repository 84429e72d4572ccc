-- A test of every number below a bound, and of every element of a list.
use mathlib.Core.Path.{◌≡◌, refl, sym, ap, ◌∙◌}
use mathlib.Core.Bool.{Bool, ◌&&◌}
use mathlib.Core.List.{List}
use Prim.Native.Nat.{ℕ, zero, suc, ◌≤◌}
use native.Mathlib.Nat.{zero-add}
use native.Mathlib.Numerals.{add-one}
use native.Mathlib.Omega.{arith}
use lib.ListN.{length, get_or, take}
use Rattle.std.specs.List.{list_all, range_with_len}
use Rattle.std.proofs.lemmas.List.{take_all}
use Rattle.std.proofs.lemmas.List.Folds.{list_all_more}
use Rattle.std.proofs.lemmas.List.FromFn.{length-range_with_len, get_or-range_with_len}
use Rattle.maths.specs.Tests.{all}
use Rattle.maths.proofs.Tests.{all_same}

module _ {A : Type 0} (t : A → Bool) (d : A) (xs : List A) where
  all_taken : (i : ℕ) → i ≤ length xs → list_all t (take i xs) ≡ all i (λ k. t (get_or xs k d))
  unfolding all
  all_taken zero h = refl
  all_taken (suc i) h =
      ap (λ n. list_all t (take n xs)) (sym (add-one i))
      ∙ list_all_more t xs i d (omega arith)
      ∙ ap (λ b. b && t (get_or xs i d)) (all_taken i (omega arith))

  pub all_listed : list_all t xs ≡ all (length xs) (λ k. t (get_or xs k d))
  all_listed = ap (list_all t) (sym (take_all (length xs) xs (omega arith))) ∙ all_taken (length xs) (omega arith)

pub all_range : (t : ℕ → Bool) (n : ℕ) → list_all t (range_with_len 0 n) ≡ all n t
all_range t n =
    all_listed t 0 (range_with_len 0 n)
    ∙ rw (length-range_with_len 0 n) (all_same n (λ i h. ap t (get_or-range_with_len 0 n i 0 h ∙ zero-add i)))
