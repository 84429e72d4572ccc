-- A test of each element of a list, or of each number of a range, as a test of every number below a bound.
use mathlib.Core.Path.{◌≡◌, refl, sym, ap, ap₂, ◌∙◌}
use mathlib.Core.Bool.{Bool, ◌&&◌}
use mathlib.Core.List.{List}
use Prim.Native.Nat.{ℕ, zero, suc, ◌≤◌}
use native.Mathlib.Nat.{zero-add}
use native.Mathlib.Numerals.{add-one}
use native.Mathlib.Omega.{arith}
use lib.ListN.{length, get_or, take}
use lib.Seq.{take_all}
use Rattle.std.specs.List.{list_all, range_with_len}
use Rattle.std.proofs.lemmas.List.Folds.{list_all_more}
use Rattle.std.proofs.lemmas.List.FromFn.{length-range_with_len, get_or-range_with_len}
use Rattle.maths.specs.Tests.{all}
use Rattle.maths.proofs.Tests.{all_same}

pub front_all : {A : Type 0} (d : A) (p : A → Bool) (xs : List A) (n : ℕ) → n ≤ length xs → list_all p (take n xs) ≡ all n (λ i. p (get_or xs i d))
unfolding all
front_all d p xs zero h = refl
front_all d p xs (suc n) h =
    rw (← add-one, list_all_more p xs n d (omega arith)) (ap₂ ◌&&◌ (front_all d p xs n (omega arith)) refl)

pub range_all : (p : ℕ → Bool) (n : ℕ) → list_all p (range_with_len 0 n) ≡ all n p
range_all p n =
    let long = length-range_with_len 0 n in
    ap (list_all p) (sym (take_all n (range_with_len 0 n) (omega (arith, long))))
    ∙ front_all 0 p (range_with_len 0 n) n (omega (arith, long))
    ∙ all_same n {q = p} (λ i h. ap p (get_or-range_with_len 0 n i 0 h ∙ zero-add i))
