-- The numbers that a split lists, as its bytes have them.
use mathlib.Core.Path.{◌≡◌, refl, ap, ◌∙◌, fun_ext}
use mathlib.Core.Bool.{Bool, not, cond}
use mathlib.Core.List.{List}
use Prim.Native.Nat.{ℕ, zero, suc, ◌+◌, ◌<◌, ◌≤◌}
use native.Mathlib.Omega.{arith}
use borrow.Author.Tests.{ne_eqb}
use lib.Dec.{eqb, ltb}
use lib.IntN.{pos}
use lib.ListN.{length, get_or}
use Rattle.std.proofs.lemmas.List.Edits.{get_or-between, length-between}
use Rattle.maths.specs.Tests.{eq_z, all}
use Rattle.maths.proofs.Cases.{eq_or}
use Rattle.maths.proofs.Tests.{all_same}
use Rattle.rules.specs.Complex.{Chain}
use Rattle.rules.specs.Operators.{Faces, listed, all_below, chosen}
use Rattle.rules.specs.Form.{chosen_of}
use Rattle.operators.specs.Part.{ListForm, listing, numbers}

-- a panel or block has a list
faces_of_list : (s : List ℕ) (dim list : ℕ) → 2 ≤ dim
    → chosen_of s dim list ≡ record { n = get_or s list 0; number = λ l. get_or s (list + 1 + l) 0; sign = λ l. pos 1 }
unfolding chosen_of
faces_of_list s zero list h = absurd (omega arith)
faces_of_list s (suc zero) list h = absurd (omega arith)
faces_of_list s (suc (suc k)) list h = refl

-- a test of every face
abbrev every : (ℕ → Bool) → Faces → Bool
every t F = all F.n (λ l. t (F.number l))

module _ {s : List ℕ} {dim list : ℕ} (L : ListForm s dim list) where
  -- the listed bytes are as many as are counted, and stand after the count
  long : 2 ≤ dim → length (listing s dim list) ≡ get_or s list 0
  long h = rw (ne_eqb dim 1 (omega arith)) (length-between s _ _ (omega (arith, L.inside h)) ∙ omega arith)

  byte_listed : 2 ≤ dim → (l : ℕ) → l < get_or s list 0 → get_or (listing s dim list) l 0 ≡ get_or s (list + 1 + l) 0
  byte_listed h l k = rw (ne_eqb dim 1 (omega arith)) (get_or-between s (list + 1) (list + 1 + get_or s list 0) l 0 (omega arith))

  -- a test of all listed faces
  module _ (t : ℕ → Bool) where
    seam_tests : dim ≡ 1 → every t (numbers (listing s dim list)) ≡ every t (chosen_of s dim list)
    unfolding chosen_of all
    seam_tests e = rw e

    list_tests : 2 ≤ dim → every t (numbers (listing s dim list)) ≡ every t (chosen_of s dim list)
    list_tests h = rw (faces_of_list s dim list h, long h) (all_same (get_or s list 0) (λ l k. ap t (byte_listed h l k)))

    tests : every t (numbers (listing s dim list)) ≡ every t (chosen_of s dim list)
    tests = eq_or dim 1 seam_tests (λ n. list_tests (omega (arith, L.least)))

  pub below_is : (n : ℕ) → all_below n (numbers (listing s dim list)) ≡ all_below n (chosen_of s dim list)
  unfolding all_below
  below_is n = tests (λ i. ltb i n)

  pub chosen_is : (v : Chain) → chosen dim (numbers (listing s dim list)) v ≡ chosen dim (chosen_of s dim list) v
  unfolding chosen listed
  chosen_is v = fun_ext (λ i. ap (λ b. cond (eqb dim 1) (eq_z (v i) (pos 1)) (not b)) (tests (λ j. not (eqb i j))))
