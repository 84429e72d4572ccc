-- Lists told by their elements: how long they are, and what stands where.
use mathlib.Core.Path.{◌≡◌, refl, sym, ◌∙◌}
use mathlib.Core.List.{List, [], ◌∷◌}
use Prim.Native.Nat.{ℕ, zero, suc, ◌<◌}
use native.Mathlib.Omega.{arith}
use lib.ListN.{length, get_or, length-append, get_or-append}
use lib.Seq.{get_or_at}
use Rattle.maths.proofs.Cases.{eq_or}
use Rattle.maths.proofs.Tables.{is-table}
use Rattle.maths.proofs.Sums.{join-zero, join-suc}
use Rattle.off.specs.Exporting.{list_of, start_of, steps_from, walked}

module _ {A : Type 0} where
  pub listed-length : (n : ℕ) (f : ℕ → A) → length (list_of n f) ≡ n
  listed-length zero f = rw (join-zero (λ i. f i ∷ []))
  listed-length (suc n) f = rw (join-suc n (λ i. f i ∷ []), length-append) (omega (arith, listed-length n f))

  pub listed_at : (n : ℕ) (f : ℕ → A) (i : ℕ) (d : A) → i < n → get_or (list_of n f) i d ≡ f i
  listed_at zero f i d h = absurd (omega arith)
  listed_at (suc n) f i d h =
      let long = listed-length n f in
      rw (join-suc n (λ i. f i ∷ []))
      (eq_or i n
      (λ e. rw e (get_or_at (list_of n f) (f n) [] d n long))
      (λ e. get_or-append (list_of n f) (f n ∷ []) d i (omega arith) ∙ listed_at n f i d (omega arith)))

  -- two lists with the same elements
  pub same_list : (x y : List A) (d : A) → length x ≡ length y → ((i : ℕ) → i < length x → get_or x i d ≡ get_or y i d) → x ≡ y
  same_list x y d e h = is-table d e (λ i l. h i (omega arith)) ∙ sym (is-table d refl (λ i l. refl))

pub walked-length : (next : ℕ → ℕ) (n : ℕ) → length (walked next n) ≡ n
unfolding walked
walked-length next n = listed-length n (steps_from next (start_of next))
