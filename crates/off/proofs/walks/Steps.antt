-- Steps from corner to corner: the lowest corner to start at, and one step more.
use mathlib.Core.Path.{◌≡◌, refl, sym, ap, ap₂, ◌∙◌}
use mathlib.Core.Bool.{Bool, true, false}
use mathlib.Core.List.{List, [], ◌∷◌, ◌++◌}
use Prim.Native.Nat.{ℕ, zero, suc, ◌+◌, ◌<◌, ◌≤◌}
use native.Mathlib.Nat.{add-zero}
use native.Mathlib.Numerals.{add-one}
use native.Mathlib.Omega.{arith}
use lib.Dec.{ltb}
use lib.ListN.{length, get_or, set, take}
use lib.Seq.{get_or-take, length-take-le, take-suc-set}
use borrow.Author.Tests.{lt-ltb, ltb-true, ltb-false}
use Rattle.std.proofs.Common.{Option, None, Some}
use Rattle.std.specs.Option.{MatchOption}
use Rattle.std.specs.List.{AllWithin, HoldsAt}
use Rattle.maths.proofs.Cases.{eq_or}
use Rattle.maths.proofs.Sums.{join-zero, join-next}
use Rattle.off.specs.Exporting.{list_of, lowest_from, start_of, steps_from}
use Rattle.off.proofs.walks.Answered.{answered, not_answered}
use Rattle.off.specs.Walking.{byte_of, start_found}

-- the lowest of n numbers from a on that passes p
lowest_is : (p : ℕ → Bool) (n a i : ℕ) → a ≤ i → i < a + n → p i ≡ true → ((k : ℕ) → a ≤ k → k < i → p k ≡ false) → lowest_from n a p ≡ i
unfolding lowest_from
lowest_is p zero a i l h t f = absurd (omega arith)
lowest_is p (suc n) a i l h t f = eq_or i a
    (λ e. rw (rw e at t) (sym e))
    (λ e. rw (f a (omega arith) (omega arith)) (lowest_is p n (suc a) i (omega arith) (omega arith) t (λ k m. f k (omega arith))))

-- none passes
lowest_past : (p : ℕ → Bool) (n a : ℕ) → ((k : ℕ) → a ≤ k → k < a + n → p k ≡ false) → lowest_from n a p ≡ a + n
unfolding lowest_from
lowest_past p zero a f = sym (add-zero a)
lowest_past p (suc n) a f =
    let more : suc a + n ≡ a + suc n = omega arith in
    rw (f a (omega arith) (omega arith)) (lowest_past p n (suc a) (λ k m l. f k (omega arith) (omega arith)) ∙ more)

-- the first of the first 96 bytes that is below 96
abbrev pub FirstLow : List ℕ → Option ℕ → Type 0
FirstLow xs r =
    MatchOption r (AllWithin (λ b. ltb b 96 ≡ false) xs 0 (length xs))
    (λ i. (i < length xs) × HoldsAt (λ b. ltb b 96 ≡ true) xs i × AllWithin (λ b. ltb b 96 ≡ false) xs 0 i)

module _ (next : List ℕ) (long : length next ≡ 97) where
  size : length (take 96 next) ≡ 96
  size = length-take-le 96 next (omega (arith, long))

  byte-is : (k : ℕ) → k < 96 → get_or (take 96 next) k 0 ≡ byte_of next k
  byte-is k h = rw get_or-take

  pub start-is : (r : Option ℕ) → FirstLow (take 96 next) r → r ≡ start_found (byte_of next)
  unfolding start_of
  start-is None h =
      let past = lowest_past (λ a. ltb (byte_of next a) 96) 96 0 (λ k l m. rw (← byte-is k m) (h k 0 (omega arith) (omega (arith, size)))) in
      rw past
  start-is (Some i) h =
      let inside : i < 96 = omega (arith, h.0, size) in
      let it = lowest_is (λ a. ltb (byte_of next a) 96) 96 0 i (omega arith) inside (rw (← byte-is i inside) (h.1 0))
      (λ k l m. rw (← byte-is k (omega arith)) (h.2 k 0 (omega arith) m)) in
      rw (it, lt-ltb i 96 inside)

-- what is known of the corner that was found
module _ (f : ℕ → ℕ) where
  pub none-found : start_found f ≡ None → 96 ≤ start_of f
  none-found e = ltb-false (start_of f) 96 (not_answered (ltb (start_of f) 96) (start_of f) e)

  pub some_found : {a : ℕ} → start_found f ≡ Some a → (a ≡ start_of f) × (start_of f < 96)
  some_found e = let t = answered (ltb (start_of f) 96) e in (t.1, ltb-true (start_of f) 96 t.0)

-- a walk, l steps of which are made
pub record Walking (next : List ℕ) (start : ℕ) (ring : List ℕ) (corner l : ℕ) : Type 0 where
  pub inside : corner ≤ 96
  pub comes : corner ≡ steps_from (byte_of next) start l
  pub corners : take l ring ≡ list_of l (steps_from (byte_of next) start)

module _ {next : List ℕ} {start : ℕ} where
  pub walking_none : {ring : List ℕ} → start ≤ 96 → Walking next start ring start 0
  unfolding steps_from
  walking_none h = record { inside = h; comes = refl; corners = sym (join-zero _) }

  module _ {ring : List ℕ} {corner l : ℕ} (s : Walking next start ring corner l) where
    pub walking_more : ((a : ℕ) → byte_of next a ≤ 96) → l < length ring → Walking next start (set ring l corner) (byte_of next corner) (l + 1)
    unfolding steps_from
    walking_more low h = record {
      inside = low corner;
      comes = rw add-one (ap (byte_of next) s.comes);
      corners = rw (add-one l) (take-suc-set ring l corner h) ∙ ap₂ (λ x c. x ++ (c ∷ [])) s.corners s.comes ∙ sym (join-next l _);
    }
