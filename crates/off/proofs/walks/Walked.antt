-- A walk that goes by a list of 97 bytes: it is the walk of the panel, and where it closes up, it was never nowhere.
use mathlib.Core.Path.{◌≡◌, refl, sym, ap, ◌∙◌}
use mathlib.Core.Bool.{Bool, true, false, not, cond, ◌&&◌, and-false}
use mathlib.Core.List.{List, [], ◌∷◌}
use Prim.Native.Nat.{ℕ, zero, suc, ◌+◌, ◌<◌, ◌≤◌}
use native.Mathlib.Omega.{arith}
use borrow.Author.Tests.{ltb-true, lt-ltb, le-ltb, eqb-true, ne_eqb}
use lib.Dec.{eqb, ltb}
use lib.IntN.{ℤ, pos}
use lib.ListN.{length, get_or-eq_default}
use Rattle.maths.specs.Tests.{eq_z, is_zero}
use Rattle.maths.specs.Tables.{table, column}
use Rattle.maths.proofs.Cases.{by_bool, eq_or, lt_or, no_eq, and_left, and_right}
use Rattle.maths.proofs.Tests.{all_of}
use Rattle.maths.proofs.Tables.{get_d_table}
use Rattle.maths.proofs.Sums.{join_same}
use Rattle.rules.specs.Complex.{Chain}
use Rattle.off.specs.declared.ends.Ends.{Ends}
use Rattle.off.specs.Rings.{corners_below, is_ring}
use Rattle.off.specs.Sewing.{SeamEnds}
use Rattle.off.specs.Exporting.{list_of, leaves_by, comes_from, goes_to, next_among, lowest_from, start_of, steps_from, walked, closes_up}
use Rattle.off.specs.RingBytes.{Corners}
use Rattle.off.specs.Walking.{byte_of, ends_by, next_by, Walk, PanelRoom, WentRound}
use Rattle.off.proofs.Rounds.Listed.{listed-length, listed_at}
use Rattle.off.proofs.walks.NextCorners.{table-long}

-- every step leads to a corner or nowhere, and from nowhere one goes nowhere
pub record StepsLow (next : ℕ → ℕ) : Type 0 where
  pub low : (a : ℕ) → next a ≤ 96
  pub stays : next 96 ≡ 96

-- seams that have corners as ends
module _ (E : SeamEnds) (v : Chain) where
  goes-low : (j : ℕ) → E.tail j < 96 → E.head j < 96 → goes_to E v j ≤ 96
  goes-low j t h = by_bool (eq_z (v j) (pos 1)) (λ s. cond s (E.head j) (E.tail j) ≤ 96) (λ _. omega arith) (λ _. omega arith)

  comes-low : (j : ℕ) → E.tail j < 96 → E.head j < 96 → comes_from E v j < 96
  comes-low j t h = by_bool (eq_z (v j) (pos 1)) (λ s. cond s (E.tail j) (E.head j) < 96) (λ _. t) (λ _. h)

  next_low : (n : ℕ) → ((j : ℕ) → j < n → E.tail j < 96) → ((j : ℕ) → j < n → E.head j < 96) → (a : ℕ) → next_among E v n a ≤ 96
  unfolding next_among
  next_low zero t h a = omega arith
  next_low (suc j) t h a =
      by_bool (leaves_by E v a j) (λ s. cond s (goes_to E v j) (next_among E v j a) ≤ 96)
      (λ _. goes-low j (t j (omega arith)) (h j (omega arith)))
      (λ _. next_low j (λ i l. t i (omega arith)) (λ i l. h i (omega arith)) a)

  never_leaves : (j : ℕ) → E.tail j < 96 → E.head j < 96 → leaves_by E v 96 j ≡ false
  unfolding leaves_by
  never_leaves j t h =
      let low = comes-low j t h in rw (ne_eqb (comes_from E v j) 96 (λ e. omega arith)) (and-false (not (is_zero (v j))))

  next-stays : (n : ℕ) → ((j : ℕ) → j < n → E.tail j < 96) → ((j : ℕ) → j < n → E.head j < 96) → next_among E v n 96 ≡ 96
  unfolding next_among
  next-stays zero t h = refl
  next-stays (suc j) t h =
      rw (never_leaves j (t j (omega arith)) (h j (omega arith))) (next-stays j (λ i l. t i (omega arith)) (λ i l. h i (omega arith)))

  pub steps_of : (n : ℕ) → ((j : ℕ) → j < n → E.tail j < 96) → ((j : ℕ) → j < n → E.head j < 96) → StepsLow (next_among E v n)
  steps_of n t h = record { low = next_low n t h; stays = next-stays n t h }

-- the steps of a panel
pub panel-steps : {m2 : List ℤ} {j : ℕ} {ends : List Ends} → PanelRoom m2 j ends → StepsLow (next_by m2 j ends)
panel-steps {m2} {j} {ends} P = steps_of (ends_by ends) (column m2 j) (length ends) P.seams.tail P.seams.head

lowest_le : (n a : ℕ) (p : ℕ → Bool) → lowest_from n a p ≤ a + n
unfolding lowest_from
lowest_le zero a p = omega arith
lowest_le (suc n) a p =
    by_bool (p a) (λ t. cond t a (lowest_from n (suc a) p) ≤ a + suc n) (λ _. omega arith) (λ _. omega (arith, lowest_le n (suc a) p))

lowest_same : (n a : ℕ) (p q : ℕ → Bool) → ((i : ℕ) → i < a + n → p i ≡ q i) → lowest_from n a p ≡ lowest_from n a q
unfolding lowest_from
lowest_same zero a p q h = refl
lowest_same (suc n) a p q h = rw (h a (omega arith), lowest_same n (suc a) p q (λ i l. h i (omega arith)))

-- steps from a corner, or from nowhere
module _ {f : ℕ → ℕ} (S : StepsLow f) (a : ℕ) (inside : a ≤ 96) where
  steps_low : (l : ℕ) → steps_from f a l ≤ 96
  unfolding steps_from
  steps_low zero = inside
  steps_low (suc l) = S.low (steps_from f a l)

  steps_stay : (l n : ℕ) → l ≤ n → steps_from f a l ≡ 96 → steps_from f a n ≡ 96
  unfolding steps_from
  steps_stay l zero h q = let z : l ≡ 0 = omega arith in rw z at q
  steps_stay l (suc n) h q = eq_or l (suc n) (λ same. rw same at q) (λ less. ap f (steps_stay l n (omega arith) q) ∙ S.stays)

  -- a walk that ends at a corner was at corners
  pub steps_inside : (n : ℕ) → steps_from f a n < 96 → (l : ℕ) → l ≤ n → steps_from f a l < 96
  steps_inside n end l h =
      let low = steps_low l in
      lt_or (steps_from f a l) 96 (λ q. q) (λ q. absurd (omega (arith, steps_stay l n h (omega arith))))

  -- so its corners are below 96
  pub listed-low : (n : ℕ) → steps_from f a n < 96 → corners_below 96 (list_of n (steps_from f a)) ≡ true
  unfolding corners_below
  listed-low n end =
      rw (listed-length n (steps_from f a))
      (all_of n λ l i. rw (listed_at n (steps_from f a) l 0 i) (lt-ltb _ 96 (steps_inside n end l (omega arith))))

-- such steps, as a list
module _ {f : ℕ → ℕ} (S : StepsLow f) {next : List ℕ} (e : next ≡ table 97 f) where
  byte_is : (a : ℕ) → a ≤ 96 → byte_of next a ≡ f a
  byte_is a h = rw e (get_d_table 97 a f 0 (omega arith))

  pub next_byte_low : (a : ℕ) → byte_of next a ≤ 96
  next_byte_low a =
      lt_or a 97
      (λ h. rw (byte_is a (omega arith)) (S.low a))
      (λ h. rw (get_or-eq_default next 0 {n = a} (omega (arith, table-long f e))) (omega arith))

  start-low : start_of f ≤ 96
  unfolding start_of
  start-low = lowest_le 96 0 (λ a. ltb (f a) 96)

  start_same : start_of (byte_of next) ≡ start_of f
  unfolding start_of
  start_same = lowest_same 96 0 (λ a. ltb (byte_of next a) 96) (λ a. ltb (f a) 96) (λ i h. ap (λ b. ltb b 96) (byte_is i (omega arith)))

  module _ (a : ℕ) (inside : a ≤ 96) where
    steps_same : (l : ℕ) → steps_from (byte_of next) a l ≡ steps_from f a l
    unfolding steps_from
    steps_same zero = refl
    steps_same (suc l) = ap (byte_of next) (steps_same l) ∙ byte_is (steps_from f a l) (steps_low S a inside l)

  -- what the code found: where the walk starts
  module _ {start : ℕ} (s : start ≡ start_of (byte_of next)) where
    start_is : start ≡ start_of f
    start_is = s ∙ start_same

    pub start-inside : start ≤ 96
    start-inside = rw start_is start-low

    -- nowhere
    pub round_none : 96 ≤ start → (ring : List ℕ) → WentRound f false ring
    round_none h ring = record { back = rw (← start_is, le-ltb start 96 h); corners = λ t. no_eq t }

    -- or at a corner, and then what it met on the steps
    module _ (h : start < 96) {end : ℕ} {ring : List ℕ} (W : Walk next start end ring) where
      end_is : end ≡ steps_from f (start_of f) (length ring)
      end_is = W.comes ∙ steps_same start start-inside (length ring) ∙ ap (λ a. steps_from f a (length ring)) start_is

      met : ring ≡ list_of (length ring) (steps_from f start)
      met = W.corners ∙ join_same (length ring) (λ l _. ap (λ c. c ∷ []) (steps_same start start-inside l))

      ring-is : ring ≡ walked f (length ring)
      unfolding walked
      ring-is = met ∙ ap (λ a. list_of (length ring) (steps_from f a)) start_is

      pub round_walked : {r : Bool} → r ≡ eqb end start → WentRound f r ring
      round_walked q = record { back = q ∙ rw (← end_is, ← start_is, lt-ltb start 96 h); corners = λ _. ring-is }

-- a walk that went round, or not
module _ {f : ℕ → ℕ} {r : Bool} {ring : List ℕ} (W : WentRound f r ring) where
  closing : closes_up f (length ring) ≡ r && is_ring (walked f (length ring))
  unfolding closes_up
  closing = rw W.back

  -- where it closes up, it went round
  pub went_round : closes_up f (length ring) ≡ true → r ≡ true
  went_round e = and_left r (is_ring (walked f (length ring))) (sym closing ∙ e)

  pub not_round : r ≡ false → closes_up f (length ring) ≡ false
  not_round q = closing ∙ rw q

  module _ (q : r ≡ true) where
    -- whether it closes up, its corners tell
    pub ring_tells : closes_up f (length ring) ≡ is_ring ring
    ring_tells = closing ∙ rw (q, ← W.corners q)

    pub corners-low : StepsLow f → length ring ≤ 96 → Corners ring
    unfolding walked
    corners-low S few =
        let a = start_of f in
        let n = length ring in
        let both : ltb a 96 && eqb (steps_from f a n) a ≡ true = sym W.back ∙ q in
        let start : a < 96 = ltb-true a 96 (and_left (ltb a 96) _ both) in
        let back : steps_from f a n ≡ a = eqb-true (steps_from f a n) a (and_right (ltb a 96) _ both) in
        record { few = few; low = rw (W.corners q) (listed-low S a (omega arith) n (omega arith)) }
