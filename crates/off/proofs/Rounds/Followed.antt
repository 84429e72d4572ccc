-- A panel that is one ring: its ring begins with its lowest corner, and goes along the panel's seams by their signs.
use mathlib.Core.Path.{◌≡◌, refl, sym, ap, ◌∙◌}
use mathlib.Core.Logic.{◌≢◌}
use mathlib.Core.Bool.{Bool, true, not, cond, ◌&&◌}
use Prim.Native.Nat.{ℕ, zero, suc, ◌<◌, ◌≤◌}
use native.Mathlib.Omega.{arith}
use borrow.Author.Tests.{ltb-true, lt-ltb, eqb-true, not-true}
use lib.Dec.{eqb, ltb}
use lib.IntN.{pos}
use lib.ListN.{length}
use Rattle.maths.specs.Tests.{is_zero}
use Rattle.maths.proofs.Cases.{by_bool, and_left, and_right}
use Rattle.maths.proofs.Tests.{zero-false}
use Rattle.rules.specs.Complex.{Layer, Complex, Chain}
use Rattle.rules.specs.Mesh.{face_count}
use Rattle.off.specs.Plain.{Ring}
use Rattle.off.specs.Rings.{corner_at, next_at, is_ring}
use Rattle.off.specs.Sewing.{SeamEnds, ends_of}
use Rattle.off.specs.Exporting.{comes_from, goes_to, leaves_by, nowhere, next_among, next_of, start_of, steps_from, walked, ring_of, closes_up, one_ring}
use Rattle.off.proofs.sewing.RingSides.{next_or}
use Rattle.off.proofs.ends.EndsFound.{face_low}
use Rattle.off.proofs.Rounds.Listed.{listed_at, walked-length}
use Rattle.off.proofs.Rounds.Turning.{lowest_is}
use Rattle.off.proofs.walks.Walked.{StepsLow, steps_of, steps_inside}

-- the panel v goes from a to b along a seam: from its tail to its head with plus, from its head to its tail with minus
pub record Side (E : SeamEnds) (v : Chain) (n a b : ℕ) : Type 0 where
  pub seam : ℕ
  pub there : seam < n
  pub some : v seam ≢ pos 0
  pub from : comes_from E v seam ≡ a
  pub to : goes_to E v seam ≡ b

-- where one goes from a, one goes along a seam
pub next_side : (E : SeamEnds) (v : Chain) (n a : ℕ) → next_among E v n a ≢ nowhere → Side E v n a (next_among E v n a)
unfolding next_among leaves_by
next_side E v zero a h = absurd (h refl)
next_side E v (suc j) a h = by_bool (leaves_by E v a j)
    (λ t. cond t (goes_to E v j) (next_among E v j a) ≢ nowhere → Side E v (suc j) a (cond t (goes_to E v j) (next_among E v j a)))
    (λ t _. record {
      seam = j;
      there = omega arith;
      some = zero-false (not-true (is_zero (v j)) (and_left (not (is_zero (v j))) _ t));
      from = eqb-true (comes_from E v j) a (and_right (not (is_zero (v j))) _ t);
      to = refl;
    })
    (λ t k. let S = next_side E v j a k in record { seam = S.seam; there = omega (arith, S.there); some = S.some; from = S.from; to = S.to })
    h

-- every step of a panel leads to a corner or nowhere
panel_steps : (A : Layer) (v : Chain) → StepsLow (next_among (ends_of A) v A.n)
panel_steps A v = steps_of (ends_of A) v A.n (λ j _. face_low _ _) (λ j _. face_low _ _)

-- a walk that closes up
pub record Closes (next : ℕ → ℕ) (n : ℕ) : Type 0 where
  pub is : closes_up next n ≡ true

module _ {next : ℕ → ℕ} {n : ℕ} (C : Closes next n) where
  abbrev steps : ℕ → ℕ
  steps = steps_from next (start_of next)

  pub close-low : start_of next < 96
  unfolding closes_up
  close-low = ltb-true (start_of next) 96 (and_left _ _ (and_left _ (is_ring (walked next n)) C.is))

  pub close-back : steps n ≡ start_of next
  unfolding closes_up
  close-back = eqb-true (steps n) (start_of next) (and_right (ltb (start_of next) 96) _ (and_left _ (is_ring (walked next n)) C.is))

  pub close-ring : is_ring (walked next n) ≡ true
  unfolding closes_up
  close-ring = and_right (ltb (start_of next) 96 && eqb (steps n) (start_of next)) (is_ring (walked next n)) C.is

  pub walked_at : (l : ℕ) → l < n → corner_at (walked next n) l ≡ steps l
  unfolding walked
  walked_at l h = listed_at n steps l 0 h

  -- the corner after a corner is a step away
  pub walked_next : (l : ℕ) → l < n → next_at (walked next n) l ≡ next (steps l)
  unfolding steps_from
  walked_next l h =
      let long = walked-length next n in
      next_or (walked next n) l
      (λ e q. q ∙ walked_at 0 (omega arith) ∙ sym close-back ∙ ap steps (sym (e ∙ long)))
      (λ e q. q ∙ walked_at (suc l) (omega arith))

  module _ (S : StepsLow next) where
    steps_corners : (l : ℕ) → l ≤ n → steps l < 96
    steps_corners l h = steps_inside S (start_of next) (omega (arith, close-low)) n (omega (arith, close-low, close-back)) l h

    pub steps_somewhere : (l : ℕ) → l ≤ n → steps l ≢ nowhere
    steps_somewhere l h e = omega (arith, steps_corners l h, e)

    -- the first is the lowest
    pub walked_lowest : (l : ℕ) → l < n → start_of next ≤ steps l
    unfolding start_of steps_from
    walked_lowest l h =
        let p : ℕ → Bool = λ a. ltb (next a) 96 in
        let passes : p (steps l) ≡ true = lt-ltb (next (steps l)) 96 (steps_corners (suc l) h) in
        (lowest_is 96 0 p (steps l) (omega arith) (steps_corners l (omega arith)) passes).least (steps l) (omega arith) passes

-- "starts each ring at its lowest corner and goes the panel's way round"
pub record FollowedRing (X : Complex) (v : Chain) (r : Ring) : Type 0 where
  pub ring : is_ring r ≡ true
  pub long : length r ≡ face_count v
  pub lowest : (l : ℕ) → l < length r → corner_at r 0 ≤ corner_at r l
  pub sides : (l : ℕ) → l < length r → Side (ends_of (X 1)) v (X 1).n (corner_at r l) (next_at r l)

pub followed : (X : Complex) (v : Chain) → one_ring X v ≡ true → FollowedRing X v (ring_of X v)
unfolding steps_from
followed X v t =
    let n = face_count v in
    let C : Closes (next_of X v) n = record { is = t } in
    let S = panel_steps (X 1) v in
    let long = walked-length (next_of X v) n in
    record {
      ring = close-ring C;
      long = long;
      lowest = λ l h.
          let i : l < n = omega arith in
          rw (walked_at C 0 (omega arith), walked_at C l i) (walked_lowest C S l i);
      sides = λ l h.
          let i : l < n = omega arith in
          rw (walked_at C l i, walked_next C l i) (next_side (ends_of (X 1)) v (X 1).n _ (steps_somewhere C S (suc l) i));
    }
