-- The sides of a ring are met one after the other: the pattern stays good, only seams come to it, and every side has one in the end.
use mathlib.Core.Path.{◌≡◌, refl, ◌∙◌, ap}
use mathlib.Core.Logic.{◌≢◌}
use mathlib.Core.Bool.{true}
use Prim.Native.Nat.{ℕ, zero, suc, pred, ◌+◌, ◌<◌, ◌≤◌}
use native.Mathlib.Omega.{arith}
use lib.IntN.{pos, nat_abs}
use lib.ListN.{length}
use Rattle.maths.specs.Tests.{is_zero}
use Rattle.maths.specs.Repeat.{repeat}
use Rattle.maths.proofs.Cases.{eq_or, lt_or, bool_or}
use Rattle.maths.proofs.Tests.{zero_is, zero-true, zero-false, not-zero}
use Rattle.rules.specs.Refusals.{no_room}
use Rattle.rules.specs.Complex.{Layer, Complex}
use Rattle.rules.specs.Good.{Good}
use Rattle.rules.specs.Operators.{chain_of}
use Rattle.rules.proofs.Edits.Makes.{make_other}
use Rattle.off.specs.Plain.{Ring}
use Rattle.off.specs.Rings.{corner_at, next_at, corners_below, is_ring}
use Rattle.off.specs.Sewing.{Sewn, refused, sewn, after_sewn, ends_of, seam_of, tail_head, meet, Met, meet_side}
use Rattle.off.specs.Exporting.{is_alone}
use Rattle.off.specs.Lying.{sewn_new, meet_sides}
use Rattle.off.proofs.sewing.SeamsMade.{new_ends, seam_made, seam_full, seam_good, made_layer, grown_ends, grown_tail, grown_head, grown_along, grown_other, some_seam}
use Rattle.off.proofs.sewing.SeamsFound.{none_turned}
use Rattle.off.proofs.ends.SameWays.{SameBelow, same_seam, same_alone}
use Rattle.off.proofs.sewing.RingSides.{corner-below, next-below, next-apart, AllMet}

-- Y is X with more seams
pub record Grew (X Y : Complex) : Type 0 where
  pub good : Good Y
  pub corners : Y 0 ≡ X 0
  pub panels : Y 2 ≡ X 2
  pub blocks : Y 3 ≡ X 3
  -- the older seams keep their numbers and ends, and no newer one has the ends of one before it
  pub more : (X 1).n ≤ (Y 1).n
  pub ends : SameBelow (X 1).n (ends_of (Y 1)) (ends_of (X 1))
  pub same : (x y : ℕ) → seam_of (X 1) x y ≢ pos 0 → seam_of (Y 1) x y ≡ seam_of (X 1) x y
  pub alone : (j : ℕ) → (X 1).n ≤ j → j < (Y 1).n → is_alone (ends_of (Y 1)) j ≡ true

pub grew_none : {X : Complex} → Good X → Grew X X
grew_none G = record {
  good = G;
  corners = refl;
  panels = refl;
  blocks = refl;
  more = omega arith;
  ends = record { tail = λ j h. refl; head = λ j h. refl };
  same = λ x y f. refl;
  alone = λ j l h. absurd (omega arith);
}

-- a seam that is met stays so
pub grew_seams : {X Y : Complex} → Grew X Y → (x y : ℕ) → seam_of (X 1) x y ≢ pos 0 → seam_of (Y 1) x y ≢ pos 0
grew_seams g x y f = rw (g.same x y f) f

pub grew_on : {X Y Z : Complex} → Grew X Y → Grew Y Z → Grew X Z
grew_on {X} {Y} {Z} g h = record {
  good = h.good;
  corners = h.corners ∙ g.corners;
  panels = h.panels ∙ g.panels;
  blocks = h.blocks ∙ g.blocks;
  more = omega (arith, g.more, h.more);
  ends = let m = g.more in record {
    tail = λ j l. h.ends.tail j (omega arith) ∙ g.ends.tail j l;
    head = λ j l. h.ends.head j (omega arith) ∙ g.ends.head j l;
  };
  same = λ x y f. h.same x y (grew_seams g x y f) ∙ g.same x y f;
  alone = λ j l i. lt_or j (Y 1).n
      (λ k. same_alone h.ends j k ∙ g.alone j l k)
      (λ k. h.alone j k i);
}

-- Y is X where a and b are met: a seam that was not there is the one between them
pub record MetBy (a b : ℕ) (X Y : Complex) : Type 0 where
  pub grew : Grew X Y
  pub there : seam_of (Y 1) a b ≢ pos 0
  pub fresh : (j : ℕ) → (X 1).n ≤ j → j < (Y 1).n → pred (nat_abs (seam_of (Y 1) a b)) ≡ j

-- no seam stands between a and b, and there is no room for one
pub record Full (a b : ℕ) (X : Complex) : Type 0 where
  pub none : seam_of (X 1) a b ≡ pos 0
  pub full : 96 ≤ (X 1).n

-- what meeting a and b comes to: there is no room, or a seam stands between them
abbrev pub Meets : ℕ → ℕ → Complex → Sewn → Type 0
Meets a b X (refused r) = (r ≡ no_room) × Full a b X
Meets a b X (sewn Y) = MetBy a b X Y

module _ {X : Complex} (G : Good X) (a b : ℕ) (apart : a ≢ b) (first : a < (X 0).n) (second : b < (X 0).n) where
  pub meet-there : seam_of (X 1) a b ≢ pos 0 → meet a b X ≡ sewn X
  unfolding meet
  meet-there f = rw (not-zero f)

  pub meet_new : seam_of (X 1) a b ≡ pos 0 → (X 1).n < 96 → meet a b X ≡ sewn_new a b X
  unfolding meet sewn_new
  meet_new e h = rw (e, zero_is, seam_made G a b apart first second h)

  pub meet_full : seam_of (X 1) a b ≡ pos 0 → 96 ≤ (X 1).n → meet a b X ≡ refused no_room
  unfolding meet
  meet_full e h = rw (e, zero_is, seam_full G a b apart first second h)

  made_grew : seam_of (X 1) a b ≡ pos 0 → (X 1).n < 96 → Meets a b X (sewn_new a b X)
  unfolding sewn_new is_alone
  made_grew none h =
      let v = chain_of (tail_head a b) in
      let E = new_ends G a b apart first second in
      let here = made_layer G a b apart first second in
      let n = (X 1).n in
      record {
        grew = record {
          good = seam_good G a b apart first second h;
          corners = make_other 1 v X 0 (omega arith);
          panels = make_other 1 v X 2 (omega arith);
          blocks = make_other 1 v X 3 (omega arith);
          more = rw here (omega arith);
          ends = rw here (grown_ends (X 1) E);
          same = λ x y f. rw here (grown_other (X 1) E x y
              (λ p q. f (rw (← p, ← q) none))
              (λ p q. f (rw (← p, ← q) (none_turned (ends_of (X 1)) n a b none))));
          alone = λ j l k. let q : j ≡ n = omega (arith, rw here at k) in
              rw (q, here, grown_tail (X 1) E, grown_head (X 1) E, same_seam n (grown_ends (X 1) E) a b, none) zero_is;
        };
        there = rw (here, grown_along (X 1) E) (some_seam n);
        fresh = λ j l k. rw (here, grown_along (X 1) E) (omega (arith, rw here at k));
      }

  pub meets : Meets a b X (meet a b X)
  meets = bool_or (is_zero (seam_of (X 1) a b))
      (λ e. lt_or (X 1).n 96
      (λ h. rw (meet_new (zero-true e) h) (made_grew (zero-true e) h))
      (λ h. rw (meet_full (zero-true e) h) (refl, record { none = zero-true e; full = h })))
      (λ e. rw (meet-there (zero-false e)) (record { grew = grew_none G; there = zero-false e; fresh = λ j l k. absurd (omega arith) }))

  pub meet-corners : {Y : Complex} → meet a b X ≡ sewn Y → Y 0 ≡ X 0
  meet-corners {Y} e = let M : Meets a b X (sewn Y) = rw e at meets in M.grew.corners

pub after_meeting : (P : Sewn → Type 0) {go : Complex → Sewn} (a b : ℕ) (X : Complex) (s : Sewn) → Meets a b X s → (Full a b X → P (refused no_room)) →
    ((Y : Complex) → MetBy a b X Y → P (go Y)) → P (after_sewn s refused go)
after_meeting P a b X (refused c) m full on = rw m.0 (full m.1)
after_meeting P a b X (sewn Y) m full on = on Y m

-- the first l sides of the ring r are met in Y, which grew from X
pub record MetTo (r : Ring) (X : Complex) (l : ℕ) (Y : Complex) : Type 0 where
  pub grew : Grew X Y
  pub met : (k : ℕ) → k < l → seam_of (Y 1) (corner_at r k) (next_at r k) ≢ pos 0
  -- every new seam is that of a side
  pub fresh : (j : ℕ) → (X 1).n ≤ j → j < (Y 1).n → (k : ℕ) × (k < l) × (pred (nat_abs (seam_of (Y 1) (corner_at r k) (next_at r k))) ≡ j)

module _ {r : Ring} (t : is_ring r ≡ true) {X : Complex} (G : Good X) (low : corners_below (X 0).n r ≡ true) where
  side_meets : {Y : Complex} {l : ℕ} → MetTo r X l Y → l < length r → Meets (corner_at r l) (next_at r l) Y (meet (corner_at r l) (next_at r l) Y)
  side_meets {Y} {l} M h =
      let same : (Y 0).n ≡ (X 0).n = ap (λ (A : Layer). A.n) M.grew.corners in
      meets M.grew.good (corner_at r l) (next_at r l) (next-apart r t l h) (omega (arith, corner-below r low l h)) (omega (arith, next-below r low l h))

  met_on : {Y Z : Complex} {l : ℕ} → MetTo r X l Y → MetBy (corner_at r l) (next_at r l) Y Z → MetTo r X (l + 1) Z
  met_on {Y} {Z} {l} M B = record {
    grew = grew_on M.grew B.grew;
    met = λ k h. eq_or k l (λ e. rw e B.there) (λ e. grew_seams B.grew _ _ (M.met k (omega arith)));
    fresh = λ j h i. lt_or j (Y 1).n
        (λ o. let f = M.fresh j h o in (f.0, omega (arith, f.1), rw (B.grew.same _ _ (M.met f.0 f.1)) f.2))
        (λ o. (l, omega arith, B.fresh j o i));
  }

  -- what holds where there is no room, and after all sides are met, holds of meeting them
  module _ (P : Sewn → Type 0)
      (full : (Y : Complex) (l : ℕ) → l < length r → MetTo r X l Y → Full (corner_at r l) (next_at r l) Y → P (refused no_room)) (done : Met → Sewn)
      (all : (Y : Complex) → MetTo r X (length r) Y → P (done (Y, length r))) where
    met_rest : (n l : ℕ) (Y : Complex) → l + n ≡ length r → MetTo r X l Y → P (repeat (meet_side r) done n (Y, l))
    unfolding repeat meet_side
    met_rest zero l Y e M = let q : l ≡ length r = omega arith in rw q (all Y (rw q at M))
    met_rest (suc n) l Y e M =
        after_meeting P (corner_at r l) (next_at r l) Y (meet (corner_at r l) (next_at r l) Y) (side_meets M (omega arith))
        (full Y l (omega arith) M)
        (λ Z B. met_rest n (l + 1) Z (omega arith) (met_on M B))

    pub met_each : P (repeat (meet_side r) done (length r) (X, 0))
    met_each = met_rest (length r) 0 X (omega arith) (record {
      grew = grew_none G;
      met = λ k h. absurd (omega arith);
      fresh = λ j h i. absurd (omega arith);
    })

  -- every side is met in what meeting them all leaves
  pub sides_met : {Y : Complex} → meet_sides r X ≡ sewn Y → MetTo r X (length r) Y
  unfolding meet_sides
  sides_met {Y} = met_each (λ s. s ≡ sewn Y → MetTo r X (length r) Y)
      (λ _ _ _ _ _ e. let z : ◌≡◌ {A = ℕ} 0 1 = cc in absurd (omega arith))
      (λ x. sewn x.0)
      (λ Z M e. let q : Z ≡ Y = cc in rw q at M)

pub all_met : {r : Ring} {X Y : Complex} → MetTo r X (length r) Y → AllMet r Y
all_met M = record { met = M.met }
