-- What was imported is exported ring by ring, and what is exported is imported with the same rings.
use mathlib.Core.Path.{◌≡◌, refl, ◌∙◌}
use mathlib.Core.Bool.{true, cond, ◌&&◌}
use mathlib.Core.List.{List, [], append-nil}
use Prim.Native.Nat.{ℕ, ◌<◌}
use native.Mathlib.Omega.{arith}
use borrow.Author.Tests.{lt-ltb}
use lib.Dec.{eqb}
use lib.IntN.{ℤ, pos}
use lib.ListN.{length, get_or}
use Rattle.maths.specs.Tests.{all, eq_z}
use Rattle.maths.proofs.Cases.{lt_or, by_bool, and_right}
use Rattle.maths.proofs.Tests.{all-at, all_of}
use Rattle.rules.specs.Complex.{Complex, Chain}
use Rattle.rules.specs.Good.{Good}
use Rattle.rules.proofs.Layers.Seams.{minus-not-zero, one_not_zero}
use Rattle.rules.proofs.Texts.ReadGood.{corners-good}
use Rattle.off.specs.Plain.{Ring}
use Rattle.off.specs.Rings.{corner_at, corners_below}
use Rattle.off.specs.Sewing.{sewn, ends_of, sew}
use Rattle.off.specs.Exporting.{list_of, ring_of, one_ring, is_sewn, is_alone, is_plain, plain_of}
use Rattle.off.proofs.sewing.SeamsFound.{ends_at}
use Rattle.off.proofs.sewing.RingSides.{corners-apart, ring_long}
use Rattle.off.proofs.Rounds.Listed.{listed-length, listed_at}
use Rattle.off.proofs.Rounds.Turning.{start, walk_turned}
use Rattle.off.proofs.Rounds.Followed.{Side, followed}
use Rattle.off.proofs.Rounds.RingsRound.{panel, sewn_round}
use Rattle.off.proofs.Rounds.SewnAgain.{RingIn, side_found, sewn_again}

module _ {X : Complex} (G : Good X) where
  -- the ends of a seam are corners
  tail-low : (j : ℕ) → j < (X 1).n → (ends_of (X 1)).tail j < (X 0).n
  tail-low j h =
      let a = (ends_of (X 1)).tail j in
      lt_or a (X 0).n (λ l. l) (λ l. absurd (minus-not-zero (ends_at G j h).tail (G.rows 0 a j l)))

  head-low : (j : ℕ) → j < (X 1).n → (ends_of (X 1)).head j < (X 0).n
  head-low j h =
      let b = (ends_of (X 1)).head j in
      lt_or b (X 0).n (λ l. l) (λ l. absurd (one_not_zero (ends_at G j h).head (G.rows 0 b j l)))

  from-corner : (v : Chain) (a b : ℕ) → Side (ends_of (X 1)) v (X 1).n a b → a < (X 0).n
  from-corner v a b S =
      let j = S.seam in
      rw (← S.from) (by_bool (eq_z (v j) (pos 1)) (λ t. cond t ((ends_of (X 1)).tail j) ((ends_of (X 1)).head j) < (X 0).n)
      (λ _. tail-low j S.there) (λ _. head-low j S.there))

  -- a panel that is one ring
  pub panel_in : (v : Chain) → one_ring X v ≡ true → RingIn X (ring_of X v)
  unfolding corners_below
  panel_in v t =
      let F = followed X v t in
      let r = ring_of X v in
      record {
        ring = F.ring;
        low = all_of (length r) (λ l h. lt-ltb (corner_at r l) (X 0).n (from-corner v _ _ (F.sides l h)));
        met = λ l h. side_found (ends_of (X 1)) v (X 1).n _ _ (F.sides l h);
      }

  module _ (plain : is_plain X ≡ true) where
    abbrev rings : List Ring
    rings = list_of (X 2).n (λ k. ring_of X (panel X k))

    pub one_ring-at : (k : ℕ) → k < (X 2).n → one_ring X (panel X k) ≡ true
    unfolding is_plain
    one_ring-at k h = all-at (X 2).n (λ j. one_ring X (panel X j))
        (and_right (eqb (X 3).n 0 && all (X 1).n (is_sewn X) && all (X 1).n (is_alone (ends_of (X 1)))) _ plain) k h

    ring-at : (k : ℕ) → k < (X 2).n → get_or rings k [] ≡ ring_of X (panel X k)
    ring-at k h = listed_at (X 2).n (λ k. ring_of X (panel X k)) k [] h

    rings-long : length rings ≡ (X 2).n
    rings-long = listed-length (X 2).n (λ k. ring_of X (panel X k))

    -- "importing what was exported is accepted"
    pub import_again : (c : List ℤ) → (Y : Complex) × (sew (plain_of X c) ≡ sewn Y)
    unfolding sew plain_of
    import_again c =
        sewn_again G rings [] (record {
          good = corners-good (X 0).n (G.few 0);
          flat = refl;
          panels = refl;
          rounds = λ k h. absurd (omega arith);
          used = λ i h. absurd (omega arith);
          alone = λ j h. absurd (omega arith);
        }) (record { met = λ j h. absurd (omega arith); alone = λ j h. absurd (omega arith) }) refl (omega (arith, rings-long, G.few 2)) (λ k h.
        let i : k < (X 2).n = omega (arith, rings-long) in
        rw (ring-at k i) (panel_in (panel X k) (one_ring-at k i)))

    -- "and its rings are those of the pattern"
    pub rings_again : (c : List ℤ) {Y : Complex} → sew (plain_of X c) ≡ sewn Y → (k : ℕ) → k < (X 2).n → ring_of Y (panel Y k) ≡ ring_of X (panel X k)
    unfolding plain_of
    rings_again c {Y} e k h =
        let A = sewn_round (plain_of X c) (G.few 0) (omega (arith, rings-long, G.few 2)) e in
        let r = ring_of X (panel X k) in
        let F = followed X (panel X k) (one_ring-at k h) in
        let R = rw (ring-at k h) at (A.rounds k (omega (arith, rings-long))) in
        let S = start R.along in
        let some : 0 < length r = omega (arith, ring_long r F.ring) in
        let first : S.place ≡ 0 = corners-apart r F.ring S.place 0 S.inside some
        (omega (arith, S.is, S.lowest 0 some, F.lowest S.place S.inside)) in
        rw R.faces (walk_turned R.along ∙ rw first (append-nil r))
