-- The rings of a pattern that has a plain OFF text are sewn again: there is room for every seam, and its panels go round the same rings.
use mathlib.Core.Path.{◌≡◌, refl, sym, ap, ◌∙◌}
use mathlib.Core.Logic.{◌≢◌}
use mathlib.Core.Bool.{true, cond}
use mathlib.Core.List.{List, [], ◌∷◌, ◌++◌}
use Prim.Native.Nat.{ℕ, zero, suc, pred, ◌+◌, ◌<◌, ◌≤◌}
use native.Mathlib.Omega.{arith}
use borrow.Author.Tests.{eq-eqb, lt-ltb, le-ltb}
use lib.Dec.{ltb}
use lib.IntN.{pos, negsuc, nat_abs}
use lib.ListN.{length, get_or, length-append}
use Rattle.maths.specs.Tests.{eq_z}
use Rattle.maths.proofs.Cases.{eq_or, lt_or, by_bool, no_eq, and_both}
use Rattle.maths.proofs.Tests.{zero-true}
use Rattle.rules.specs.Complex.{Layer, Complex, Chain}
use Rattle.rules.specs.Good.{Good}
use Rattle.rules.proofs.Edits.Makes.{make_other}
use Rattle.off.specs.Plain.{Ring}
use Rattle.off.specs.Rings.{corner_at, next_at, corners_below, is_ring}
use Rattle.off.specs.Sewing.{SeamEnds, sewn, goes_from, ends_of, seam_among, seam_of, sew_all}
use Rattle.off.specs.Exporting.{is_alone}
use Rattle.off.proofs.sewing.SeamsFound.{seam_two, seam_below, none_turned}
use Rattle.off.proofs.sewing.SeamsMade.{some_seam, minus_seam}
use Rattle.off.proofs.ends.SameWays.{same_alone}
use Rattle.off.proofs.sewing.SidesMet.{MetTo}
use Rattle.off.proofs.sewing.RingsSewn.{ring_each}
use Rattle.off.proofs.Rounds.Counting.{few-apart}
use Rattle.off.proofs.Rounds.Followed.{Side}
use Rattle.off.proofs.Rounds.RingsRound.{AllRound, round_more}

module _ (E : SeamEnds) where
  -- a seam that has the two ends is found
  pub found_along : (n a b j : ℕ) → j < n → E.tail j ≡ a → E.head j ≡ b → seam_among E n a b ≢ pos 0
  unfolding seam_among goes_from
  found_along zero a b j h p q = absurd (omega arith)
  found_along (suc n) a b j h p q = by_bool (goes_from E a b n)
      (λ t. cond t (pos (suc n)) (cond (goes_from E b a n) (negsuc n) (seam_among E n a b)) ≢ pos 0)
      (λ _. some_seam n)
      (λ e. by_bool (goes_from E b a n) (λ t. cond t (negsuc n) (seam_among E n a b) ≢ pos 0)
      (λ _. minus_seam n)
      (λ _. found_along n a b j (eq_or j n (λ s. no_eq (sym e ∙ rw (← s) (and_both (eq-eqb (E.tail j) a p) (eq-eqb (E.head j) b q)))) (λ s. omega arith)) p q))

  pub found_against : (n a b j : ℕ) → j < n → E.tail j ≡ b → E.head j ≡ a → seam_among E n a b ≢ pos 0
  found_against n a b j h p q e = found_along n b a j h p q (none_turned E n a b e)

  -- a side of a panel is along a seam
  pub side_found : (v : Chain) (n a b : ℕ) → Side E v n a b → seam_among E n a b ≢ pos 0
  side_found v n a b S = by_bool (eq_z (v S.seam) (pos 1))
      (λ t. cond t (E.tail S.seam) (E.head S.seam) ≡ a → cond t (E.head S.seam) (E.tail S.seam) ≡ b → seam_among E n a b ≢ pos 0)
      (λ _ p q. found_along n a b S.seam S.there p q)
      (λ _ p q. found_against n a b S.seam S.there q p)
      S.from S.to

  -- two seams with the same two ends are not alone
  alone_apart : (j k : ℕ) → j < k → is_alone E k ≡ true → (E.tail j ≡ E.tail k → E.head j ≢ E.head k) × (E.tail j ≡ E.head k → E.head j ≢ E.tail k)
  unfolding is_alone
  alone_apart j k h t =
      let none : seam_among E k (E.tail k) (E.head k) ≡ pos 0 = zero-true t in
      (λ p q. found_along k (E.tail k) (E.head k) j h p q none, λ p q. found_against k (E.tail k) (E.head k) j h p q none)

  -- two pairs of corners with one seam are the same two
  one_seam : (n a b x y : ℕ) → seam_among E n a b ≢ pos 0 → seam_among E n x y ≢ pos 0 →
      pred (nat_abs (seam_among E n a b)) ≡ pred (nat_abs (seam_among E n x y)) → {A : Type 0} → (a ≡ x → b ≡ y → A) → (a ≡ y → b ≡ x → A) → A
  one_seam n a b x y f g e same turned =
      seam_two E n a b f _ e
      (λ p q. seam_two E n x y g _ refl (λ r s. same (sym p ∙ r) (sym q ∙ s)) (λ r s. turned (sym p ∙ r) (sym q ∙ s)))
      (λ p q. seam_two E n x y g _ refl (λ r s. turned (sym q ∙ s) (sym p ∙ r)) (λ r s. same (sym q ∙ s) (sym p ∙ r)))

-- a ring whose sides are seams of X
pub record RingIn (X : Complex) (r : Ring) : Type 0 where
  pub ring : is_ring r ≡ true
  pub low : corners_below (X 0).n r ≡ true
  pub met : (l : ℕ) → l < length r → seam_of (X 1) (corner_at r l) (next_at r l) ≢ pos 0

-- every seam of W has the two ends of one of X, and none those of another of W
pub record SeamsFrom (X W : Complex) : Type 0 where
  pub met : (j : ℕ) → j < (W 1).n → seam_of (X 1) ((ends_of (W 1)).tail j) ((ends_of (W 1)).head j) ≢ pos 0
  pub alone : (j : ℕ) → j < (W 1).n → is_alone (ends_of (W 1)) j ≡ true

module _ {X : Complex} (G : Good X) where
  -- so there is room for a seam of X that W has not
  module _ {W : Complex} (S : SeamsFrom X W) (a b : ℕ) (there : seam_of (X 1) a b ≢ pos 0) (none : seam_of (W 1) a b ≡ pos 0) where
    abbrev E : SeamEnds
    E = ends_of (X 1)

    abbrev D : SeamEnds
    D = ends_of (W 1)

    -- the two ends of seam l of W, and then those of the new one
    one : ℕ → ℕ
    one l = cond (ltb l (W 1).n) (D.tail l) a

    two : ℕ → ℕ
    two l = cond (ltb l (W 1).n) (D.head l) b

    old_one : (l : ℕ) → l < (W 1).n → (one l ≡ D.tail l) × (two l ≡ D.head l)
    unfolding one two
    old_one l h = rw (lt-ltb l (W 1).n h) (refl, refl)

    new_one : (l : ℕ) → (W 1).n ≤ l → (one l ≡ a) × (two l ≡ b)
    unfolding one two
    new_one l h = rw (le-ltb l (W 1).n h) (refl, refl)

    in_x : (l : ℕ) → seam_of (X 1) (one l) (two l) ≢ pos 0
    in_x l = lt_or l (W 1).n
        (λ h. rw ((old_one l h).0, (old_one l h).1) (S.met l h))
        (λ h. rw ((new_one l h).0, (new_one l h).1) there)

    -- no two of them have the same two ends
    apart : (k l : ℕ) → k < l → l < suc (W 1).n → (one k ≡ one l → two k ≢ two l) × (one k ≡ two l → two k ≢ one l)
    apart k l h i =
        let o = old_one k (omega arith) in
        lt_or l (W 1).n
        (λ j. rw (o.0, o.1, (old_one l j).0, (old_one l j).1) (alone_apart D k l h (S.alone l j)))
        (λ j. rw (o.0, o.1, (new_one l j).0, (new_one l j).1)
        (λ p q. found_along D (W 1).n a b k (omega arith) p q none, λ p q. found_against D (W 1).n a b k (omega arith) p q none))

    number : ℕ → ℕ
    number l = pred (nat_abs (seam_of (X 1) (one l) (two l)))

    numbers_apart : (k l : ℕ) → k < l → l < suc (W 1).n → number k ≢ number l
    unfolding number
    numbers_apart k l h i e =
        let x = apart k l h i in
        one_seam E (X 1).n (one k) (two k) (one l) (two l) (in_x k) (in_x l) e (λ p q. x.0 p q) (λ p q. x.1 p q)

    pub room-left : (W 1).n < 96
    unfolding number
    room-left =
        let few = few-apart (X 1).n (suc (W 1).n) number
        (λ l h. seam_below E (X 1).n (one l) (two l) (in_x l))
        (λ k l h i f. lt_or k l (λ q. numbers_apart k l q i) (λ q e. numbers_apart l k (omega arith) h (sym e))) in
        omega (arith, few, G.few 1)

  -- the sides of a ring of X that are met come from X too
  met_from : {W Y : Complex} {r : Ring} {l : ℕ} → SeamsFrom X W → RingIn X r → MetTo r W l Y → l ≤ length r → SeamsFrom X Y
  met_from {W} {Y} {r} S R M h =
      let g = M.grew in
      let D = ends_of (Y 1) in
      record {
        met = λ j i. lt_or j (W 1).n
            (λ o. rw (g.ends.tail j o, g.ends.head j o) (S.met j o))
            (λ o.
            let f = M.fresh j o i in
            let side = R.met f.0 (omega (arith, f.1)) in
            seam_two D (Y 1).n (corner_at r f.0) (next_at r f.0) (M.met f.0 f.1) j f.2
            (λ p q. rw (p, q) side)
            (λ p q. rw (p, q) (λ e. side (none_turned (ends_of (X 1)) (X 1).n (next_at r f.0) (corner_at r f.0) e))));
        alone = λ j i. lt_or j (W 1).n (λ o. same_alone g.ends j o ∙ S.alone j o) (λ o. g.alone j o i);
      }

  -- and are sewn on
  pub sewn_again : (rest rings : List Ring) {W : Complex} → AllRound rings W → SeamsFrom X W → (W 0).n ≡ (X 0).n → length rings + length rest ≤ 96 →
      ((k : ℕ) → k < length rest → RingIn X (get_or rest k [])) → (Y : Complex) × (sew_all (sewn W) rest ≡ sewn Y)
  unfolding sew_all
  sewn_again [] rings {W} A S same few R = (W, refl)
  sewn_again (r ∷ rest) rings {W} A S same few R =
      let ring = R 0 (omega arith) in
      ring_each r A.good (omega (arith, A.panels)) (λ s. (Y : Complex) × (sew_all s rest ≡ sewn Y))
      (λ e. no_eq (sym e ∙ rw same ring.low))
      (λ e. no_eq (sym e ∙ ring.ring))
      (λ Y l h M f. absurd (omega (arith, f.full, room-left (met_from S ring M (omega arith)) (corner_at r l) (next_at r l) (ring.met l h) f.none)))
      (λ Y O.
      let S' = met_from S ring O.met (omega arith) in
      let seams : Y 1 ≡ O.seamed 1 = ap (λ (X : Complex). X 1) O.made ∙ make_other 2 _ O.seamed 1 (omega arith) in
      sewn_again rest (rings ++ (r ∷ [])) (round_more A O)
      (record { met = rw seams S'.met; alone = rw seams S'.alone })
      (ap (λ (A : Layer). A.n) O.corners ∙ same)
      (rw length-append (omega arith))
      (λ k h. R (suc k) (omega arith)))
