-- The panel that is made of a ring goes round it: from each corner of the ring to the next, and from no other.
use mathlib.Core.Path.{◌≡◌, refl, sym, ap, ◌∙◌}
use mathlib.Core.Logic.{◌≢◌}
use mathlib.Core.Bool.{Bool, true, false, not, cond}
use Prim.Native.Nat.{ℕ, zero, suc, pred, ◌<◌, ◌≤◌}
use native.Mathlib.Omega.{arith}
use borrow.Author.Tests.{lt-ltb, eqb-true, eqb-false, eq-eqb, not-true, not-false}
use lib.Dec.{eqb}
use lib.IntN.{pos, nat_abs}
use lib.ListN.{length}
use Rattle.maths.specs.Tests.{eq_z, is_zero, all}
use Rattle.maths.proofs.Cases.{eq_or, bool_or, by_bool, no_eq, and_left, and_right, and_both}
use Rattle.maths.proofs.Tests.{all-at, all_of, all-false, zero-false, not-zero}
use Rattle.rules.specs.Complex.{Complex, Chain}
use Rattle.rules.specs.Good.{Good}
use Rattle.rules.specs.Mesh.{face_count}
use Rattle.rules.specs.Operators.{Faces, chain_of}
use Rattle.rules.proofs.Bytes.Faces.{chain-at, chain_off}
use Rattle.off.specs.Plain.{Ring}
use Rattle.off.specs.Rings.{corner_at, next_at, corners_below, is_ring}
use Rattle.off.specs.Sewing.{SeamEnds, ends_of, seam_of, sides, signum}
use Rattle.off.specs.Exporting.{comes_from, goes_to, leaves_by, nowhere, next_among}
use Rattle.off.proofs.sewing.SeamsFound.{seam_each, seam_sign}
use Rattle.off.proofs.sewing.RingSides.{corner-below, corners-apart, AllMet, sides-below, sides_apart, sides-distinct}
use Rattle.off.proofs.Rounds.Counting.{count-listed}
use Rattle.off.proofs.Rounds.Turning.{Along}

-- where the panel v goes from a: to b, if it leaves a and always to b; nowhere, if it does not leave a
module _ (E : SeamEnds) (v : Chain) (a : ℕ) where
  pub next-none : (n : ℕ) → ((j : ℕ) → j < n → leaves_by E v a j ≡ false) → next_among E v n a ≡ nowhere
  unfolding next_among
  next-none zero h = refl
  next-none (suc n) h = rw (h n (omega arith)) (next-none n (λ j l. h j (omega arith)))

  pub next-is : (n b j : ℕ) → j < n → leaves_by E v a j ≡ true → ((j : ℕ) → j < n → leaves_by E v a j ≡ true → goes_to E v j ≡ b) → next_among E v n a ≡ b
  unfolding next_among
  next-is zero b j h t same = absurd (omega arith)
  next-is (suc n) b j h t same = by_bool (leaves_by E v a n) (λ t. cond t (goes_to E v n) (next_among E v n a) ≡ b)
      (λ e. same n (omega arith) e)
      (λ e. next-is n b j (eq_or j n (λ q. no_eq (sym e ∙ rw (← q) t)) (λ q. omega arith)) t (λ j h. same j (omega arith)))

pub corners-lower : {m n : ℕ} (r : Ring) → m ≤ n → corners_below m r ≡ true → corners_below n r ≡ true
unfolding corners_below
corners-lower {m} {n} r h b = all_of (length r) (λ l i. lt-ltb (corner_at r l) n (omega (arith, corner-below r b l i)))

module _ {r : Ring} (t : is_ring r ≡ true) {X : Complex} (G : Good X) (low : corners_below (X 0).n r ≡ true) (M : AllMet r X) where
  abbrev F : Faces
  F = sides (seam_of (X 1)) r

  abbrev v : Chain
  v = chain_of F

  abbrev E : SeamEnds
  E = ends_of (X 1)

  entry : (l : ℕ) → l < length r → v (F.number l) ≡ F.sign l
  entry l h = chain-at F (sides-distinct t G M) l h

  -- the panel's way along side l
  way : (l : ℕ) → l < length r → (comes_from E v (F.number l) ≡ corner_at r l) × (goes_to E v (F.number l) ≡ next_at r l)
  unfolding eq_z
  way l h =
      let a = corner_at r l in
      let b = next_at r l in
      seam_each E a b (λ z. z ≢ pos 0 → v (pred (nat_abs z)) ≡ signum z → (comes_from E v (pred (nat_abs z)) ≡ a) × (goes_to E v (pred (nat_abs z)) ≡ b))
      (λ f. absurd (f refl)) (X 1).n
      (λ j h p q _ e. rw (e, p, q) (refl, refl))
      (λ j h p q _ e. rw (e, p, q) (refl, refl))
      (M.met l h) (entry l h)

  some : (l : ℕ) → l < length r → v (F.number l) ≢ pos 0
  some l h e =
      let one : nat_abs (F.sign l) ≡ 1 = seam_sign E (X 1).n (corner_at r l) (next_at r l) in
      let none : nat_abs (F.sign l) ≡ 0 = ap nat_abs (sym (entry l h) ∙ e) in
      omega arith

  -- a seam of the panel is that of a side
  side_of : (j : ℕ) → v j ≢ pos 0 → (l : ℕ) × (l < length r) × (F.number l ≡ j)
  side_of j h =
      let p : ℕ → Bool = λ l. not (eqb (F.number l) j) in
      bool_or (all (length r) p)
      (λ e. absurd (h (chain_off F j (λ l i. eqb-false (F.number l) j (not-true (eqb (F.number l) j) (all-at (length r) p e l i))))))
      (λ e. let f = all-false (length r) p e in (f.0, f.1, eqb-true (F.number f.0) j (not-false (eqb (F.number f.0) j) f.2)))

  leaves : (l : ℕ) → l < length r → leaves_by E v (corner_at r l) (F.number l) ≡ true
  unfolding leaves_by
  leaves l h = and_both (ap not (not-zero (some l h))) (eq-eqb (comes_from E v (F.number l)) (corner_at r l) (way l h).0)

  -- a seam by which the panel leaves a is that of the side from a
  left_by : (a j : ℕ) → leaves_by E v a j ≡ true → (l : ℕ) × (l < length r) × (F.number l ≡ j) × (corner_at r l ≡ a)
  unfolding leaves_by
  left_by a j e =
      let s = side_of j (zero-false (not-true (is_zero (v j)) (and_left (not (is_zero (v j))) _ e))) in
      (s.0, s.1, s.2, sym (way s.0 s.1).0 ∙ rw s.2 (eqb-true (comes_from E v j) a (and_right (not (is_zero (v j))) _ e)))

  pub panel_along : Along (next_among E v (X 1).n) r
  panel_along = record {
    ring = t;
    low = corners-lower r (G.few 0) low;
    goes = λ l h. next-is E v (corner_at r l) (X 1).n (next_at r l) (F.number l) (sides-below t G M l h) (leaves l h) (λ j i e.
        let s = left_by (corner_at r l) j e in
        let q : s.0 ≡ l = corners-apart r t s.0 l s.1 h s.3 in
        rw (← s.2, q) (way l h).1);
    off = λ a none. rw (next-none E v a (X 1).n (λ j h. bool_or (leaves_by E v a j)
        (λ e. let s = left_by a j e in absurd (none s.0 s.1 s.3))
        (λ e. e))) (omega arith);
  }

  -- it has as many seams as the ring has corners
  pub panel-faces : face_count v ≡ length r
  panel-faces = count-listed 96 (length r) F.number (λ i. not (is_zero (v i)))
      (λ l h. omega (arith, sides-below t G M l h, G.few 1))
      (sides_apart t G M)
      (λ l h. ap not (not-zero (some l h)))
      (λ i e. side_of i (zero-false (not-true (is_zero (v i)) e)))

  -- the seam of side l is in it
  pub panel_side : (l : ℕ) → l < length r → v (F.number l) ≢ pos 0
  panel_side l h = some l h
