-- The sides of a ring whose seams are all there: each seam is another, together they have no boundary, and so they make a panel.
use mathlib.Core.Path.{◌≡◌, refl, sym, ap, ◌∙◌}
use mathlib.Core.Logic.{◌≢◌}
use mathlib.Core.Bool.{Bool, true, not, ◌&&◌}
use Prim.Native.Nat.{ℕ, zero, suc, ◌<◌, ◌≤◌}
use native.Mathlib.Omega.{arith}
use borrow.Author.Tests.{ltb-true, lt-ltb, leb-true, eq-eqb, ne_eqb, eqb-false, not-true}
use lib.Dec.{eqb, ltb, leb}
use lib.ListN.{length}
use lib.IntN.{ℤ, pos, nat_abs, neg_ℤ, ◌+ℤ◌, ◌-ℤ◌, ◌*ℤ◌, +ℤ_comm, +ℤ_assoc, +ℤ_invr}
use Rattle.maths.specs.Tests.{all}
use Rattle.maths.specs.Sums.{sum, dot, δ}
use Rattle.maths.proofs.Integers.{neg_add}
use Rattle.maths.proofs.Cases.{eq_or, lt_or, and_left, and_right}
use Rattle.maths.proofs.Tests.{all-at, all_of}
use Rattle.maths.proofs.Sums.{sum-zero, sum-suc, sum_same, sum_*l, sum_swap}
use Rattle.maths.proofs.Dots.{dot_*front, dot-δ_r}
use Rattle.rules.specs.Complex.{Complex}
use Rattle.rules.specs.Good.{Good}
use Rattle.rules.specs.Edits.{layers, make}
use Rattle.rules.specs.Operators.{Faces, edited, chain_of, all_below, closed, make_step}
use Rattle.rules.proofs.Layers.Judged.{has_face, closes-is}
use Rattle.rules.proofs.Bytes.Faces.{Distinct, faces-within, chain-at}
use Rattle.rules.proofs.Accepting.Accepted.{make-accepted}
use Rattle.rules.proofs.Cells.MakeCells.{good_made}
use Rattle.off.specs.Plain.{Ring}
use Rattle.off.specs.Rings.{corner_at, next_at, corners_below, distinct, is_ring}
use Rattle.off.specs.Sewing.{sewn, ends_of, seam_of, sides, make_panel}
use Rattle.off.proofs.sewing.SeamsFound.{seam_below, seam_sign, seam_tells, side_entry}

steps_on : (x y z : ℤ) → (x -ℤ y) +ℤ (z -ℤ x) ≡ z -ℤ y
steps_on x y z = +ℤ_comm (x -ℤ y) (z -ℤ x) ∙ +ℤ_assoc z (neg_ℤ x) (x -ℤ y) ∙ ap (λ w. z +ℤ w) (neg_add x (neg_ℤ y))

module _ (r : Ring) where
  -- the corner after corner l is the first, or the next
  pub next_or : (l : ℕ) {A : Type 0} → (suc l ≡ length r → next_at r l ≡ corner_at r 0 → A) → (suc l ≢ length r → next_at r l ≡ corner_at r (suc l) → A) → A
  unfolding next_at
  next_or l last other = eq_or (suc l) (length r) (λ e. last e (rw (eq-eqb (suc l) (length r) e))) (λ e. other e (rw (ne_eqb (suc l) (length r) e)))

  module _ {n : ℕ} (b : corners_below n r ≡ true) where
    pub corner-below : (l : ℕ) → l < length r → corner_at r l < n
    unfolding corners_below
    corner-below l h = ltb-true (corner_at r l) n (all-at (length r) (λ l. ltb (corner_at r l) n) b l h)

    pub next-below : (l : ℕ) → l < length r → next_at r l < n
    next-below l h = next_or l (λ _ e. rw e (corner-below 0 (omega arith))) (λ f e. rw e (corner-below (suc l) (omega arith)))

  -- what goes round comes to nothing
  module _ (f : ℕ → ℤ) where
    so_far : (m : ℕ) → m < length r → sum m (λ l. f (next_at r l) -ℤ f (corner_at r l)) ≡ f (corner_at r m) -ℤ f (corner_at r 0)
    so_far zero h = sum-zero _ ∙ sym (+ℤ_invr (f (corner_at r 0)))
    so_far (suc m) h = next_or m (λ e _. absurd (omega arith))
        (λ _ e. rw (sum-suc m (λ l. f (next_at r l) -ℤ f (corner_at r l)), so_far m (omega arith), e) (steps_on (f (corner_at r m)) (f (corner_at r 0)) (f (corner_at r (suc m)))))

    round_from : (n : ℕ) → length r ≡ n → 0 < n → sum n (λ l. f (next_at r l) -ℤ f (corner_at r l)) ≡ pos 0
    round_from zero e h = absurd (omega arith)
    round_from (suc m) e h = next_or m
        (λ _ q. rw (sum-suc m (λ l. f (next_at r l) -ℤ f (corner_at r l)), so_far m (omega arith), q)
        (steps_on (f (corner_at r m)) (f (corner_at r 0)) (f (corner_at r 0)) ∙ +ℤ_invr (f (corner_at r 0))))
        (λ n _. absurd (omega arith))

    pub round : 0 < length r → sum (length r) (λ l. f (next_at r l) -ℤ f (corner_at r l)) ≡ pos 0
    round h = round_from (length r) refl h

  -- no corner comes again
  pub distinct_apart : distinct r ≡ true → (k l : ℕ) → k < l → l < length r → corner_at r k ≢ corner_at r l
  unfolding distinct
  distinct_apart d k l h i =
      let row : ℕ → ℕ → Bool = λ l k. not (eqb (corner_at r k) (corner_at r l)) in
      eqb-false (corner_at r k) (corner_at r l) (not-true _ (all-at l (row l) (all-at (length r) (λ l. all l (row l)) d l i) k h))

  -- a ring
  module _ (t : is_ring r ≡ true) where
    pub ring_long : 3 ≤ length r
    unfolding is_ring
    ring_long = leb-true 3 (length r) (and_left _ _ (and_left _ (distinct r) t))

    pub ring-short : length r ≤ 96
    unfolding is_ring
    ring-short = leb-true (length r) 96 (and_right (leb 3 (length r)) _ (and_left _ (distinct r) t))

    before_apart : (k l : ℕ) → k < l → l < length r → corner_at r k ≢ corner_at r l
    unfolding is_ring
    before_apart = distinct_apart (and_right (leb 3 (length r) && leb (length r) 96) (distinct r) t)

    pub corners-apart : (k l : ℕ) → k < length r → l < length r → corner_at r k ≡ corner_at r l → k ≡ l
    corners-apart k l h i e = lt_or k l
        (λ q. absurd (before_apart k l q i e))
        (λ q. eq_or k l (λ s. s) (λ s. absurd (before_apart l k (omega arith) h (sym e))))

    -- the corner after a corner is another
    pub next-apart : (l : ℕ) → l < length r → corner_at r l ≢ next_at r l
    next-apart l h e = next_or l
        (λ q s. omega (arith, ring_long, corners-apart l 0 h (omega arith) (e ∙ s)))
        (λ q s. omega (arith, corners-apart l (suc l) h (omega arith) (e ∙ s)))

    -- no two sides go to and fro
    pub no_return : (k l : ℕ) → k < length r → l < length r → corner_at r k ≡ next_at r l → next_at r k ≡ corner_at r l → ⊥
    no_return k l h i p q =
        let long = ring_long in
        next_or l
        (λ e s. let z : k ≡ 0 = corners-apart k 0 h (omega arith) (p ∙ s) in next_or k
        (λ f u. omega (arith, corners-apart 0 l (omega arith) i (sym u ∙ q)))
        (λ f u. omega (arith, corners-apart (suc k) l (omega arith) i (sym u ∙ q))))
        (λ e s. let z : k ≡ suc l = corners-apart k (suc l) h (omega arith) (p ∙ s) in next_or k
        (λ f u. omega (arith, corners-apart 0 l (omega arith) i (sym u ∙ q)))
        (λ f u. omega (arith, corners-apart (suc k) l (omega arith) i (sym u ∙ q))))

-- the product with a chain of listed cells is the sum over them
pub dot-chain : (n : ℕ) (x : ℕ → ℤ) (F : Faces) → ((l : ℕ) → l < F.n → F.number l < n) →
    dot n x (chain_of F) ≡ sum F.n (λ l. F.sign l *ℤ x (F.number l))
unfolding dot chain_of
dot-chain n x F h =
    sum_same n (λ i _. sym (sum_*l F.n (x i) (λ l. F.sign l *ℤ δ (F.number l) i)))
    ∙ sum_swap n F.n (λ i l. x i *ℤ (F.sign l *ℤ δ (F.number l) i))
    ∙ sum_same F.n (λ l k. each l k)
  where
    each : (l : ℕ) → l < F.n → sum n (λ i. x i *ℤ (F.sign l *ℤ δ (F.number l) i)) ≡ F.sign l *ℤ x (F.number l)
    each l k = dot_*front n (F.sign l) x (δ (F.number l)) ∙ rw (dot-δ_r n (F.number l) x (h l k))

-- every side of the ring has a seam
pub record AllMet (r : Ring) (X : Complex) : Type 0 where
  pub met : (l : ℕ) → l < length r → seam_of (X 1) (corner_at r l) (next_at r l) ≢ pos 0

module _ {r : Ring} (t : is_ring r ≡ true) {X : Complex} (G : Good X) (m : AllMet r X) where
  abbrev F : Faces
  F = sides (seam_of (X 1)) r

  pub sides-below : (l : ℕ) → l < length r → F.number l < (X 1).n
  sides-below l h = seam_below (ends_of (X 1)) (X 1).n (corner_at r l) (next_at r l) (m.met l h)

  pub sides_apart : (k l : ℕ) → k < length r → l < length r → k ≢ l → F.number k ≢ F.number l
  sides_apart k l h i f e = seam_tells (ends_of (X 1)) (X 1).n (corner_at r k) (next_at r k) (corner_at r l) (next_at r l) (m.met k h) (m.met l i) e
      (λ q. f (corners-apart r t k l h i q))
      (no_return r t k l h i)

  pub sides-distinct : Distinct F
  sides-distinct = record {
    few = ring-short r t;
    apart = sides_apart;
    signs = λ l h. seam_sign (ends_of (X 1)) (X 1).n (corner_at r l) (next_at r l);
  }

  all-sides : all_below (X 1).n F ≡ true
  unfolding all_below
  all-sides = all_of (length r) (λ l h. lt-ltb (F.number l) (X 1).n (sides-below l h))

  sides-close : (i : ℕ) → dot 96 (λ j. (X 1).d i j) (chain_of F) ≡ pos 0
  sides-close i =
      dot-chain 96 (λ j. (X 1).d i j) F (λ l h. omega (arith, sides-below l h, G.few 1))
      ∙ sum_same (length r) (λ l h. side_entry G (corner_at r l) (next_at r l) i (m.met l h))
      ∙ round r (λ a. δ a i) (omega (arith, ring_long r t))

  first_side : chain_of F (F.number 0) ≢ pos 0
  first_side e =
      let long = ring_long r t in
      let one : nat_abs (F.sign 0) ≡ 1 = sides-distinct.signs 0 (omega arith) in
      let none : F.sign 0 ≡ pos 0 = sym (chain-at F sides-distinct 0 (omega arith)) ∙ e in
      omega (arith, rw none at one)

  panel-closed : closed 2 (chain_of F) X ≡ true
  unfolding closed
  panel-closed =
      let long = ring_long r t in
      let low : F.number 0 < 96 = omega (arith, sides-below 0 (omega arith), G.few 1) in
      rw (
        has_face (chain_of F) (F.number 0) low first_side,
        closes-is (chain_of F) (X 0).n (X 1) (G.few 1) (faces-within F (X 1).n all-sides) sides-close,
      )

  module _ (room : (X 2).n < 96) where
    pub panel-step : make_step 2 F X ≡ edited (make 2 (chain_of F) X)
    unfolding make_step
    panel-step = rw (all-sides, lt-ltb (X 2).n 96 room, panel-closed)

    pub panel_made : make_panel r X ≡ sewn (layers (make 2 (chain_of F) X))
    unfolding make_panel
    panel_made = rw panel-step

    pub panel-good : Good (layers (make 2 (chain_of F) X))
    panel-good = good_made G (make-accepted G 2 F (omega arith)
        (record { corner = λ e. absurd (omega arith); seam = λ e. absurd (omega arith); signed = λ _. sides-distinct }) panel-step).0
