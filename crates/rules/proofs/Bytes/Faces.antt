-- The chain of listed faces: where it is 0, its coefficients, and the two faces of a seam.
use mathlib.Core.Path.{◌≡◌, sym, ◌∙◌}
use mathlib.Core.Logic.{◌≢◌}
use mathlib.Core.Bool.{Bool, true, not}
use Prim.Native.Nat.{ℕ, ◌<◌, ◌≤◌}
use native.Mathlib.Omega.{arith}
use borrow.Author.Tests.{ltb-true, eqb-true, not-true, not-false, eqb-false}
use lib.Dec.{eqb, ltb}
use lib.IntN.{ℤ, pos, negsuc, nat_abs, ◌-ℤ◌, ◌*ℤ◌, *ℤ-zero, +ℤ_comm, +ℤ_invr}
use Rattle.maths.specs.Tests.{all}
use Rattle.maths.specs.Sums.{δ}
use Rattle.maths.proofs.Integers.{ints, *ℤ_1}
use Rattle.maths.proofs.Cases.{eq_or, bool_or}
use Rattle.maths.proofs.Tests.{all-at, all-false}
use Rattle.maths.proofs.Sums.{sum-zero, sum-suc, sum_one, sum-all_0, δ_same, δ_no}
use Rattle.rules.specs.Complex.{Chain}
use Rattle.rules.specs.Operators.{Faces, chain_of, all_below}
use Rattle.rules.proofs.Layers.Frame.{Within}
use Rattle.rules.proofs.Layers.Seams.{Ends, same_ends_lem}

-- signed faces, each of them once
pub record Distinct (F : Faces) : Type 0 where
  pub few : F.n ≤ 96
  pub apart : (l l' : ℕ) → l < F.n → l' < F.n → l ≢ l' → F.number l ≢ F.number l'
  pub signs : (l : ℕ) → l < F.n → nat_abs (F.sign l) ≡ 1

-- the tail, then the head
pub record TailHead (F : Faces) : Type 0 where
  pub two : F.n ≡ 2
  pub tail : F.sign 0 ≡ negsuc 0
  pub head : F.sign 1 ≡ pos 1

-- the faces that a cell of dimension k is made with
pub record GivenFaces (k : ℕ) (F : Faces) : Type 0 where
  pub corner : k ≡ 0 → F.n ≡ 0
  pub seam : k ≡ 1 → TailHead F
  pub signed : 2 ≤ k → Distinct F

module _ (F : Faces) where
  pub all-below : (n : ℕ) → all_below n F ≡ true → (l : ℕ) → l < F.n → F.number l < n
  unfolding all_below
  all-below n e l h = ltb-true (F.number l) n (all-at F.n (λ l. ltb (F.number l) n) e l h)

  -- a cell that is not listed
  pub chain_off : (i : ℕ) → ((l : ℕ) → l < F.n → F.number l ≢ i) → chain_of F i ≡ pos 0
  unfolding chain_of
  chain_off i off = sum-all_0 F.n (λ l h. rw (δ_no (F.number l) i (λ e. off l h (sym e))) (*ℤ-zero (F.sign l)))

  pub faces-within : (n : ℕ) → all_below n F ≡ true → Within n (chain_of F)
  faces-within n e i h = chain_off i (λ l k q. omega (arith, all-below n e l k))

  -- a cell is one of the listed, or none
  listed_or : (i : ℕ) {A : Type 0} → ((l : ℕ) → l < F.n → F.number l ≡ i → A) → (((l : ℕ) → l < F.n → F.number l ≢ i) → A) → A
  listed_or i {A} on off =
      let p : ℕ → Bool = λ l. not (eqb (F.number l) i) in
      bool_or (all F.n p)
      (λ e. off (λ l h. eqb-false (F.number l) i (not-true (eqb (F.number l) i) (all-at F.n p e l h))))
      (λ e. let r = all-false F.n p e in on r.0 r.1 (eqb-true (F.number r.0) i (not-false (eqb (F.number r.0) i) r.2)))

  -- a cell that is listed once
  pub chain-at : Distinct F → (l : ℕ) → l < F.n → chain_of F (F.number l) ≡ F.sign l
  unfolding chain_of
  chain-at D l h =
      sum_one F.n l h (λ l' h' q. rw (δ_no (F.number l') (F.number l) (D.apart l l' h h' (λ e. q (sym e)))) (*ℤ-zero (F.sign l')))
      ∙ rw (δ_same (F.number l)) (*ℤ_1 (F.sign l))

  chain-units : Distinct F → (i : ℕ) → nat_abs (chain_of F i) ≤ 1
  chain-units D i = listed_or i
      (λ l h e. rw (← e, chain-at D l h) (omega (arith, D.signs l h)))
      (λ off. rw (chain_off i off) (omega arith))

  module _ (T : TailHead F) where
    seam_chain : (i : ℕ) → chain_of F i ≡ δ (F.number 1) i -ℤ δ (F.number 0) i
    unfolding chain_of
    seam_chain i =
        let f : ℕ → ℤ = λ l. F.sign l *ℤ δ (F.number l) i in
        rw (T.two, sum-suc 1 f, sum-suc 0 f, sum-zero f, T.tail, T.head) (simp (ints, +ℤ_comm))

    seam_off : (i : ℕ) → i ≢ F.number 0 → i ≢ F.number 1 → chain_of F i ≡ pos 0
    seam_off i t h = rw (seam_chain i, δ_no (F.number 0) i t, δ_no (F.number 1) i h)

    -- of a cell with itself nothing is left
    pub seam_none : F.number 0 ≡ F.number 1 → (i : ℕ) → chain_of F i ≡ pos 0
    seam_none e i = rw (seam_chain i, e) (+ℤ_invr (δ (F.number 1) i))

    module _ (a : F.number 0 ≢ F.number 1) where
      seam_tail : chain_of F (F.number 0) ≡ negsuc 0
      seam_tail = rw (seam_chain (F.number 0), δ_no (F.number 1) (F.number 0) a, δ_same)

      seam_head : chain_of F (F.number 1) ≡ pos 1
      seam_head = rw (seam_chain (F.number 1), δ_no (F.number 0) (F.number 1) (λ e. a (sym e)), δ_same)

      pub seam_ends : F.number 0 < 96 → F.number 1 < 96 → Ends (chain_of F) (F.number 0) (F.number 1)
      seam_ends t h = record { apart = a; low = t; high = h; tail = seam_tail; head = seam_head; only = seam_off }

    pub ends-chain : {v : Chain} {a b : ℕ} → F.number 0 ≡ a → F.number 1 ≡ b → Ends v a b → chain_of F ≡ v
    ends-chain {v} p q E =
        let E' : Ends v (F.number 0) (F.number 1) = rw (p, q) E in
        same_ends_lem (seam_ends E'.apart E'.low E'.high) E'

    seam_units : (i : ℕ) → nat_abs (chain_of F i) ≤ 1
    seam_units i =
        eq_or (F.number 0) (F.number 1) (λ e. rw (seam_none e i) (omega arith)) λ a.
        eq_or i (F.number 0) (λ e. rw (e, seam_tail a) (omega arith)) λ t.
        eq_or i (F.number 1) (λ e. rw (e, seam_head a) (omega arith)) λ h.
        rw (seam_off i t h) (omega arith)

  -- what they have in common, whatever the dimension
  module _ {k : ℕ} (g : GivenFaces k F) where
    pub given-none : k ≡ 0 → (i : ℕ) → chain_of F i ≡ pos 0
    given-none e i = let n : F.n ≡ 0 = g.corner e in chain_off i (λ l h. absurd (omega arith))

    pub given-units : (i : ℕ) → nat_abs (chain_of F i) ≤ 1
    given-units i = eq_or k 0
        (λ e. rw (given-none e i) (omega arith))
        (λ a. eq_or k 1 (λ e. seam_units (g.seam e) i) (λ b. chain-units (g.signed (omega arith)) i))
