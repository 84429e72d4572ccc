-- The row of a cell, and how many faces two columns share: the two cells that it lies between, or the refusal.
use Rattle.std.specs.Prelude.{Ok, Err}
use mathlib.Core.Path.{◌≡◌, refl, sym, ◌∙◌, ap}
use mathlib.Core.Logic.{◌≢◌}
use mathlib.Core.Bool.{Bool, true, false, not, cond, ◌||◌}
use Prim.Native.Nat.{ℕ, ◌<◌, ◌≤◌}
use native.Mathlib.Omega.{arith}
use borrow.Author.Tests.{not-true, eq-eqb, ne_eqb}
use lib.Dec.{eqb}
use lib.IntN.{ℤ, pos, negsuc, pos-ne-negsuc}
use Rattle.maths.specs.Tests.{eq_z, is_zero, all, count, last}
use Rattle.maths.specs.Tables.{Entries}
use Rattle.maths.proofs.Cases.{eq_or, by_bool, lt_or, no_eq}
use Rattle.maths.proofs.Tests.{eq_z-true, zero-false, not-zero, all-at, all-false, count_one, one_found, last_le, last_passes, last-most}
use Rattle.rules.specs.declared.refusals.Refusal.{Refusal}
use Rattle.rules.specs.Complex.{Chain}
use Rattle.rules.specs.Good.{one_each}
use Rattle.rules.specs.Operators.{share_only, lower, higher}
use Rattle.rules.proofs.Layers.Judged.{one_each_true}
use Rattle.operators.specs.Joins.{Sides, column_of, both, shared_by, sides_of}

-- a is below b, and both are numbers of cells that the row v meets
pub record Pair (v : Chain) (a b : ℕ) : Type 0 where
  pub less : a < b
  pub high : b < 96
  pub met_low : v a ≢ pos 0
  pub met : v b ≢ pos 0

-- a row with one -1 and one +1 has two places where it is not 0
pub two_met : (v : Chain) → one_each v ≡ true → Pair v (lower v) (higher v)
unfolding is_zero eq_z
two_met v e =
    let met : ℕ → Bool = λ j. not (is_zero (v j)) in
    let o = one_each_true v e in
    let t = one_found 96 (λ i. eq_z (v i) (negsuc 0)) o.tail in
    let h = one_found 96 (λ i. eq_z (v i) (pos 1)) o.head in
    let v-tail : v t.0 ≡ negsuc 0 = eq_z-true t.2 in
    let v-head : v h.0 ≡ pos 1 = eq_z-true h.2 in
    let tail : met t.0 ≡ true = rw v-tail in
    let head : met h.0 ≡ true = rw v-head in
    let last_one = last_passes 96 met t.0 t.1 tail in
    let differ : t.0 ≢ h.0 = λ e. let z : ◌≡◌ {A = ℤ} (negsuc 0) (pos 1) = cc in pos-ne-negsuc 1 0 (sym z) in
    let first_one : (met (lower v) ≡ true) × (lower v < higher v) =
    lt_or t.0 (higher v)
    (λ l. last_passes (higher v) met t.0 l tail)
    (λ l. let l' = last-most 96 met t.0 t.1 tail in let m = last-most 96 met h.0 h.1 head in
    last_passes (higher v) met h.0 (omega (arith, differ)) head) in
    record {
      less = first_one.1;
      high = last_one.1;
      met_low = zero-false (not-true _ first_one.0);
      met = zero-false (not-true _ last_one.0);
    }

-- cells are answered only where both tests hold
no_cells : {a b : ℕ} {r : Refusal} → ◌≢◌ {A = Sides} (Ok (a, b)) (Err r)
no_cells e = let z : ◌≡◌ {A = ℕ} 0 1 = cc in omega arith

sides_are : (x y : Bool) (l h : ℕ) {a b : ℕ}
    → ◌≡◌ {A = Sides} (Ok (a, b)) (cond x (cond y (Ok (l, h)) (Err Refusal.SharedFace)) (Err Refusal.NotBetween))
    → (x ≡ true) × (l ≡ a) × (h ≡ b)
sides_are true true l h {a} {b} e = let p : ◌≡◌ {A = ℕ × ℕ} (l, h) (a, b) = cc e in (refl, ap (λ x. x.0) p, ap (λ x. x.1) p)
sides_are true false l h e = absurd (no_cells e)
sides_are false y l h e = absurd (no_cells e)

-- the two cells that are answered are the two places of the row
pub cells_met : (f : Entries) (t : ℕ) {a b : ℕ} → sides_of f t ≡ Ok (a, b) → Pair (λ j. f t j) a b
unfolding sides_of
cells_met f t e =
    let v : Chain = λ j. f t j in
    let s = sides_are (one_each v) (share_only t (column_of f (lower v)) (column_of f (higher v))) (lower v) (higher v) (sym e) in
    rw (s.1, s.2) at (two_met v s.0)

-- how many faces two columns share, where t is one
module _ (f : Entries) (t a b : ℕ) (low : t < 96) (met-a : f t a ≢ pos 0) (met-b : f t b ≢ pos 0) where
  abbrev shares : ℕ → Bool
  shares i = both (f i a) (f i b)

  at_t : shares t ≡ true
  at_t = rw (not-zero met-a, not-zero met-b)

  other_row : (i : ℕ) → i ≢ t → not (eqb i t || is_zero (f i a) || is_zero (f i b)) ≡ shares i
  other_row i n = rw (ne_eqb i t n)

  pub shared_one : eqb (shared_by f a b) 1 ≡ share_only t (column_of f a) (column_of f b)
  unfolding share_only shared_by
  shared_one =
      let apart : ℕ → Bool = λ i. eqb i t || is_zero (f i a) || is_zero (f i b) in
      by_bool (all 96 apart) (λ x. eqb (count 96 shares) 1 ≡ x)
      (λ e. eq-eqb (count 96 shares) 1 (count_one 96 t low at_t (λ i l n. sym (other_row i n) ∙ ap not (all-at 96 apart e i l))))
      (λ e.
      let other = all-false 96 apart e in
      let i = other.0 in
      let n : i ≢ t = λ q. no_eq (sym other.2 ∙ rw (eq-eqb i t q)) in
      let shares-i : shares i ≡ true = sym (other_row i n) ∙ ap not other.2 in
      ne_eqb (count 96 shares) 1 (λ one.
      let found = one_found 96 shares one in
      let is_found : (j : ℕ) → j < 96 → shares j ≡ true → j ≡ found.0 = λ j l s. eq_or j found.0 (λ q. q) (λ q. no_eq (sym (found.3 j l q) ∙ s)) in
      n (is_found i other.1 shares-i ∙ sym (is_found t low at_t))))

-- the two places that are looked up, whatever the row is
higher-low : (v : Chain) → higher v < 96
unfolding last
higher-low v =
    let met : ℕ → Bool = λ j. not (is_zero (v j)) in
    by_bool (met 95) (λ t. cond t 95 (last 95 met) < 96) (λ _. omega arith) (λ _. omega (arith, last_le 95 met))

pub record Places (f : Entries) (t a b : ℕ) : Type 0 where
  pub last-is : b ≡ higher (λ j. f t j)
  pub first-is : a ≡ last b (λ j. not (is_zero (f t j)))

pub last-low : (f : Entries) (t : ℕ) {b : ℕ} → b ≡ higher (λ j. f t j) → b < 96
last-low f t e = rw e (higher-low (λ j. f t j))

-- the tests in their order, and what each tells
module _ {f : Entries} {t a b : ℕ} (P : Places f t a b) where
  pub second-low : b < 96
  second-low = last-low f t P.last-is

  pub first-low : a < 96
  first-low = let first : a ≤ b = rw P.first-is (last_le b (λ j. not (is_zero (f t j)))) in omega (arith, second-low)

  pub not_between_lem : one_each (λ j. f t j) ≡ false → Err Refusal.NotBetween ≡ sides_of f t
  unfolding sides_of
  not_between_lem o = rw o

  module _ (o : one_each (λ j. f t j) ≡ true) (low : t < 96) {n : ℕ} (e : n ≡ shared_by f a b) where
    counted : share_only t (column_of f a) (column_of f b) ≡ eqb n 1
    counted =
        let m : Pair (λ j. f t j) a b = rw (P.first-is, P.last-is) (two_met (λ j. f t j) o) in
        sym (rw e (shared_one f t a b low m.met_low m.met))

    pub shared_face_lem : eqb n 1 ≡ false → Err Refusal.SharedFace ≡ sides_of f t
    unfolding sides_of
    shared_face_lem q = rw (o, ← P.last-is, ← P.first-is, counted, q)

    pub sides-found : eqb n 1 ≡ true → ◌≡◌ {A = Sides} (Ok (a, b)) (sides_of f t)
    unfolding sides_of
    sides-found q = rw (o, ← P.last-is, ← P.first-is, counted, q)
