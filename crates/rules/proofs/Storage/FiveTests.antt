-- The five tests that `is_good` joins, as a record.
use mathlib.Core.Path.{◌≡◌}
use mathlib.Core.Bool.{Bool, true, not, ◌&&◌}
use Prim.Native.Nat.{ℕ, suc, ◌<◌}
use native.Mathlib.Omega.{arith}
use lib.Dec.{leb}
use Rattle.maths.specs.Tests.{all}
use Rattle.maths.proofs.Cases.{and_left, and_right, and_both}
use Rattle.maths.proofs.Tests.{all-at, all_of}
use Rattle.rules.specs.Complex.{Complex}
use Rattle.rules.specs.Good.{one_each, all_zero, in_place, closes, is_good}

-- the five tests that `is_good` joins
pub record Tests (X : Complex) : Type 0 where
  pub few : all 4 (λ k. leb (X k).n 96) ≡ true
  pub place : all 3 (λ k. in_place (X k).n (X (suc k))) ≡ true
  pub seams : all (X 1).n (λ j. one_each (λ i. (X 1).d i j)) ≡ true
  pub faces : all 2 (λ k. all (X (suc (suc k))).n (λ j. not (all_zero (λ i. (X (suc (suc k))).d i j)))) ≡ true
  pub closed : all 2 (λ k. all (X (suc (suc k))).n (λ j. closes (X k).n (X (suc k)) (λ i. (X (suc (suc k))).d i j))) ≡ true

five : {a b c d e : Bool} → a && b && c && d && e ≡ true → (a ≡ true) × (b ≡ true) × (c ≡ true) × (d ≡ true) × (e ≡ true)
five {a} {b} {c} {d} {e} t =
    let abcd = and_left (a && b && c && d) e t in
    let abc = and_left (a && b && c) d abcd in
    let ab = and_left (a && b) c abc in
    (and_left a b ab, and_right a b ab, and_right (a && b) c abc, and_right (a && b && c) d abcd, and_right (a && b && c && d) e t)

pub tests_of : {X : Complex} → is_good X ≡ true → Tests X
unfolding is_good
tests_of t = let f = five t in record { few = f.0; place = f.1; seams = f.2; faces = f.3; closed = f.4 }

pub tests_are : {X : Complex} → Tests X → is_good X ≡ true
unfolding is_good
tests_are T = and_both (and_both (and_both (and_both T.few T.place) T.seams) T.faces) T.closed

-- the last of them, from its tests and back
pub closed_at : {X : Complex} → Tests X → (k : ℕ) → k < 2 →
    all (X (suc (suc k))).n (λ j. closes (X k).n (X (suc k)) (λ i. (X (suc (suc k))).d i j)) ≡ true
closed_at T k h = all-at 2 _ T.closed k h

pub all_closed : (X : Complex) → ((k : ℕ) → k < 2 →
    all (X (suc (suc k))).n (λ j. closes (X k).n (X (suc k)) (λ i. (X (suc (suc k))).d i j)) ≡ true) →
    all 2 (λ k. all (X (suc (suc k))).n (λ j. closes (X k).n (X (suc k)) (λ i. (X (suc (suc k))).d i j))) ≡ true
all_closed X f = all_of 2 (λ k h. f k (omega arith))
