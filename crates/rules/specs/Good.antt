-- "A good pattern": the statement, and the test that computes.
use Rattle.std.specs.Prelude.{◌≡◌, ◌≢◌, Bool, not, cond, ◌&&◌, ℕ, suc, ◌<◌, ◌≤◌, eqb, ltb, leb, ℤ, pos, negsuc, nat_abs}
use Rattle.maths.specs.Tests.{eq_z, is_zero, is_unit, all, count}
use Rattle.maths.specs.Sums.{dot}
use Rattle.rules.specs.Complex.{Pattern, Sized, Layer, Complex, Chain, complex}

-- how often v has the value z
abbrev pub times : ℤ → Chain → ℕ
times z v = count 96 (λ i. eq_z (v i) z)

-- "exactly one -1 (tail) and one +1 (head)"
pub record OneEach (v : Chain) : Type 0 where
  pub tail : times (negsuc 0) v ≡ 1
  pub head : times (pos 1) v ≡ 1

-- Good means all of these; matrix k + 1 stands between the cells of dimension k and those of dimension k + 1.
pub record Good (X : Complex) : Type 0 where
  -- "every count is at most 96; every entry is -1, 0 or 1"
  pub few : (k : ℕ) → (X k).n ≤ 96
  pub units : (k i j : ℕ) → nat_abs ((X k).d i j) ≤ 1
  -- "an entry with its row or column not below its count is 0"
  pub rows : (k i j : ℕ) → (X k).n ≤ i → (X (suc k)).d i j ≡ pos 0
  pub columns : (k i j : ℕ) → (X k).n ≤ j → (X k).d i j ≡ pos 0
  -- "each seam column has exactly one -1 and one +1"
  pub seams : (j : ℕ) → j < (X 1).n → OneEach (λ i. (X 1).d i j)
  -- "each panel and block column has some entry that is not 0"
  pub faces : (k j : ℕ) → j < (X (suc (suc k))).n → (i : ℕ) × ((X (suc (suc k))).d i j ≢ pos 0)
  -- "matrix 1 times matrix 2 is zero, and matrix 2 times matrix 3 is zero"
  pub null : (k r j : ℕ) → dot 96 (λ i. (X (suc k)).d r i) (λ i. (X (suc (suc k))).d i j) ≡ pos 0
  -- corners have no faces, and nothing is above blocks
  pub ground : (i j : ℕ) → (X 0).d i j ≡ pos 0
  pub top : (k : ℕ) → 3 < k → (X k).n ≡ 0

-- a stored pattern that is good, of the right lengths
pub record Held (p : Pattern) : Type 0 where
  pub sized : Sized p
  pub good : Good (complex p)

-- good as a test

unfoldable pub one_each : Chain → Bool
one_each v = eqb (times (negsuc 0) v) 1 && eqb (times (pos 1) v) 1

unfoldable pub all_zero : Chain → Bool
all_zero v = all 96 (λ i. is_zero (v i))

-- every entry is -1, 0 or 1, and 0 where its row or column is not below its count
unfoldable pub in_place : ℕ → Layer → Bool
in_place rows A = all 96 (λ j. all 96 (λ i. let e = A.d i j in cond (ltb i rows && ltb j A.n) (is_unit e) (is_zero e)))

-- the chain v of cells of A has boundary zero
unfoldable pub closes : ℕ → Layer → Chain → Bool
closes rows A v = all rows (λ r. is_zero (dot A.n (λ i. A.d r i) (λ i. v i)))

unfoldable pub is_good : Complex → Bool
is_good X =
    all 4 (λ k. leb (X k).n 96)
    && all 3 (λ k. in_place (X k).n (X (suc k)))
    && all (X 1).n (λ j. one_each (λ i. (X 1).d i j))
    && all 2 (λ k. all (X (suc (suc k))).n (λ j. not (all_zero (λ i. (X (suc (suc k))).d i j))))
    && all 2 (λ k. all (X (suc (suc k))).n (λ j. closes (X k).n (X (suc k)) (λ i. (X (suc (suc k))).d i j)))
