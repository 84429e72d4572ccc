-- The test of good is true exactly where the statement holds.
use mathlib.Core.Path.{◌≡◌, refl, ap}
use mathlib.Core.Logic.{◌≢◌}
use mathlib.Core.Bool.{true, not, cond, ◌&&◌}
use Prim.Native.Nat.{ℕ, zero, suc, ◌<◌, ◌≤◌}
use native.Mathlib.Omega.{arith}
use borrow.Author.Tests.{lt-ltb, le-ltb, leb-true, le-leb, not-true}
use lib.Dec.{ltb, leb}
use lib.IntN.{pos, nat_abs}
use Rattle.maths.specs.Tests.{is_zero, is_unit}
use Rattle.maths.specs.Sums.{dot}
use Rattle.maths.proofs.Cases.{lt_or}
use Rattle.maths.proofs.Tests.{zero_is, zero-true, unit-true, unit-is, all-at, all_of}
use Rattle.maths.proofs.Dots.{dot_0_l, dot_0_r}
use Rattle.maths.proofs.Tables.{in_or_out, entries-out}
use Rattle.rules.specs.Complex.{Pattern, Layer, Complex, bare, complex}
use Rattle.rules.specs.Good.{Good, one_each, in_place, is_good}
use Rattle.rules.proofs.Layers.Frame.{Fit, good_of, face_below, within-rows}
use Rattle.rules.proofs.Layers.Judged.{one_each_true, one_each_is, some_entry, has_face, closes_at, closes-is}
use Rattle.rules.proofs.Storage.FiveTests.{Tests, tests_of, tests_are, closed_at, all_closed}

-- what is so of every complex that comes from lists: no faces below corners, nothing above blocks, nothing outside of 96 by 96
pub record Bounded (X : Complex) : Type 0 where
  pub ground : (i j : ℕ) → (X 0).d i j ≡ pos 0
  pub above : (k : ℕ) → 3 < k → X k ≡ bare 0
  pub outside : (k i j : ℕ) → (i < 96 → 96 ≤ j) → (X k).d i j ≡ pos 0

pub complex_bounded : (p : Pattern) → Bounded (complex p)
complex_bounded p = record { ground = λ i j. refl; above = above; outside = outside }
  where
    above : (k : ℕ) → 3 < k → complex p k ≡ bare 0
    above zero h = absurd (omega arith)
    above (suc zero) h = absurd (omega arith)
    above (suc (suc zero)) h = absurd (omega arith)
    above (suc (suc (suc zero))) h = absurd (omega arith)
    above (suc (suc (suc (suc k)))) h = refl

    outside : (k i j : ℕ) → (i < 96 → 96 ≤ j) → (complex p k).d i j ≡ pos 0
    outside zero i j o = refl
    outside (suc zero) i j o = entries-out p.m1 i j o
    outside (suc (suc zero)) i j o = entries-out p.m2 i j o
    outside (suc (suc (suc zero))) i j o = entries-out p.m3 i j o
    outside (suc (suc (suc (suc k)))) i j o = refl

-- an entry of a matrix with `rows` rows in use
record Placed (rows : ℕ) (A : Layer) (i j : ℕ) : Type 0 where
  unit : nat_abs (A.d i j) ≤ 1
  row : rows ≤ i → A.d i j ≡ pos 0
  column : A.n ≤ j → A.d i j ≡ pos 0

nothing : (rows : ℕ) (A : Layer) (i j : ℕ) → A.d i j ≡ pos 0 → Placed rows A i j
nothing rows A i j z = record { unit = rw z (omega arith); row = λ h. z; column = λ h. z }

module _ (rows : ℕ) (A : Layer) where
  in_place-at : in_place rows A ≡ true → ((i j : ℕ) → (i < 96 → 96 ≤ j) → A.d i j ≡ pos 0) → (i j : ℕ) → Placed rows A i j
  unfolding in_place
  in_place-at e out i j = in_or_out i j
      (λ hi hj. entry (all-at 96 _ (all-at 96 _ e j hj) i hi))
      (λ o. nothing rows A i j (out i j o))
    where
      entry : cond (ltb i rows && ltb j A.n) (is_unit (A.d i j)) (is_zero (A.d i j)) ≡ true → Placed rows A i j
      entry t = lt_or i rows
          (λ r. lt_or j A.n
          (λ c. record {
            unit = unit-true (A.d i j) (rw (lt-ltb i rows r, lt-ltb j A.n c) at t);
            row = λ h. absurd (omega arith);
            column = λ h. absurd (omega arith);
          })
          (λ c. nothing rows A i j (zero-true (rw (lt-ltb i rows r, le-ltb j A.n c) at t))))
          (λ r. nothing rows A i j (zero-true (rw (le-ltb i rows r) at t)))

  in_place-is : ((i j : ℕ) → Placed rows A i j) → in_place rows A ≡ true
  unfolding in_place
  in_place-is P = all_of 96 (λ j hj. all_of 96 (λ i hi. entry i j))
    where
      entry : (i j : ℕ) → cond (ltb i rows && ltb j A.n) (is_unit (A.d i j)) (is_zero (A.d i j)) ≡ true
      entry i j = lt_or i rows
          (λ r. lt_or j A.n
          (λ c. rw (lt-ltb i rows r, lt-ltb j A.n c) (unit-is (A.d i j) (P i j).unit))
          (λ c. rw (lt-ltb i rows r, le-ltb j A.n c, (P i j).column c) zero_is))
          (λ r. rw (le-ltb i rows r, (P i j).row r) zero_is)

module _ {X : Complex} (B : Bounded X) (T : Tests X) where
  few-at : (k : ℕ) → (X k).n ≤ 96
  few-at k = lt_or k 4
      (λ h. leb-true (X k).n 96 (all-at 4 (λ k. leb (X k).n 96) T.few k h))
      (λ h. rw (B.above k h) (omega arith))

  placed : (k i j : ℕ) → Placed (X k).n (X (suc k)) i j
  placed k i j = lt_or k 3
      (λ h. in_place-at (X k).n (X (suc k)) (all-at 3 (λ k. in_place (X k).n (X (suc k))) T.place k h) (B.outside (suc k)) i j)
      (λ h. nothing (X k).n (X (suc k)) i j (rw (B.above (suc k) (omega arith))))

  units-at : (k i j : ℕ) → nat_abs ((X k).d i j) ≤ 1
  units-at zero i j = rw (B.ground i j) (omega arith)
  units-at (suc k) i j = (placed k i j).unit

  faces-at : (k j : ℕ) → j < (X (suc (suc k))).n → (i : ℕ) × ((X (suc (suc k))).d i j ≢ pos 0)
  faces-at k j l = lt_or k 2
      (λ h. let f = some_entry (λ i. (X (suc (suc k))).d i j) (not-true _ (all-at (X (suc (suc k))).n _ (all-at 2 _ T.faces k h) j l)) in (f.0, f.2))
      (λ h. let none : (X (suc (suc k))).n ≡ 0 = ap (λ (A : Layer). A.n) (B.above (suc (suc k)) (omega arith)) in absurd (omega arith))

  -- within the counts by the test, and outside because a factor is 0
  null-at : (k r j : ℕ) → dot 96 (λ i. (X k).d r i) (λ i. (X (suc k)).d i j) ≡ pos 0
  null-at zero r j = dot_0_l 96 _ (λ i h. B.ground r i)
  null-at (suc k) r j =
      lt_or j (X (suc (suc k))).n
      (λ c. lt_or r (X k).n
      (λ l. lt_or k 2
      (λ h. closes_at (λ i. (X (suc (suc k))).d i j) (X k).n (X (suc k)) (few-at (suc k)) (λ i. (placed (suc k) i j).row)
      (all-at (X (suc (suc k))).n _ (closed_at T k h) j c) r l)
      (λ h. dot_0_r 96 _ (λ i q. rw (B.above (suc (suc k)) (omega arith)))))
      (λ l. dot_0_l 96 _ (λ i q. (placed k r i).row l)))
      (λ c. dot_0_r 96 _ (λ i q. (placed (suc k) i j).column c))

  fit_at : (k : ℕ) → Fit (X k) (X (suc k))
  fit_at k = record { few = few-at (suc k); rows = λ i j. (placed k i j).row; columns = λ i j. (placed k i j).column; null = null-at k }

-- what the test finds good is good
pub good-true : {X : Complex} → Bounded X → is_good X ≡ true → Good X
good-true {X} B e =
    let T = tests_of {X = X} e in
    good_of
    (record { few = few-at B T 0; ground = B.ground; fit = fit_at B T; top = λ k h. ap (λ (A : Layer). A.n) (B.above k h) })
    (record {
      units = units-at B T;
      seams = λ j h. one_each_true (λ i. (X 1).d i j) (all-at (X 1).n (λ j. one_each (λ i. (X 1).d i j)) T.seams j h);
      faces = faces-at B T;
    })

-- what is good the test finds good
pub good-is : {X : Complex} → Good X → is_good X ≡ true
good-is {X} G = tests_are (record {
  few = all_of 4 (λ k h. le-leb (X k).n 96 (G.few k));
  place = all_of 3 (λ k h. in_place-is (X k).n (X (suc k)) (λ i j. record { unit = G.units (suc k) i j; row = G.rows k i j; column = G.columns (suc k) i j }));
  seams = all_of (X 1).n (λ j h. one_each_is (λ i. (X 1).d i j) (G.seams j h));
  faces = all_of 2 (λ k h. all_of (X (suc (suc k))).n (λ j l. let f = G.faces k j l in
      ap not (has_face (λ i. (X (suc (suc k))).d i j) f.0 (face_below (within-rows G (suc k) j) f.0 f.1) f.1)));
  closed = all_closed X (λ k h. all_of (X (suc (suc k))).n (λ j l.
      closes-is (λ i. (X (suc (suc k))).d i j) (X k).n (X (suc k)) (G.few (suc k)) (λ i. G.rows (suc k) i j) (λ r. G.null k r j)));
})
