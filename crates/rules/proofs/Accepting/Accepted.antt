-- From an accepted step to the condition under which a good pattern stays good, and to what the step leaves.
use mathlib.Core.Path.{◌≡◌, refl, sym}
use mathlib.Core.Logic.{◌≢◌}
use mathlib.Core.Bool.{true, false, not, ◌&&◌}
use Prim.Native.Nat.{ℕ, zero, suc, pred, ◌<◌, ◌≤◌}
use native.Mathlib.Omega.{arith}
use borrow.Author.Tests.{not-true, ne_eqb, ltb-true}
use lib.Dec.{ltb}
use lib.IntN.{pos}
use Rattle.maths.specs.Tests.{eq_z}
use Rattle.maths.specs.Sums.{dot}
use Rattle.maths.proofs.Cases.{lt_or, and_left, and_right, cond_same}
use Rattle.maths.proofs.Dots.{dot_0_l}
use Rattle.rules.specs.Refusals.{no_such_cell, not_between, shared_face}
use Rattle.rules.specs.Complex.{Complex, Chain}
use Rattle.rules.specs.Good.{Good, OneEach, one_each, all_zero, closes}
use Rattle.rules.specs.Edits.{Step, make, kill, split, merge, flip}
use Rattle.rules.specs.Operators.{Faces, Outcome, edited, removed, unless, chain_of, closed, chosen, lower, higher, share_only, make_step, kill_step, split_step, merge_step, flip_step}
use Rattle.rules.proofs.Branches.Branches.{refused-edited, refused-removed}
use Rattle.rules.proofs.Layers.Judged.{all-zero-at, some_entry, one_each_true, closes_at}
use Rattle.rules.proofs.Layers.Frame.{Within, face_below, within-rows, within-columns}
use Rattle.rules.proofs.Layers.Seams.{Ends, ends_of_lem, one_each_of}
use Rattle.rules.proofs.Bytes.Faces.{TailHead, GivenFaces, all-below, faces-within, seam_none, seam_ends, given-none, given-units}
use Rattle.rules.proofs.Accepting.Sides.{sides-found, high_face}
use Rattle.rules.proofs.Accepting.Passed.{MakeTests, make_tests, kill_tests, split_tests, merge_tests, flip_tests}
use Rattle.rules.proofs.Accepting.Allowed.{CanMake, CanKill, CanSplit, CanMerge}
use Rattle.rules.proofs.Accepting.Shared.{share_only_at, sum-proper}

closed_says : (q : ℕ) (v : Chain) (X : Complex) → closed (suc q) v X ≡ true → (all_zero v ≡ false) × (closes (X (pred q)).n (X q) v ≡ true)
unfolding closed
closed_says q v X e =
    let c : not (all_zero v) && closes (X (pred q)).n (X q) v ≡ true = rw (ne_eqb (suc q) 0 (omega arith)) at e in
    (not-true (all_zero v) (and_left _ _ c), and_right (not (all_zero v)) _ c)

-- a cell that is made with faces
module _ {F : Faces} {X : Complex} {x : Outcome} (q : ℕ) (t : MakeTests (suc q) F X x) where
  made_some : (i : ℕ) × (i < 96) × (chain_of F i ≢ pos 0)
  made_some = some_entry (chain_of F) (closed_says q (chain_of F) X t.whole).0

  made_within : Within (X q).n (chain_of F)
  made_within = faces-within F (X q).n t.below

  pub made_below : (X q).n ≤ 96 → (l : ℕ) → l < F.n → F.number l < 96
  made_below few l h = omega (arith, all-below F (X q).n t.below l h)

  pub made_ends : (X q).n ≤ 96 → TailHead F → Ends (chain_of F) (F.number 0) (F.number 1)
  made_ends few T = seam_ends F T (λ e. made_some.2 (seam_none F T e made_some.0))
      (made_below few 0 (omega (arith, T.two))) (made_below few 1 (omega (arith, T.two)))

-- the chosen part of a seam is its head
head-chosen : (F : Faces) (v : Chain) (i : ℕ) → chosen 1 F v i ≡ eq_z (v i) (pos 1)
unfolding chosen
head-chosen F v i = refl

module _ {X : Complex} (G : Good X) where
  -- a closed chain has boundary zero in every row
  no_boundary : (q : ℕ) (v : Chain) → Within (X q).n v → closes (X (pred q)).n (X q) v ≡ true → (r : ℕ) → dot 96 (λ i. (X q).d r i) (λ i. v i) ≡ pos 0
  no_boundary zero v w e r = dot_0_l 96 _ (λ i h. G.ground r i)
  no_boundary (suc p) v w e r = lt_or r (X p).n
      (closes_at v (X p).n (X (suc p)) (G.few (suc p)) w e r)
      (λ h. dot_0_l 96 _ (λ i l. G.rows p r i h))

  pub make-accepted : (k : ℕ) (F : Faces) {S : ℕ → Step} → k ≤ 3 → GivenFaces k F → make_step k F X ≡ edited S → CanMake k (chain_of F) X × (S ≡ make k (chain_of F) X)
  make-accepted k F {S} d g e = (
    record {
      dim = d;
      room = t.room;
      corner = given-none F g;
      faces = λ q e. made_within q (at q e);
      closed = λ q e. no_boundary q (chain_of F) (made_within q (at q e)) (closed_says q (chain_of F) X (at q e).whole).1;
      units = given-units F g;
      seam = λ e. one_each_of (made_ends 0 (at 0 (sym e)) (G.few 0) (g.seam e));
      some = λ h. let f = made_some (pred k) (at (pred k) (omega arith)) in (f.0, f.2);
    },
    cc t.is,
  )
    where
      t : MakeTests k F X (edited S)
      t = make_tests k F X refused-edited e

      at : (q : ℕ) → suc q ≡ k → MakeTests (suc q) F X (edited S)
      at q e = rw e t

  pub kill-accepted : (k c : ℕ) {Y : Complex} → k ≤ 3 → kill_step k c X ≡ removed Y → CanKill k c X × (Y ≡ kill k c X)
  kill-accepted k c d e =
      let t = kill_tests k c X refused-removed e in (
        record {
          dim = d;
          cell = t.cell;
          free = λ j. lt_or j 96 (all-zero-at (λ j. (X (suc k)).d c j) t.free j) (within-columns G (suc k) c j);
        },
        cc t.is,
      )

  pub split-accepted : (k s : ℕ) (F : Faces) {S : ℕ → Step} → 1 ≤ k → k ≤ 3 → split_step k s F X ≡ edited S →
      let p = chosen k F (λ i. (X k).d i s) in CanSplit (pred k) s p X × (S ≡ split (pred k) s p X)
  split-accepted zero s F l d e = absurd (omega arith)
  split-accepted (suc m) s F l d e =
      let t = split_tests (suc m) s F X refused-edited e in (
        record {
          dim = omega arith;
          cell = t.cell;
          room-below = t.room-below;
          room = t.room;
          head = λ z i. let q : m ≡ 0 = z in rw q (head-chosen F (λ i. (X 1).d i s) i);
          divider = t.divider;
        },
        cc t.is,
      )

  -- the cells on either side of t, which share no other face
  pub can_merge : (k t : ℕ) →
      let v : Chain = λ j. (X (suc k)).d t j in
      t < (X k).n → OneEach v → share_only t (λ i. (X (suc k)).d i (lower v)) (λ i. (X (suc k)).d i (higher v)) ≡ true → CanMerge k t (lower v) (higher v) X
  can_merge k t cell between alone =
      let v : Chain = λ j. (X (suc k)).d t j in
      let S = sides-found (ends_of_lem between (λ j. G.units (suc k) t j) (within-columns G (suc k) t)).2 in
      let high : higher v < (X (suc k)).n = face_below (G.columns (suc k) t) (higher v) (high_face S) in
      record {
        dim = lt_or k 3 (λ l. l) (λ l. absurd (omega (arith, G.top (suc k) (omega arith))));
        cell = cell;
        less = S.less;
        high = high;
        unit = S.unit;
        opposite = S.opposite;
        only = S.only;
        alone = λ i n f. share_only_at t _ _ alone i (face_below (within-rows G k (lower v)) i f) n f;
      }

  pub merge_condition : (k t : ℕ) {Y : Complex} → merge_step k t X ≡ removed Y →
      let v : Chain = λ j. (X (suc k)).d t j in CanMerge k t (lower v) (higher v) X × (Y ≡ merge k t (lower v) (higher v) X)
  merge_condition k t e = let m = merge_tests k t X refused-removed e in (can_merge k t m.cell m.between m.alone, cc m.is)

  -- so the test for 12 tells nothing more
  pub merge-step-is : (k t : ℕ) →
      let v : Chain = λ j. (X (suc k)).d t j in
      merge_step k t X ≡
      unless (ltb t (X k).n) no_such_cell
      (unless (one_each v) not_between
      (unless (share_only t (λ i. (X (suc k)).d i (lower v)) (λ i. (X (suc k)).d i (higher v))) shared_face (removed (merge k t (lower v) (higher v) X))))
  unfolding merge_step
  merge-step-is k t =
      let v : Chain = λ j. (X (suc k)).d t j in
      cond_same (ltb t (X k).n) (λ cell.
      cond_same (one_each v) (λ between.
      cond_same (share_only t (λ i. (X (suc k)).d i (lower v)) (λ i. (X (suc k)).d i (higher v)))
      (λ alone. rw (sum-proper G (can_merge k t (ltb-true t (X k).n cell) (one_each_true v between) alone)))
      (λ _. refl)) (λ _. refl)) (λ _. refl)

pub flip-accepted : (k c : ℕ) (X : Complex) {S : ℕ → Step} → flip_step k c X ≡ edited S → (c < (X k).n) × (S ≡ flip k c X)
flip-accepted k c X e = let t = flip_tests k c X refused-edited e in (t.0, cc t.1)
