-- Split at each dimension: what its three matrices need, and the stored pattern that they make.
use mathlib.Core.Path.{◌≡◌, refl, sym, ap, ◌∙◌}
use mathlib.Core.Bool.{Bool, true, false, cond}
use mathlib.Core.List.{List, []}
use Prim.Native.Nat.{ℕ, suc, ◌-◌, ◌≤◌}
use native.Mathlib.Omega.{arith}
use lib.IntN.{ℤ}
use lib.ListN.{length}
use Rattle.maths.specs.Tables.{entries, column, tab}
use Rattle.maths.proofs.Tables.{tab-entries}
use Rattle.rules.specs.Refusals.{accepted, wrong_part, wrong_divider}
use Rattle.rules.specs.Counts.{count_of}
use Rattle.rules.specs.Complex.{Pattern, complex, pattern, Sized}
use Rattle.rules.specs.Edits.{Step, layers, at3, boundary, part, halves, repeated, split}
use Rattle.rules.specs.Operators.{Faces, chosen, is_part, divides, edited, unless}
use Rattle.rules.specs.Calls.{Lent, lent}
use Rattle.operators.specs.Split.{Fine, Splittable, Prepared, Around, around, divided, part_step, leaves}
use Rattle.operators.specs.Boundary.{edge}
use Rattle.operators.proofs.Patterns.Patterns.{fine}

-- two tests, each way told
each_way : (p : Pattern) (f : Around → Lent ℕ) (a b : Bool) (x y z : Around) (S : ℕ → Step)
    → f x ≡ leaves p (edited S) → f y ≡ lent wrong_divider p → f z ≡ lent wrong_part p
    → f (cond a (cond b x y) z) ≡ leaves p (unless a wrong_part (unless b wrong_divider (edited S)))
each_way p f true true x y z S e g h = e
each_way p f true false x y z S e g h = g
each_way p f false b x y z S e g h = h

module _ {p : Pattern} (Z : Sized p) (cell : ℕ) (F : Faces) {r : ℕ} {low mid high : List ℤ} where
  -- seams: corners have no matrix, and that of the blocks stays
  pub split1 : around r low mid high
      ≡ divided 1 cell (count_of p.counts 0) (count_of p.counts 1) (chosen 1 F (column p.m1 cell)) [] p.m1 p.m2
      → lent r (pattern p.counts mid high p.m3) ≡ leaves p (part_step 1 cell F (complex p))
  unfolding divided part_step divides split at3 halves repeated
  split1 e =
      let f : Around → Lent ℕ = λ a. lent a.refusal (pattern p.counts a.mid a.high p.m3) in
      let v = column p.m1 cell in
      let c = chosen 1 F v in
      let S = split 0 cell c (complex p) in
      ap f e ∙ each_way p f (is_part c v) true _ (around wrong_divider [] p.m1 p.m2) _ S
      (ap (λ m. lent accepted (pattern p.counts (tab (layers S 1).d) (tab (layers S 2).d) m)) (sym (tab-entries p.m3 Z.size3)))
      refl refl

  -- panels
  pub split2 : around r low mid high
      ≡ divided 2 cell (count_of p.counts 1) (count_of p.counts 2) (chosen 2 F (column p.m2 cell)) p.m1 p.m2 p.m3
      → lent r (pattern p.counts low mid high) ≡ leaves p (part_step 2 cell F (complex p))
  unfolding divided part_step boundary split at3 halves repeated
  split2 e =
      let f : Around → Lent ℕ = λ a. lent a.refusal (pattern p.counts a.low a.mid a.high) in
      let v = column p.m2 cell in
      let c = chosen 2 F v in
      ap f e ∙ each_way p f (is_part c v) (divides 1 (edge p.m1 (part c v))) _ _ _ (split 1 cell c (complex p)) refl refl refl

  -- blocks: nothing is above them, and the matrix of the seams stays
  pub split3 : around r low mid high
      ≡ divided 3 cell (count_of p.counts 2) (count_of p.counts 3) (chosen 3 F (column p.m3 cell)) p.m2 p.m3 []
      → lent r (pattern p.counts p.m1 low mid) ≡ leaves p (part_step 3 cell F (complex p))
  unfolding divided part_step boundary split at3 halves
  split3 e =
      let f : Around → Lent ℕ = λ a. lent a.refusal (pattern p.counts p.m1 a.low a.mid) in
      let v = column p.m3 cell in
      let c = chosen 3 F v in
      let S = split 2 cell c (complex p) in
      ap f e ∙ each_way p f (is_part c v) (divides 2 (edge p.m2 (part c v))) _ _ _ S
      (ap (λ m. lent accepted (pattern p.counts m (tab (layers S 2).d) (tab (layers S 3).d))) (sym (tab-entries p.m1 Z.size1)))
      refl refl

-- what a split needs of three neighbours
module _ {p : Pattern} {faces : List ℕ} {cell : ℕ} where
  splittable : (m : ℕ) {low mid high : List ℤ} → Prepared p faces (suc m) cell → Fine mid → (complex p (suc m)).d ≡ entries mid
      → (2 ≤ suc m → Fine low) → (suc m ≤ 2 → length high ≡ 9216) → Splittable (suc m) cell (complex p m).n (complex p (suc m)).n low mid high
  splittable m P f e b a = record {
    least = omega arith;
    most = P.most;
    cell_in = P.there;
    room = P.room;
    room-below = P.room-below;
    here = f;
    free = λ j. rw (← e) (P.held.good.rows m (complex p m).n j (omega arith));
    below = b;
    above = a;
  }

  module _ {dim : ℕ} (P : Prepared p faces dim cell) where
    pub seam_needs : dim ≡ 1 → Splittable dim cell (count_of p.counts (dim - 1)) (count_of p.counts dim) [] p.m1 p.m2
    seam_needs d = rw d (splittable 0 (rw d at P) (fine P.held 0) refl (λ h. absurd (omega arith)) (λ _. P.held.sized.size2))

    pub panel_needs : dim ≡ 2 → Splittable dim cell (count_of p.counts (dim - 1)) (count_of p.counts dim) p.m1 p.m2 p.m3
    panel_needs d = rw d (splittable 1 (rw d at P) (fine P.held 1) refl (λ _. fine P.held 0) (λ _. P.held.sized.size3))

    pub block_needs : dim ≡ 3 → Splittable dim cell (count_of p.counts (dim - 1)) (count_of p.counts dim) p.m2 p.m3 []
    block_needs d = rw d (splittable 2 (rw d at P) (fine P.held 2) refl (λ _. fine P.held 1) (λ h. absurd (omega arith)))
