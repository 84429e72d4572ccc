-- The answer of a split: its refusals in order, and the counts that it leaves.
use mathlib.Core.Path.{◌≡◌, refl, sym, ap, ap₂, ◌∙◌}
use mathlib.Core.Logic.{◌≢◌}
use mathlib.Core.Bool.{Bool, true, false, not, cond, ◌&&◌}
use mathlib.Core.List.{List}
use Prim.Native.Nat.{ℕ, zero, suc, pred, ◌-◌, ◌<◌, ◌≤◌}
use native.Mathlib.Numerals.{add-one}
use native.Mathlib.Omega.{arith}
use borrow.Author.Tests.{eq-eqb, ne_eqb, ltb-true, not-true, not-false}
use lib.Dec.{eqb, ltb}
use lib.IntN.{ℤ}
use Rattle.std.proofs.lemmas.List.Elements.{All-from_get_or}
use Rattle.maths.proofs.Cases.{and_left, and_right, cond-true, cond-false}
use Rattle.rules.specs.declared.counts.Counts.{Counts}
use Rattle.rules.specs.Answers.{Applied}
use Rattle.rules.specs.Refusals.{accepted, no_such_cell, no_room, wrong_part, wrong_divider}
use Rattle.rules.specs.Counts.{count_of, grown_at}
use Rattle.rules.specs.Complex.{Pattern, Chain, complex, counts_of, stored, pattern, Sized}
use Rattle.rules.specs.Edits.{Step, layers, at3, boundary, part, divider, halves, repeated, split}
use Rattle.rules.specs.Operators.{Faces, all_below, chosen, is_part, divides, edited, unless, split_step}
use Rattle.rules.specs.Form.{chosen_of}
use Rattle.rules.specs.Calls.{Lent, lent, applied}
use Rattle.rules.specs.Good.{Held}
use Rattle.rules.proofs.Storage.Stored.{count-is, stored-complex}
use Rattle.rules.proofs.Bytes.Faces.{all-below}
use Rattle.operators.specs.Split.{SplitForm, Prepared, part_step, leaves}
use Rattle.operators.specs.Part.{listing, numbers}
use Rattle.operators.proofs.Patterns.Counted.{count-below}
use Rattle.operators.proofs.chosen.SplitForms.{list_form}
use Rattle.operators.proofs.chosen.Numbers.{below_is, chosen_is}

-- one cell more of both dimensions
pub both_grown : {p : Pattern} → Sized p → (k cell : ℕ) (c : ℕ → Bool) → 1 ≤ k → k ≤ 3
    → counts_of (layers (split (pred k) cell c (complex p))) ≡ grown_at (grown_at p.counts (k - 1)) k
unfolding split at3 divider halves repeated
both_grown {p} Z k cell c l h = grown k l h ∙ ap (λ (q : Pattern). grown_at (grown_at q.counts (k - 1)) k) (stored-complex p Z)
  where
    grown : (k : ℕ) → 1 ≤ k → k ≤ 3 → counts_of (layers (split (pred k) cell c (complex p))) ≡ grown_at (grown_at (counts_of (complex p)) (k - 1)) k
    grown zero l h = absurd (omega arith)
    grown (suc zero) l h = simp add-one
    grown (suc (suc zero)) l h = simp add-one
    grown (suc (suc (suc zero))) l h = simp add-one
    grown (suc (suc (suc (suc k)))) l h = absurd (omega arith)

-- what the matrices are left with, and the counts beside them: new ones where it was accepted
abbrev counted : Counts → Counts → Lent ℕ → Lent Applied
counted c c' l = record { answer = record { counts = cond (eqb l.answer accepted) c' c; refusal = l.answer }; m1 = l.m1; m2 = l.m2; m3 = l.m3 }

counted_way : (p : Pattern) (c : Counts) (a b : Bool) (S : ℕ → Step) → counts_of (layers S) ≡ c
    → let o = unless a wrong_part (unless b wrong_divider (edited S)) in counted p.counts c (leaves p o) ≡ applied p o
counted_way p c true true S e = ap (λ c. lent (record { counts = c; refusal = accepted }) (stored (layers S))) (sym e)
counted_way p c true false S e = refl
counted_way p c false b S e = refl

counted_part : (p : Pattern) (k cell : ℕ) (F : Faces) (c : Counts)
    → counts_of (layers (split (pred k) cell (chosen k F (λ i. (complex p k).d i cell)) (complex p))) ≡ c
    → counted p.counts c (leaves p (part_step k cell F (complex p))) ≡ applied p (part_step k cell F (complex p))
unfolding part_step
counted_part p k cell F c e =
    let v : Chain = λ i. (complex p k).d i cell in
    let q = chosen k F v in
    counted_way p c (is_part q v) (divides (pred k) (boundary (complex p (pred k)) (part q v))) (split (pred k) cell q (complex p)) e

module _ {p : Pattern} {s : List ℕ} {k cell list : ℕ} (H : Held p) (S : SplitForm s k cell list) {faces : List ℕ} (g : faces ≡ listing s k list) {r : Bool}
    (f : r ≡ all_below (count_of p.counts (k - 1)) (numbers faces)) where
  below-is : r ≡ all_below (count_of p.counts (k - 1)) (chosen_of s k list)
  below-is = f ∙ rw g (below_is (list_form S) (count_of p.counts (k - 1)))

  -- the two first tests, as the code has them
  abbrev cells_are : Bool
  cells_are = ltb cell (count_of p.counts k) && r

  abbrev has_room : Bool
  has_room = ltb (count_of p.counts (k - 1)) 96 && ltb (count_of p.counts k) 96

  cells_is : cells_are ≡ ltb cell (complex p k).n && all_below (complex p (pred k)).n (chosen_of s k list)
  cells_is = ap₂ (λ n t. ltb cell n && t) (sym (count-is p k S.most)) (below-is ∙ ap (λ n. all_below n (chosen_of s k list)) (count-below p k S.most))

  room-is : has_room ≡ ltb (complex p (pred k)).n 96 && ltb (complex p k).n 96
  room-is = ap₂ (λ m n. ltb m 96 && ltb n 96) (count-below p k S.most) (sym (count-is p k S.most))

  pub no_such_cell_lem : not cells_are ≡ true
      → lent (record { counts = p.counts; refusal = no_such_cell }) p ≡ applied p (split_step k cell (chosen_of s k list) (complex p))
  unfolding split_step
  no_such_cell_lem t = rw (← cells_is, not-true cells_are t)

  module _ (c : not cells_are ≡ false) where
    pub no_room_lem : not has_room ≡ true → lent (record { counts = p.counts; refusal = no_room }) p ≡ applied p (split_step k cell (chosen_of s k list) (complex p))
    unfolding split_step
    no_room_lem t = rw (← cells_is, not-false cells_are c, ← room-is, not-true has_room t)

    module _ (t : not has_room ≡ false) where
      part_left : part_step k cell (chosen_of s k list) (complex p) ≡ split_step k cell (chosen_of s k list) (complex p)
      unfolding split_step part_step
      part_left = rw (← cells_is, not-false cells_are c, ← room-is, not-false has_room t)

      room-below : count_of p.counts (k - 1) < 96
      room-below = ltb-true (count_of p.counts (k - 1)) 96 (and_left _ _ (not-false has_room t))

      room-here : count_of p.counts k < 96
      room-here = ltb-true (count_of p.counts k) 96 (and_right (ltb (count_of p.counts (k - 1)) 96) _ (not-false has_room t))

      pub prepared : Prepared p faces k cell
      prepared = record {
        held = H;
        least = S.least;
        most = S.most;
        few = All-from_get_or (λ i. i < 96) faces 0 (λ l h. omega (
          arith,
          room-below,
          all-below (numbers faces) (count_of p.counts (k - 1)) (sym f ∙ and_right (ltb cell (count_of p.counts k)) r (not-false cells_are c)) l h,
        ));
        there = rw (count-is p k S.most) (ltb-true cell (count_of p.counts k) (and_left _ r (not-false cells_are c)));
        room-below = rw (← count-below p k S.most) room-below;
        room = rw (count-is p k S.most) room-here;
      }

      -- one cell more of both dimensions
      abbrev more : Counts
      more = grown_at (grown_at p.counts (k - 1)) k

      part_same : part_step k cell (numbers faces) (complex p) ≡ part_step k cell (chosen_of s k list) (complex p)
      unfolding part_step
      part_same =
          let m = pred k in
          let v : Chain = λ i. (complex p k).d i cell in
          let e : chosen k (numbers faces) v ≡ chosen k (chosen_of s k list) v = rw g (chosen_is (list_form S) v) in
          ap (λ (q : ℕ → Bool). unless (is_part q v) wrong_part (unless (divides m (boundary (complex p m) (part q v))) wrong_divider (edited (split m cell q (complex p))))) e

      answer-is : counted p.counts more (leaves p (part_step k cell (numbers faces) (complex p)))
          ≡ applied p (split_step k cell (chosen_of s k list) (complex p))
      answer-is = ap (λ o. counted p.counts more (leaves p o)) part_same ∙ counted_part p k cell (chosen_of s k list) more (both_grown H.sized k cell _ S.least S.most) ∙ ap (applied p) part_left

      module _ {n : ℕ} {m1 m2 m3 : List ℤ} (e : lent n (pattern p.counts m1 m2 m3) ≡ leaves p (part_step k cell (numbers faces) (complex p))) where
        answer : {c : Counts} → c ≡ cond (eqb n accepted) more p.counts
            → lent (record { counts = c; refusal = n }) (pattern c m1 m2 m3) ≡ applied p (split_step k cell (chosen_of s k list) (complex p))
        answer q =
            ap (λ (c : Counts). lent (record { counts = c; refusal = n }) (pattern c m1 m2 m3)) q
            ∙ ap (counted p.counts more) e ∙ answer-is

        pub split-answer-refused : n ≢ accepted
            → lent (record { counts = p.counts; refusal = n }) (pattern p.counts m1 m2 m3) ≡ applied p (split_step k cell (chosen_of s k list) (complex p))
        split-answer-refused h = answer (sym (cond-false more p.counts (ne_eqb n accepted h)))

        pub split-answer-accepted : {c : Counts} → n ≡ accepted → c ≡ more
            → lent (record { counts = c; refusal = n }) (pattern c m1 m2 m3) ≡ applied p (split_step k cell (chosen_of s k list) (complex p))
        split-answer-accepted h q = answer (q ∙ sym (cond-true more p.counts (eq-eqb n accepted h)))
