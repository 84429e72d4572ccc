-- Merge: its outcomes, and the stored pattern at each dimension.
use Rattle.std.specs.Prelude.{Ok, Err}
use mathlib.Core.Path.{◌≡◌, refl, sym, ap, ◌∙◌}
use mathlib.Core.Bool.{Bool, true, false, cond}
use mathlib.Core.List.{List}
use Prim.Native.Nat.{ℕ, suc, ◌+◌, ◌<◌}
use native.Mathlib.Numerals.{add-one}
use native.Mathlib.Omega.{arith}
use borrow.Author.Tests.{lt-ltb, le-ltb}
use lib.IntN.{ℤ}
use lib.Seq.{get_or-set_other}
use Rattle.maths.specs.Tables.{tab}
use Rattle.maths.proofs.Cases.{lt_or}
use Rattle.grid.specs.Grid.{over, removed_column, removed_row}
use Rattle.rules.specs.Counts.{count_of, shrunk_at}
use Rattle.rules.specs.declared.refusals.Refusal.{Refusal}
use Rattle.rules.specs.Refusals.{no_such_cell, not_between, shared_face}
use Rattle.rules.specs.Complex.{Pattern, Complex, Chain, complex, stored, pattern, layer, Sized}
use Rattle.rules.specs.Good.{Good, one_each}
use Rattle.rules.specs.Edits.{at3, without_column, without_row, merged, merge}
use Rattle.rules.specs.Operators.{Outcome, refused, removed, share_only, merge_step, lower, higher}
use Rattle.rules.proofs.Storage.Stored.{count-is}
use Rattle.rules.proofs.Accepting.Accepted.{merge-step-is}
use Rattle.rules.proofs.Storage.Stored.{count-is}
use Rattle.operators.specs.Cells.{Cell}
use Rattle.rules.specs.Told.{refusal_number}
use Rattle.operators.specs.Joins.{Sides, column_of, sides_of, Apart, Between}
use Rattle.operators.proofs.Patterns.Patterns.{Absent, stored_is, above, same, unit, Refuses, Leaves}
use Rattle.operators.proofs.merge.Rows.{cells_met}
use Rattle.operators.proofs.Patterns.Counted.{both_shrunk}
use Rattle.operators.proofs.Patterns.Forms.{without_column_lem, without_row_lem}

-- what follows the test of a row: `bad` of the refusal, or `go` of the two cells
abbrev after_sides : {A : Type 0} → Sides → (ℕ → A) → (ℕ → ℕ → A) → A
after_sides (Ok x) bad go = go x.0 x.1
after_sides (Err r) bad go = bad (refusal_number r)

-- the tests of the definition in their order
sides_then : (x y : Bool) (a b : ℕ) (go : ℕ → ℕ → Outcome)
    → cond x (cond y (go a b) (refused shared_face)) (refused not_between)
    ≡ after_sides (cond {A = Sides} x (cond y (Ok (a, b)) (Err Refusal.SharedFace)) (Err Refusal.NotBetween)) refused go
sides_then true true a b go = refl
sides_then true false a b go = refl
sides_then false y a b go = refl

step-sides : {X : Complex} → Good X → (k t : ℕ) → t < (X k).n
    → merge_step k t X ≡ after_sides (sides_of (X (suc k)).d t) refused (λ a b. removed (merge k t a b X))
unfolding sides_of
step-sides {X} G k t h =
    let D = (X (suc k)).d in
    let v : Chain = λ j. D t j in
    rw (merge-step-is G k t, lt-ltb _ _ h)
    (sides_then (one_each v) (share_only t (column_of D (lower v)) (column_of D (higher v))) (lower v) (higher v) (λ a b. removed (merge k t a b X)))

-- what is found in the same pattern is found in this one
pub sides_seen : {p q : Pattern} {s : Sides} (k t : ℕ) → s ≡ sides_of (complex q (suc k)).d t → q ≡ p → sides_of (complex p (suc k)).d t ≡ s
sides_seen k t e same = sym (e ∙ ap (λ q. sides_of (complex q (suc k)).d t) same)

-- there is no such cell, the cell merges none, or the two become one
pub merge-absent : {p : Pattern} {k t : ℕ} → Absent p k t → Refuses p no_such_cell (merge_step k t (complex p))
unfolding merge_step
merge-absent h = rw (le-ltb _ _ h.beyond)

module _ {least most : ℕ} {p : Pattern} {k t : ℕ} (h : Cell least most p k t) where
  pub merge-refused : (r : Refusal) → sides_of (complex p (suc k)).d t ≡ Err r → Refuses p (refusal_number r) (merge_step k t (complex p))
  merge-refused r e = rw (step-sides h.held.good k t h.there, e)

  pub merge-done : {q : Pattern} {a b : ℕ} → sides_of (complex p (suc k)).d t ≡ Ok (a, b) → q ≡ stored (merge k t a b (complex p))
      → Leaves p q (merge_step k t (complex p))
  merge-done e is = rw (step-sides h.held.good k t h.there, e, is)

-- the two cells that are found are cells of the pattern
pub between : {p : Pattern} {k t a b : ℕ} → Cell 0 2 p k t → sides_of (complex p (suc k)).d t ≡ Ok (a, b) → Between p k t a b
between {p} {k} {t} {a} {b} h e =
    let s = cells_met (complex p (suc k)).d t e in
    record {
      cell = h;
      less = s.less;
      high = lt_or b (complex p (suc k)).n (λ l. l) (λ l. absurd (s.met (h.held.good.columns (suc k) t b l)));
    }

-- what the loops need of each matrix
module _ {p : Pattern} {dim t a b : ℕ} (h : Between p dim t a b) where
  high-low : b < 96
  high-low = omega (arith, h.high, h.cell.held.good.few (suc dim))

  pub apart : (k : ℕ) → Apart (above p k) t a b
  apart k = let l = unit h.cell k in record { size = l.size; units = l.units; row = l.inside; less = h.less; high = high-low }

  -- the dimension above still has a cell
  pub some_left : 0 < count_of (shrunk_at p.counts dim) (dim + 1)
  some_left =
      let e : count_of (shrunk_at p.counts dim) (suc dim) ≡ count_of p.counts (suc dim) =
      get_or-set_other p.counts.n dim (suc dim) _ 0 (omega arith) in
      rw (add-one, e, ← count-is p (suc dim) (omega (arith, h.cell.range.high))) (omega (arith, h.high))

-- the matrices that the loops leave, dimension by dimension
module _ {p : Pattern} (S : Sized p) (t a b : ℕ) where
  pub merge0 : {x y : List ℤ} → x ≡ tab (merged t a b (layer 0 p.m1)).d → y ≡ over (removed_row b) p.m2
      → pattern (shrunk_at (shrunk_at p.counts 0) 1) x y p.m3 ≡ stored (merge 0 t a b (complex p))
  unfolding merge at3 without_column without_row merged
  merge0 ex ey =
      stored_is (merge 0 t a b (complex p)) (both_shrunk p.counts 0 S.four (omega arith))
      ex (ey ∙ without_row_lem b p.m2 (complex p 2).n) (same S 2)

  pub merge1 : {x y z : List ℤ}
      → x ≡ over (removed_column t) p.m1 → y ≡ tab (merged t a b (layer 0 p.m2)).d → z ≡ over (removed_row b) p.m3
      → pattern (shrunk_at (shrunk_at p.counts 1) 2) x y z ≡ stored (merge 1 t a b (complex p))
  unfolding merge at3 without_column without_row merged
  merge1 ex ey ez =
      stored_is (merge 1 t a b (complex p)) (both_shrunk p.counts 1 S.four (omega arith))
      (ex ∙ without_column_lem t p.m1 (complex p 1).n) ey (ez ∙ without_row_lem b p.m3 (complex p 3).n)

  pub merge2 : {x y : List ℤ} → x ≡ over (removed_column t) p.m2 → y ≡ tab (merged t a b (layer 0 p.m3)).d
      → pattern (shrunk_at (shrunk_at p.counts 2) 3) p.m1 x y ≡ stored (merge 2 t a b (complex p))
  unfolding merge at3 without_column without_row merged
  merge2 ex ey =
      stored_is (merge 2 t a b (complex p)) (both_shrunk p.counts 2 S.four (omega arith))
      (same S 0) (ex ∙ without_column_lem t p.m2 (complex p 2).n) ey
