-- Kill: its outcomes, and the stored pattern at each dimension.
use mathlib.Core.Path.{◌≡◌, sym, ap, ◌∙◌}
use mathlib.Core.Bool.{Bool, true, false}
use mathlib.Core.List.{List}
use Prim.Native.Nat.{ℕ, suc}
use lib.IntN.{ℤ}
use native.Mathlib.Omega.{arith}
use borrow.Author.Tests.{lt-ltb, le-ltb}
use Rattle.grid.specs.Grid.{over, removed_column, removed_row}
use Rattle.rules.specs.Counts.{shrunk_at}
use Rattle.rules.specs.Refusals.{no_such_cell, in_use}
use Rattle.rules.specs.Complex.{Pattern, complex, stored, pattern, Sized}
use Rattle.rules.specs.Good.{all_zero}
use Rattle.rules.specs.Edits.{at3, without_column, without_row, kill}
use Rattle.rules.specs.Operators.{kill_step}
use Rattle.operators.specs.Cells.{Cell}
use Rattle.operators.proofs.Patterns.Patterns.{Absent, stored_is, same, Refuses, Leaves}
use Rattle.operators.proofs.Patterns.Counted.{shrunk_is}
use Rattle.operators.proofs.Patterns.Forms.{without_column_lem, without_row_lem}

-- there is no such cell, it is in use, or it goes
pub kill-absent : {p : Pattern} {k c : ℕ} → Absent p k c → Refuses p no_such_cell (kill_step k c (complex p))
unfolding kill_step
kill-absent h = rw (le-ltb _ _ h.beyond)

-- what is tested in the same pattern is tested in this one
pub free_seen : {p q : Pattern} {b t : Bool} (k c : ℕ) → b ≡ all_zero (λ j. (complex q (suc k)).d c j) → q ≡ p → b ≡ t
    → all_zero (λ j. (complex p (suc k)).d c j) ≡ t
free_seen k c e same h = sym (e ∙ ap (λ q. all_zero (λ j. (complex q (suc k)).d c j)) same) ∙ h

module _ {least most : ℕ} {p : Pattern} {k c : ℕ} (h : Cell least most p k c) where
  pub kill_used : all_zero (λ j. (complex p (suc k)).d c j) ≡ false → Refuses p in_use (kill_step k c (complex p))
  unfolding kill_step
  kill_used u = rw (lt-ltb _ _ h.there, u)

  pub kill-done : {q : Pattern} → all_zero (λ j. (complex p (suc k)).d c j) ≡ true → q ≡ stored (kill k c (complex p))
      → Leaves p q (kill_step k c (complex p))
  unfolding kill_step
  kill-done u e = rw (lt-ltb _ _ h.there, u, e)

-- the matrices that the loops leave, dimension by dimension
module _ {p : Pattern} (S : Sized p) (c : ℕ) where
  pub kill0 : {a : List ℤ} → a ≡ over (removed_row c) p.m1
      → pattern (shrunk_at p.counts 0) a p.m2 p.m3 ≡ stored (kill 0 c (complex p))
  unfolding kill at3 without_column without_row
  kill0 ea =
      stored_is (kill 0 c (complex p)) (shrunk_is p.counts 0 S.four (omega arith))
      (ea ∙ without_row_lem c p.m1 (complex p 1).n) (same S 1) (same S 2)

  pub kill1 : {a b : List ℤ} → a ≡ over (removed_column c) p.m1 → b ≡ over (removed_row c) p.m2
      → pattern (shrunk_at p.counts 1) a b p.m3 ≡ stored (kill 1 c (complex p))
  unfolding kill at3 without_column without_row
  kill1 ea eb =
      stored_is (kill 1 c (complex p)) (shrunk_is p.counts 1 S.four (omega arith))
      (ea ∙ without_column_lem c p.m1 (complex p 1).n) (eb ∙ without_row_lem c p.m2 (complex p 2).n) (same S 2)

  pub kill2 : {a b : List ℤ} → a ≡ over (removed_column c) p.m2 → b ≡ over (removed_row c) p.m3
      → pattern (shrunk_at p.counts 2) p.m1 a b ≡ stored (kill 2 c (complex p))
  unfolding kill at3 without_column without_row
  kill2 ea eb =
      stored_is (kill 2 c (complex p)) (shrunk_is p.counts 2 S.four (omega arith))
      (same S 0) (ea ∙ without_column_lem c p.m2 (complex p 2).n) (eb ∙ without_row_lem c p.m3 (complex p 3).n)

  pub kill3 : {a : List ℤ} → a ≡ over (removed_column c) p.m3
      → pattern (shrunk_at p.counts 3) p.m1 p.m2 a ≡ stored (kill 3 c (complex p))
  unfolding kill at3 without_column without_row
  kill3 ea =
      stored_is (kill 3 c (complex p)) (shrunk_is p.counts 3 S.four (omega arith))
      (same S 0) (same S 1) (ea ∙ without_column_lem c p.m3 (complex p 3).n)
