-- Flip: its outcomes, and the stored pattern at each dimension.
use mathlib.Core.Path.{◌≡◌, ◌∙◌}
use mathlib.Core.List.{List}
use Prim.Native.Nat.{ℕ}
use lib.IntN.{ℤ}
use borrow.Author.Tests.{lt-ltb, le-ltb}
use Rattle.grid.specs.Grid.{over, negated_column, negated_row}
use Rattle.rules.specs.Refusals.{no_such_cell}
use Rattle.rules.specs.Complex.{Pattern, complex, stored, pattern, Sized}
use Rattle.rules.specs.Edits.{layers, at3, flip}
use Rattle.rules.specs.Operators.{flip_step}
use Rattle.operators.specs.Cells.{Cell}
use Rattle.operators.proofs.Patterns.Patterns.{Absent, stored_is, same_counts, same, Refuses, Leaves}
use Rattle.operators.proofs.Patterns.Forms.{negated-column, negated-row}

-- there is no such cell, or it is turned round
pub flip-absent : {p : Pattern} {k c : ℕ} → Absent p k c → Refuses p no_such_cell (flip_step k c (complex p))
unfolding flip_step
flip-absent h = rw (le-ltb _ _ h.beyond)

pub flip-done : {least most : ℕ} {p q : Pattern} {k c : ℕ} → Cell least most p k c → q ≡ stored (layers (flip k c (complex p)))
    → Leaves p q (flip_step k c (complex p))
unfolding flip_step
flip-done h e = rw (lt-ltb _ _ h.there, e)

-- the matrices that the loops leave, dimension by dimension
module _ {p : Pattern} (S : Sized p) (c : ℕ) where
  pub flip1 : {a b : List ℤ} → a ≡ over (negated_column c) p.m1 → b ≡ over (negated_row c) p.m2
      → pattern p.counts a b p.m3 ≡ stored (layers (flip 1 c (complex p)))
  unfolding flip at3
  flip1 ea eb =
      stored_is (layers (flip 1 c (complex p))) (same_counts S) (ea ∙ negated-column c p.m1) (eb ∙ negated-row c p.m2) (same S 2)

  pub flip2 : {a b : List ℤ} → a ≡ over (negated_column c) p.m2 → b ≡ over (negated_row c) p.m3
      → pattern p.counts p.m1 a b ≡ stored (layers (flip 2 c (complex p)))
  unfolding flip at3
  flip2 ea eb =
      stored_is (layers (flip 2 c (complex p))) (same_counts S) (same S 0) (ea ∙ negated-column c p.m2) (eb ∙ negated-row c p.m3)

  pub flip3 : {a : List ℤ} → a ≡ over (negated_column c) p.m3 → pattern p.counts p.m1 p.m2 a ≡ stored (layers (flip 3 c (complex p)))
  unfolding flip at3
  flip3 ea = stored_is (layers (flip 3 c (complex p))) (same_counts S) (same S 0) (same S 1) (ea ∙ negated-column c p.m3)
