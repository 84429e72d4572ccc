-- After split every column is still one of its dimension, so the pattern is good.
use mathlib.Core.Path.{◌≡◌, refl, sym, ◌∙◌, ap, fun_ext}
use mathlib.Core.Logic.{◌≢◌}
use mathlib.Core.Bool.{Bool, true, false}
use Prim.Native.Nat.{ℕ, zero, suc, ◌<◌, ◌≤◌}
use native.Mathlib.Omega.{arith}
use lib.IntN.{pos, negsuc, nat_abs, ◌+ℤ◌}
use borrow.Author.Tests.{ne_eqb}
use Rattle.maths.specs.Tests.{eq_z}
use Rattle.maths.proofs.Cases.{eqb_same, eq_or, lt_or, and_left, and_right, no_eq}
use Rattle.rules.specs.Complex.{Layer, Complex, Chain}
use Rattle.rules.specs.Good.{Good}
use Rattle.rules.specs.Edits.{layers, put, boundary, part, rest, divider, halves, repeated, split}
use Rattle.rules.specs.Operators.{proper, divides}
use Rattle.rules.proofs.Layers.Changes.{put_same, put_no, put_each, part_each, rest_each, rest_part}
use Rattle.rules.proofs.Layers.Judged.{one_each_true, proper-units, proper_face}
use Rattle.rules.proofs.Layers.Frame.{Within, same_layer, Cells, frame_of, good_of, within-rows}
use Rattle.rules.proofs.Accepting.Allowed.{CanSplit}
use Rattle.rules.proofs.Layers.Seams.{Ends, minus-not-zero, one_not_zero, ends_of_lem}
use Rattle.rules.proofs.Cells.Columns.{Bounds, Sound, sound-at, cells_layers, put-column, put-row}
use Rattle.rules.proofs.Edits.Splits.{boundary_0, split_frame}

-- a boundary that divides is that of a cell
module _ {X : Complex} (G : Good X) where
  boundary-within : (m : ℕ) (c : Chain) → Within 96 (boundary (X (suc m)) c)
  boundary-within m c i h = boundary_0 (X (suc m)) c i (λ j. within-rows G m j i h)

  proper-boundary : (m : ℕ) (c : Chain) → proper (boundary (X (suc m)) c) ≡ true → (i : ℕ) → nat_abs (boundary (X (suc m)) c i) ≤ 1
  proper-boundary m c e i = lt_or i 96 (proper-units _ e i) (λ h. rw (boundary-within m c i h) (omega arith))

  boundary-units : (m : ℕ) (c : Chain) → divides m (boundary (X m) c) ≡ true → (i : ℕ) → nat_abs (boundary (X m) c i) ≤ 1
  unfolding divides
  boundary-units zero c e i = rw (boundary_0 (X 0) c i (G.ground i)) (omega arith)
  boundary-units (suc zero) c e i = proper-boundary 0 c (and_left _ _ e) i
  boundary-units (suc (suc m)) c e i = proper-boundary (suc m) c e i

  boundary_bounds : (m : ℕ) (c : Chain) → divides m (boundary (X m) c) ≡ true → Bounds m (boundary (X m) c)
  unfolding divides
  boundary_bounds zero c e = record { seam = λ l. absurd (omega arith); some = λ l. absurd (omega arith) }
  boundary_bounds (suc zero) c e = record {
    seam = λ _. ends_of_lem (one_each_true _ (and_right (proper (boundary (X 1) c)) _ e)) (proper-boundary 0 c (and_left _ _ e)) (boundary-within 0 c);
    some = λ l. absurd (omega arith);
  }
  boundary_bounds (suc (suc m)) c e = record { seam = λ l. absurd (omega arith); some = λ _. let f = proper_face _ e in (f.0, f.2) }

-- a seam v divided at the new corner t, its head chosen
module _ {p : ℕ → Bool} {v : Chain} {a b t : ℕ} (E : Ends v a b) (is-head : (i : ℕ) → p i ≡ eq_z (v i) (pos 1)) (new : v t ≡ pos 0) (room : t < 96) where
  at_head : p b ≡ true
  unfolding eq_z
  at_head = is-head b ∙ rw E.head

  at_tail : p a ≡ false
  unfolding eq_z
  at_tail = is-head a ∙ rw E.tail

  not-tail : a ≢ t
  not-tail e = minus-not-zero E.tail (ap v e ∙ new)

  not-head : b ≢ t
  not-head e = one_not_zero E.head (ap v e ∙ new)

  -- from the tail to the new corner, and from there to the head
  rest-ends : Ends (put t (pos 1) (rest p v)) a t
  rest-ends = record {
    apart = not-tail;
    low = E.low;
    high = room;
    tail = rw (put_no t _ _ a not-tail) (rest_each p v (λ z. z ≡ negsuc 0) a (λ q. no_eq (sym at_tail ∙ q)) (λ _. E.tail));
    head = put_same t (pos 1) (rest p v);
    only = λ i e f. rw put_no (rest_each p v (λ z. z ≡ pos 0) i (λ _. refl) (λ q. E.only i e (λ g. no_eq (sym q ∙ ap p g ∙ at_head))));
  }

  part-ends : Ends (put t (negsuc 0) (part p v)) t b
  part-ends = record {
    apart = λ e. not-head (sym e);
    low = room;
    high = E.high;
    tail = put_same t (negsuc 0) (part p v);
    head = rw (put_no t _ _ b not-head) (part_each p v (λ z. z ≡ pos 1) b (λ _. E.head) (λ q. no_eq (sym q ∙ at_head)));
    only = λ i e f. rw put_no (part_each p v (λ z. z ≡ pos 0) i (λ q. E.only i (λ g. no_eq (sym at_tail ∙ ap p (sym g) ∙ q)) f) (λ _. refl));
  }

-- the new columns of s and of s', and what they make of the layer
module _ (s : ℕ) (p : ℕ → Bool) (L D : Layer) where
  abbrev pub outer : Chain
  outer = put L.n (pos 1) (rest p (λ i. D.d i s))

  abbrev pub inner : Chain
  inner = put L.n (negsuc 0) (part p (λ i. D.d i s))

  module _ (new : (j : ℕ) → D.d L.n j ≡ pos 0) where
    pub halves-columns : halves s p L D ≡ record { n = suc D.n; d = λ i. put s (outer i) (put D.n (inner i) (D.d i)) }
    unfolding halves
    halves-columns = same_layer refl λ i j. eq_or i L.n
        (λ e. rw (e, eqb_same, put_same L.n (pos 1), put_same L.n (negsuc 0), fun_ext new))
        (λ e. rw (ne_eqb i L.n e, put_no L.n (pos 1) _ i e, put_no L.n (negsuc 0) _ i e))

    -- together they are the old one
    pub halves-sum : (i : ℕ) → outer i +ℤ inner i ≡ D.d i s
    halves-sum i = eq_or i L.n
        (λ e. rw (e, put_same L.n (pos 1), put_same L.n (negsuc 0)) (sym (new s)))
        (λ e. rw (put_no L.n (pos 1) _ i e, put_no L.n (negsuc 0) _ i e) (rest_part p (λ i. D.d i s) i))

module _ {m s : ℕ} {p : ℕ → Bool} {X : Complex} (G : Good X) (C : CanSplit m s p X) where
  abbrev L : Layer
  L = X m

  abbrev D : Layer
  D = X (suc m)

  abbrev old : Chain
  old = λ i. D.d i s

  pub no_row : (j : ℕ) → (X (suc m)).d (X m).n j ≡ pos 0
  no_row j = G.rows m L.n j (omega arith)

  old_bounds : Bounds (suc m) old
  old_bounds = (sound-at G (suc m)).cell s C.cell

  is-head : suc m ≡ 1 → (i : ℕ) → p i ≡ eq_z (old i) (pos 1)
  is-head e = let z : m ≡ 0 = omega arith in rw z (C.head z)

  outer_bounds : Bounds (suc m) (outer s p L D)
  outer_bounds = record {
    seam = λ e. let E = old_bounds.seam e in (E.0, L.n, rest-ends E.2 (is-head e) (no_row s) C.room-below);
    some = λ _. (L.n, one_not_zero (put_same L.n (pos 1) (rest p old)));
  }

  inner_bounds : Bounds (suc m) (inner s p L D)
  inner_bounds = record {
    seam = λ e. let E = old_bounds.seam e in (L.n, E.1, part-ends E.2 (is-head e) (no_row s) C.room-below);
    some = λ _. (L.n, minus-not-zero (put_same L.n (negsuc 0) (part p old)));
  }

  outer_units : (i : ℕ) → nat_abs (outer s p L D i) ≤ 1
  outer_units = put_each L.n (pos 1) (rest p old) (λ i z. nat_abs z ≤ 1) (omega arith)
      (λ i _. rest_each p old (λ z. nat_abs z ≤ 1) i (λ _. omega arith) (λ _. G.units (suc m) i s))

  inner_units : (i : ℕ) → nat_abs (inner s p L D i) ≤ 1
  inner_units = put_each L.n (negsuc 0) (part p old) (λ i z. nat_abs z ≤ 1) (omega arith)
      (λ i _. part_each p old (λ z. nat_abs z ≤ 1) i (λ _. G.units (suc m) i s) (λ _. omega arith))

  -- the column of s' put first, then that of s
  with_inner : Sound (suc m) (record { n = suc D.n; d = λ i. put D.n (inner s p L D i) (D.d i) })
  with_inner = put-column (suc D.n) D.n (inner s p L D) D.d (G.units (suc m)) (λ j h e. (sound-at G (suc m)).cell j (omega arith))
      inner_units (λ _. inner_bounds)

  halves-sound : Sound (suc m) (halves s p L D)
  halves-sound = rw (halves-columns s p L D no_row)
      (put-column (suc D.n) s (outer s p L D) _ with_inner.units (λ j h e. with_inner.cell j h) outer_units (λ _. outer_bounds))

  repeated-sound : Sound (suc (suc m)) (repeated s D (X (suc (suc m))))
  unfolding repeated
  repeated-sound = put-row D.n (λ j. (X (suc (suc m))).d s j) (X (suc (suc m))) (omega arith) (sound-at G (suc (suc m))) (λ j. G.units (suc (suc m)) s j)
      (λ j n. absurd (n (G.rows (suc m) D.n j (omega arith))))

  divider-sound : Sound m (divider s p L D)
  unfolding divider
  divider-sound = put-column (suc L.n) L.n (boundary L (part p old)) L.d (G.units m) (λ j h e. (sound-at G m).cell j (omega arith))
      (boundary-units G m _ C.divider) (λ _. boundary_bounds G m _ C.divider)

  split_cells : Cells (layers (split m s p X))
  unfolding split
  split_cells = cells_layers G m _ _ _ divider-sound halves-sound repeated-sound

  pub good-split : Good (layers (split m s p X))
  good-split = good_of (split_frame (frame_of G) C) split_cells
