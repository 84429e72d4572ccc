-- A cell that is made: which counts and which matrix its column changes, and the refusals in their order.
use mathlib.Core.Path.{◌≡◌, refl, sym, ap, ◌∙◌}
use mathlib.Core.Bool.{Bool, true, false, not, cond, ◌&&◌, and-true}
use mathlib.Core.List.{List, [], ◌∷◌}
use Prim.Native.Nat.{ℕ, zero, suc, pred, ◌<◌, ◌≤◌}
use native.Mathlib.Numerals.{add-one}
use native.Mathlib.Omega.{arith}
use borrow.Author.Tests.{ne_eqb, lt-ltb, le-ltb}
use lib.IntN.{ℤ, nat_abs}
use lib.ListN.{length}
use Rattle.maths.specs.Tables.{entries}
use Rattle.maths.proofs.Cases.{by_bool, bool_or, no_eq}
use Rattle.maths.proofs.Tests.{all_of, zero_is}
use Rattle.maths.proofs.Dots.{dot_0_l}
use Rattle.grid.specs.Grid.{Summands, over, with_column}
use Rattle.rules.specs.declared.counts.Counts.{Counts}
use Rattle.rules.specs.Answers.{Applied}
use Rattle.rules.specs.Counts.{count_of, grown_at}
use Rattle.rules.specs.Refusals.{accepted, no_such_cell, no_room, not_closed}
use Rattle.rules.specs.Complex.{Pattern, Chain, bare, complex, counts_of, pattern, layer, Sized}
use Rattle.rules.specs.Good.{all_zero, closes, Held}
use Rattle.rules.specs.Edits.{layers, at3, put, make}
use Rattle.rules.specs.Operators.{Faces, chain_of, all_below, closed, make_step}
use Rattle.rules.specs.Calls.{Lent, lent, coefficients, applied}
use Rattle.rules.proofs.Layers.Judged.{closes-rows}
use Rattle.operators.proofs.Patterns.Patterns.{same}
use Rattle.operators.specs.Append.{tried, set_if, appended, Closable, Appendable}

-- the counts: one more at dimension k
grown_are : (v : Chain) (m1 m2 m3 : List ℤ) (l : List ℕ) → length l ≡ 4 → (k : ℕ) → k ≤ 3
    → grown_at (record { n = l }) k ≡ counts_of (layers (make k v (complex (pattern (record { n = l }) m1 m2 m3))))
unfolding make at3
grown_are v m1 m2 m3 [] e k h = absurd (omega arith)
grown_are v m1 m2 m3 (a ∷ []) e k h = absurd (omega arith)
grown_are v m1 m2 m3 (a ∷ b ∷ []) e k h = absurd (omega arith)
grown_are v m1 m2 m3 (a ∷ b ∷ c ∷ []) e k h = absurd (omega arith)
grown_are v m1 m2 m3 (a ∷ b ∷ c ∷ d ∷ x ∷ l) e k h = absurd (omega arith)
grown_are v m1 m2 m3 (a ∷ b ∷ c ∷ d ∷ []) e zero h = rw add-one
grown_are v m1 m2 m3 (a ∷ b ∷ c ∷ d ∷ []) e (suc zero) h = rw add-one
grown_are v m1 m2 m3 (a ∷ b ∷ c ∷ d ∷ []) e (suc (suc zero)) h = rw add-one
grown_are v m1 m2 m3 (a ∷ b ∷ c ∷ d ∷ []) e (suc (suc (suc zero))) h = rw add-one
grown_are v m1 m2 m3 (a ∷ b ∷ c ∷ d ∷ []) e (suc (suc (suc (suc k)))) h = absurd (omega arith)

-- corners have no boundary, so every chain of them closes
bare-closes : (rows n : ℕ) (v : Chain) → closes rows (bare n) v ≡ true
unfolding closes
bare-closes rows n v = all_of rows (λ r h. rw (dot_0_l n (λ i. v i) (λ i l. refl)) zero_is)

-- a column that is tried in one matrix
module _ (test : Bool) (at : ℕ) (column : List ℤ) (whole : List ℤ → Pattern) where
  placed : {done : Bool} {m old : List ℤ} {good bad : Lent Bool} → tried done m ≡ set_if test at column old
      → lent true (whole (over (with_column at column) old)) ≡ good → lent false (whole old) ≡ bad → lent done (whole m) ≡ cond test good bad
  unfolding set_if
  placed {old} {good} {bad} q g b =
      ap (λ x. lent x.done (whole x.matrix)) q
      ∙ by_bool test
      (λ t. let x = cond t (tried true (over (with_column at column) old)) (tried false old) in lent x.done (whole x.matrix) ≡ cond t good bad)
      (λ _. g) (λ _. b)

-- a stored count
abbrev count : Pattern → ℕ → ℕ
count p k = count_of p.counts k

module _ (p : Pattern) (H : Held p) (column : List ℤ) where
  abbrev v : Chain
  v = coefficients column

  -- by the dimension: which test a column has to pass, and which matrix has it then
  pub append_0 : {k : ℕ} → k ≡ 0 → lent true p ≡ appended k v p
  unfolding appended closed make at3
  append_0 e = rw (e, ← same H.sized 0, ← same H.sized 1, ← same H.sized 2)

  closed_1 : closed 1 v (complex p) ≡ not (all_zero v)
  unfolding closed
  closed_1 = rw bare-closes (and-true (not (all_zero v)))

  pub append_1 : {k : ℕ} {done : Bool} {m : List ℤ} → k ≡ 1 → tried done m ≡ set_if (not (all_zero v)) (count p 1) column p.m1
      → lent done (pattern p.counts m p.m2 p.m3) ≡ appended k v p
  unfolding appended make at3 over with_column put
  append_1 e q = rw (e, closed_1) (placed _ _ _ (λ m. pattern p.counts m p.m2 p.m3) q (rw (← same H.sized 1, ← same H.sized 2)) refl)

  -- past the rows in use every boundary is 0
  closed-next : (k : ℕ) → closed (suc (suc k)) v (complex p) ≡ not (all_zero v) && closes 96 (complex p (suc k)) v
  unfolding closed
  closed-next k = rw (ne_eqb (suc (suc k)) 0 (omega arith), closes-rows v (complex p k).n (complex p (suc k)) (H.good.few k) (H.good.rows k))

  pub append_2 : {k : ℕ} {done : Bool} {m : List ℤ} → k ≡ 2
      → tried done m ≡ set_if (not (all_zero v) && closes 96 (layer (count p 1) p.m1) v) (count p 2) column p.m2
      → lent done (pattern p.counts p.m1 m p.m3) ≡ appended k v p
  unfolding appended make at3 over with_column put
  append_2 e q = rw (e, closed-next 0) (placed _ _ _ (λ m. pattern p.counts p.m1 m p.m3) q (rw (← same H.sized 0, ← same H.sized 2)) refl)

  pub append_3 : {k : ℕ} {done : Bool} {m : List ℤ} → k ≡ 3
      → tried done m ≡ set_if (not (all_zero v) && closes 96 (layer (count p 2) p.m2) v) (count p 3) column p.m3
      → lent done (pattern p.counts p.m1 p.m2 m) ≡ appended k v p
  unfolding appended make at3 over with_column put
  append_3 e q = rw (e, closed-next 1) (placed _ _ _ (λ m. pattern p.counts p.m1 p.m2 m) q (rw (← same H.sized 0, ← same H.sized 1)) refl)

-- what the tests of each dimension need
module _ {k : ℕ} {column : List ℤ} {p : Pattern} (A : Appendable k column p) where
  chain_of_lem : {low : List ℤ} {n : ℕ} → length low ≡ 9216 → n ≤ 96 → ((i j : ℕ) → nat_abs (entries low i j) ≤ 1) → Summands low n column
  chain_of_lem l few unit =
      record { size = l; few = few; inside = omega (arith, A.size); units = record { unit = unit }; small = λ j h. A.unit j }

  pub panel_fits : k ≡ 2 → Closable p.m1 (count p 1) column p.m2 (count p 2)
  panel_fits e = record {
    storable = record { size = A.size; line = record { size = A.held.sized.size2; inside = rw e at A.room } };
    summands = chain_of_lem A.held.sized.size1 (A.held.good.few 1) (A.held.good.units 1);
  }

  pub block_fits : k ≡ 3 → Closable p.m2 (count p 2) column p.m3 (count p 3)
  block_fits e = record {
    storable = record { size = A.size; line = record { size = A.held.sized.size3; inside = rw e at A.room } };
    summands = chain_of_lem A.held.sized.size2 (A.held.good.few 2) (A.held.good.units 2);
  }

-- the same matrices, with another answer
abbrev answering : {A B : Type 0} → A → Lent B → Lent A
answering a l = record { answer = a; m1 = l.m1; m2 = l.m2; m3 = l.m3 }

-- what is answered: no change and a refusal, in their order, or one cell more
module _ (p : Pattern) (k : ℕ) (F : Faces) where
  abbrev answer : Counts → ℕ → Applied
  answer c r = record { counts = c; refusal = r }

  pub no_such_face : all_below (complex p (pred k)).n F ≡ false → lent (answer p.counts no_such_cell) p ≡ applied p (make_step k F (complex p))
  unfolding make_step
  no_such_face a = rw a

  module _ (a : all_below (complex p (pred k)).n F ≡ true) where
    pub full : 96 ≤ (complex p k).n → lent (answer p.counts no_room) p ≡ applied p (make_step k F (complex p))
    unfolding make_step
    full h = rw (a, le-ltb (complex p k).n 96 h)

    -- the matrices m1, m2 and m3 are those that `append` leaves
    module _ (h : (complex p k).n < 96) {v : Chain} (w : v ≡ chain_of F) {m1 m2 m3 : List ℤ} where
      pub not-closed : lent false (pattern p.counts m1 m2 m3) ≡ appended k v p
          → lent (answer p.counts not_closed) (pattern p.counts m1 m2 m3) ≡ applied p (make_step k F (complex p))
      unfolding make_step appended
      not-closed e = bool_or (closed k v (complex p))
          (λ t. no_eq (ap (λ l. l.answer) (rw t at e)))
          (λ t. rw (a, lt-ltb (complex p k).n 96 h, ← w, t) (ap (answering (answer p.counts not_closed)) (rw t at e)))

      pub made_is : Sized p → k ≤ 3 → lent true (pattern p.counts m1 m2 m3) ≡ appended k v p
          → lent (answer (grown_at p.counts k) accepted) (pattern p.counts m1 m2 m3) ≡ applied p (make_step k F (complex p))
      unfolding make_step appended
      made_is S d e = bool_or (closed k v (complex p))
          (λ t.
          let c : grown_at p.counts k ≡ counts_of (layers (make k v (complex p))) = grown_are v p.m1 p.m2 p.m3 p.counts.n S.four k d in
          rw (a, lt-ltb (complex p k).n 96 h, ← w, t, c) (ap (answering (answer (counts_of (layers (make k v (complex p)))) accepted)) (rw t at e)))
          (λ t. no_eq (sym (ap (λ l. l.answer) (rw t at e))))
