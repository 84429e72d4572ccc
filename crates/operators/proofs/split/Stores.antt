-- What the stores of a split leave in each matrix is what the definition says.
use mathlib.Core.Path.{◌≡◌, refl, ◌∙◌}
use mathlib.Core.Logic.{◌≢◌}
use mathlib.Core.Bool.{Bool, cond}
use mathlib.Core.List.{List}
use Prim.Native.Nat.{ℕ, ◌<◌}
use native.Mathlib.Omega.{arith}
use borrow.Author.Tests.{ne_eqb}
use lib.IntN.{ℤ, pos, negsuc}
use Rattle.maths.specs.Tests.{is_zero}
use Rattle.maths.specs.Tables.{Entries, entries, column}
use Rattle.maths.proofs.Cases.{eqb_same, eq_or, by_bool}
use Rattle.maths.proofs.Tables.{entries-tab, clip_in, tab_same}
use Rattle.maths.proofs.Tests.{zero_is, zero-true}
use Rattle.grid.specs.Grid.{over, with_column, with_entry}
use Rattle.rules.specs.Complex.{Chain, bare, layer}
use Rattle.rules.specs.Edits.{put, part, rest, halves}
use Rattle.operators.specs.Split.{Halvable, Halved, with_rest}
use Rattle.operators.specs.Part.{part_of}
use Rattle.operators.proofs.chosen.Lists.{holds}

-- an entry of a matrix that a store left
seen : (F : Entries → Entries) (m : List ℤ) {m' : List ℤ} → m' ≡ over F m → (i j : ℕ) → i < 96 → j < 96 → entries m' i j ≡ F (entries m) i j
unfolding over
seen F m e i j hi hj = rw (e, entries-tab) (clip_in (F (entries m)) i j hi hj)

-- what is left of an entry, unless it is taken off
rest-left : (p : ℕ → Bool) (v : Chain) (i : ℕ) → cond (is_zero (part p v i)) (v i) (pos 0) ≡ rest p v i
unfolding part rest
rest-left p v i = by_bool (p i) (λ t. cond (is_zero (cond t (v i) (pos 0))) (v i) (pos 0) ≡ cond t (pos 0) (v i))
    (λ _. by_bool (is_zero (v i)) (λ t. cond t (v i) (pos 0) ≡ pos 0) (λ z. zero-true z) (λ _. refl))
    (λ _. rw zero_is)

module _ {cell t new : ℕ} {taken m m₁ m₂ m₃ m₄ : List ℤ} (h : Halvable cell t new taken m)
    (e₁ : m₁ ≡ over (with_rest cell taken) m) (e₂ : m₂ ≡ over (with_entry t cell (pos 1)) m₁)
    (e₃ : m₃ ≡ over (with_column new taken) m₂) (e₄ : m₄ ≡ over (with_entry t new (negsuc 0)) m₃) where
  -- the row of t was zero, so its entries at the two halves are all of it
  pub halved : Halved cell t new taken m m₄
  unfolding over with_entry with_column with_rest halves put part rest
  halved = record { is = λ p q. e₄ ∙ tab_same (λ i j hi hj. entry p q i j hi hj) }
    where
      entry : (p : ℕ → Bool) → taken ≡ part_of p (column m cell) → (i j : ℕ) → i < 96 → j < 96
          → with_entry t new (negsuc 0) (entries m₃) i j ≡ (halves cell p (bare t) (layer new m)).d i j
      entry p q i j hi hj =
          let w = holds (part p (column m cell)) q i hi in
          let a : new ≢ cell = omega (arith, h.cell_in) in
          rw (seen (with_column new taken) m₂ e₃ i j hi hj, seen (with_entry t cell (pos 1)) m₁ e₂ i j hi hj, seen (with_rest cell taken) m e₁ i j hi hj)
          (eq_or i t
          (λ e. rw (e, eqb_same t)
          (eq_or j new
          (λ f. rw (f, eqb_same new, ne_eqb new cell a))
          (λ f. rw (ne_eqb j new f)
          (eq_or j cell (λ g. rw (g, eqb_same cell)) (λ g. rw (ne_eqb j cell g) (h.free j))))))
          (λ e. rw (ne_eqb i t e)
          (eq_or j new
          (λ f. rw (f, eqb_same new, ne_eqb new cell a) w)
          (λ f. rw (ne_eqb j new f)
          (eq_or j cell (λ g. rw (g, eqb_same cell, w) (rest-left p (column m cell) i)) (λ g. rw (ne_eqb j cell g)))))))
