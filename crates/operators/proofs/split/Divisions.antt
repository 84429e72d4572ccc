-- A split on three neighbouring matrices: what each way through the code leaves.
use Rattle.std.specs.Prelude.{Some, None}
use mathlib.Core.Path.{◌≡◌, refl, ap, ap₂, ◌∙◌, fun_ext}
use mathlib.Core.Logic.{◌≢◌}
use mathlib.Core.Bool.{Bool, true, false, cond}
use mathlib.Core.List.{List}
use Prim.Native.Nat.{ℕ, pred, ◌<◌, ◌≤◌}
use native.Mathlib.Omega.{arith}
use borrow.Author.Tests.{eqb-false}
use lib.Dec.{eqb}
use lib.IntN.{ℤ, pos, nat_abs}
use lib.ListN.{length}
use Rattle.maths.specs.Tables.{entries, column, tab}
use Rattle.maths.proofs.Cases.{cond_same, by_bool, bool_or}
use Rattle.maths.proofs.Dots.{dot_same}
use Rattle.maths.proofs.Tables.{tab_same, length-table}
use Rattle.grid.specs.Grid.{Line, Summands, over, with_column, copied_row}
use Rattle.rules.specs.Refusals.{accepted, wrong_part, wrong_divider}
use Rattle.rules.specs.Complex.{Chain, bare, layer}
use Rattle.rules.specs.Edits.{put, boundary, part, divider, halves, repeated}
use Rattle.rules.specs.Operators.{is_part, divides}
use Rattle.rules.specs.Calls.{coefficients}
use Rattle.operators.specs.Boundary.{edge, BoundaryFound, BoundaryNeeds}
use Rattle.operators.specs.Part.{part_of, part_taken}
use Rattle.operators.specs.Split.{Halved, Splittable, around, divided}
use Rattle.operators.proofs.chosen.Lists.{holds}

-- what is chosen of a column can be split off, and is taken
pub record Taken (p : ℕ → Bool) (v : Chain) (taken : List ℤ) : Type 0 where
  pub fine : is_part p v ≡ true
  pub is : taken ≡ part_of p v

module _ (p : ℕ → Bool) (v : Chain) where
  pub got_part : {taken : List ℤ} → Some taken ≡ part_taken p v → Taken p v taken
  unfolding part_taken
  got_part e = bool_or (is_part p v) (λ t. record { fine = t; is = cc (rw t at e) }) (λ t. absurd (cc (rw t at e)))

  pub got_none : None ≡ part_taken p v → is_part p v ≡ false
  unfolding part_taken
  got_none e = bool_or (is_part p v) (λ t. absurd (cc (rw t at e))) (λ t. t)

-- what each store needs
module _ {dim cell t new : ℕ} {low mid high : List ℤ} (S : Splittable dim cell t new low mid high) where
  pub the_column : Line mid cell
  the_column = record { size = S.here.size; inside = omega (arith, S.cell_in, S.room) }

  module _ {p : ℕ → Bool} {taken : List ℤ} (T : Taken p (column mid cell) taken) where
    taken-long : length taken ≡ 96
    taken-long = ap length T.is ∙ length-table 0 96 _

    taken-small : (i : ℕ) → i < 96 → nat_abs (coefficients taken i) ≤ 1
    unfolding part
    taken-small i h =
        rw (holds (part p (column mid cell)) T.is i h)
        (by_bool (p i) (λ t. nat_abs (cond t (entries mid i cell) (pos 0)) ≤ 1) (λ _. S.here.units.unit i cell) (λ _. omega arith))

    pub part_under : BoundaryNeeds dim low taken
    part_under = record { least = S.least; most = S.most; summands = summands }
      where
        summands : 2 ≤ dim → Summands low 96 taken
        summands d = record {
          size = (S.below d).size;
          few = omega arith;
          inside = omega (arith, taken-long);
          units = (S.below d).units;
          small = taken-small;
        }

-- what each way leaves
module _ (dim cell t new : ℕ) (p : ℕ → Bool) (low mid high : List ℤ) where
  pub wrong_part_lem : is_part p (column mid cell) ≡ false → around wrong_part low mid high ≡ divided dim cell t new p low mid high
  unfolding divided
  wrong_part_lem h = rw h

  module _ {taken : List ℤ} (T : Taken p (column mid cell) taken) where
    -- the boundary of the part is that of the list that holds it
    edge-taken : edge low (coefficients taken) ≡ edge low (part p (column mid cell))
    edge-taken = fun_ext (λ r. dot_same 96 (λ j h. refl) (λ j h. holds (part p (column mid cell)) T.is j h))

    divides-is : divides (pred dim) (edge low (coefficients taken)) ≡ divides (pred dim) (edge low (part p (column mid cell)))
    divides-is = ap (divides (pred dim)) edge-taken

    pub wrong_divider_lem : BoundaryFound dim low (coefficients taken) None → around wrong_divider low mid high ≡ divided dim cell t new p low mid high
    unfolding divided
    wrong_divider_lem B = rw (T.fine, ← divides-is, ← B.fine)

    module _ {found : List ℤ} (B : BoundaryFound dim low (coefficients taken) (Some found)) where
      -- the column of t
      column-set : 2 ≤ dim → over (with_column t found) low ≡ tab (divider cell p (layer t low) (layer new mid)).d
      unfolding over with_column divider put boundary
      column-set d = tab_same (λ i j hi hj. ap (λ x. cond (eqb j t) x (entries low i j))
          (holds (edge low (coefficients taken)) (B.is d) i hi ∙ ap (λ (f : Chain). f i) edge-taken))

      -- the row of the new half
      row_copied : over (copied_row cell new) high ≡ tab (repeated cell (layer new mid) (layer 0 high)).d
      unfolding over copied_row repeated put
      row_copied = refl

      pub all-stored : {low' mid' high' : List ℤ} → 1 ≤ dim
          → low' ≡ cond (eqb dim 1) low (over (with_column t found) low)
          → Halved cell t new taken mid mid'
          → high' ≡ cond (eqb dim 3) high (over (copied_row cell new) high)
          → around accepted low' mid' high' ≡ divided dim cell t new p low mid high
      unfolding divided
      all-stored d l m u =
          rw (T.fine, ← divides-is, ← B.fine, l, m.is p T.is, u)
          (ap₂ (λ a b. around accepted a (tab (halves cell p (bare t) (layer new mid)).d) b)
          (cond_same (eqb dim 1) (λ _. refl) (λ e. let n : dim ≢ 1 = eqb-false dim 1 e in column-set (omega arith)))
          (cond_same (eqb dim 3) (λ _. refl) (λ _. row_copied)))
