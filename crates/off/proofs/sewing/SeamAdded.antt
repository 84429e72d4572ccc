-- A new seam in the matrices: what its stores leave is the pattern with that seam.
use mathlib.Core.Path.{◌≡◌, sym, ◌∙◌, ap}
use mathlib.Core.List.{List}
use Prim.Native.Nat.{ℕ, suc, ◌<◌}
use native.Mathlib.Omega.{arith}
use lib.IntN.{ℤ, pos, negsuc}
use Rattle.std.specs.Prelude.{Ok}
use Rattle.maths.specs.Tables.{tab}
use Rattle.maths.proofs.Tables.{length-tab}
use Rattle.grid.specs.Grid.{over, with_entry}
use Rattle.rules.specs.declared.counts.Counts.{Counts}
use Rattle.rules.specs.Counts.{count_of, grown_at}
use Rattle.rules.specs.Complex.{pattern, Complex, Chain, layer}
use Rattle.rules.specs.Good.{Held}
use Rattle.rules.specs.Edits.{layers, make}
use Rattle.rules.specs.Operators.{chain_of}
use Rattle.rules.proofs.Layers.Frame.{same_layer}
use Rattle.rules.proofs.Layers.Seams.{Ends as EndsAt}
use Rattle.rules.proofs.Edits.Makes.{make-here, make_other}
use Rattle.off.specs.Sewing.{sewn, seam_of, tail_head}
use Rattle.off.specs.Lying.{no_block, drawn, Drawn, Matrices, TwoCorners, NewSeam, sewn_new, Joined}
use Rattle.off.proofs.sewing.SeamsMade.{grown_by, new_ends, seam_good}
use Rattle.off.proofs.sewing.SewnStored.{over-size, grown_here, grown_there, grown_four, grown_drawn, seam_stored, ends-stored}

pub drawn-sizes : {c : Counts} {m1 m2 m3 : List ℤ} → Drawn c m1 m2 m3 → Matrices m1 m2 m3
drawn-sizes D = record { size1 = D.held.sized.size1; size2 = D.held.sized.size2; size3 = rw D.ends (length-tab _) }

-- two corners are rows and columns
module _ {c : Counts} {a b : ℕ} {m1 m3 : List ℤ} (T : TwoCorners c a b m1 m3) where
  pub two_sizes : Matrices m1 T.seams.panels m3
  two_sizes = drawn-sizes T.seams.drawn

  pub first-low : a < 96
  first-low = omega (arith, T.first, T.seams.drawn.held.good.few 0)

  pub second-low : b < 96
  second-low = omega (arith, T.second, T.seams.drawn.held.good.few 0)

module _ {c : Counts} {a b : ℕ} {m1 m3 m1₁ m1₂ m3₁ m3₂ : List ℤ} (N : NewSeam c a b m1 m3)
    (e₁ : m1₁ ≡ over (with_entry a (count_of c 1) (negsuc 0)) m1) (e₂ : m1₂ ≡ over (with_entry b (count_of c 1) (pos 1)) m1₁)
    (e₃ : m3₁ ≡ over (with_entry a b (pos (suc (count_of c 1)))) m3) (e₄ : m3₂ ≡ over (with_entry b a (negsuc (count_of c 1))) m3₁) where
  abbrev v : Chain
  v = chain_of (tail_head a b)

  abbrev c' : Counts
  c' = grown_at c 1

  module _ (m2 : List ℤ) (H : Held (pattern c m1 m2 no_block)) where
    abbrev X : Complex
    X = drawn c m1 m2

    ends : EndsAt v a b
    ends = new_ends H.good a b N.corners.apart N.corners.first N.corners.second

    seams : layer (count_of c' 1) m1₂ ≡ grown_by v (X 1)
    seams = same_layer (grown_here c H.sized.four 1 (omega arith))
        (seam_stored ends N.room m1 (λ i. H.good.columns 1 i (count_of c 1) (omega arith)) e₁ e₂)

    grown : drawn c' m1₂ m2 ≡ layers (make 1 v X)
    grown = grown_drawn c H.sized.four m1 m2 v 1 (omega arith) (omega arith) m1₂ m2
        (seams ∙ sym (make-here 1 v X))
        (ap (λ n. layer n m2) (grown_there c H.sized.four 1 (omega arith) 2 (omega arith)) ∙ sym (make_other 1 v X 2 (omega arith)))

    sizes : Matrices m1₂ m2 m3₂
    sizes = record { size1 = over-size _ m1₁ e₂; size2 = H.sized.size2; size3 = over-size _ m3₁ e₄ }

    after : count_of c 3 ≡ 0 → Drawn c' m1₂ m2 m3₂
    after flat = record {
      held = record {
        sized = record { four = grown_four c H.sized.four 1 (omega arith); size1 = sizes.size1; size2 = sizes.size2; size3 = length-tab _ };
        good = rw grown (seam_good H.good a b N.corners.apart N.corners.first N.corners.second N.room);
      };
      flat = grown_there c H.sized.four 1 (omega arith) 3 (omega arith) ∙ flat;
      ends = ends-stored ends (X 1) N.corners.seams.drawn.ends e₃ e₄ ∙ ap (λ A. tab (seam_of A)) (sym seams);
    }

  pub added : Joined (sewn_new a b) c m1 (Ok c') m1₂ m3₂
  unfolding sewn_new
  added = record { stands = λ m2 H flat. record { sizes = sizes m2 H; is = (ap sewn (sym (grown m2 H)), after m2 H flat) } }
