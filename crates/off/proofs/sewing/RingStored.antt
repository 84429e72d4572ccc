-- A ring that is sewn on in the matrices: its sides are met, and the column of its sides is the new panel's.
use mathlib.Core.Path.{◌≡◌, sym, ◌∙◌, ap}
use mathlib.Core.Bool.{true, false}
use mathlib.Core.List.{List}
use Prim.Native.Nat.{ℕ, pred, ◌<◌, ◌≤◌}
use native.Mathlib.Omega.{arith}
use borrow.Author.Tests.{lt-ltb}
use lib.IntN.{ℤ, pos, nat_abs, ◌*ℤ◌}
use lib.ListN.{length}
use Rattle.std.specs.Prelude.{Ok, Err}
use Rattle.maths.specs.Sums.{δ}
use Rattle.maths.specs.Tables.{entries, tab}
use Rattle.maths.proofs.Cases.{eq_or, lt_or}
use Rattle.maths.proofs.Tests.{all_of}
use Rattle.maths.proofs.Sums.{sum_same}
use Rattle.maths.proofs.Tables.{entries-tab, entries-out, clip_in, clip-out, in_or_out, length-tab}
use Rattle.grid.specs.Grid.{over}
use Rattle.rules.specs.declared.counts.Counts.{Counts}
use Rattle.rules.specs.declared.refusals.Refusal.{Refusal}
use Rattle.rules.specs.Counts.{count_of, grown_at}
use Rattle.rules.specs.Complex.{Layer, Complex, Chain, layer}
use Rattle.rules.specs.Edits.{layers, put, make}
use Rattle.rules.specs.Operators.{chain_of}
use Rattle.rules.proofs.Layers.Changes.{put_same, put_no}
use Rattle.rules.proofs.Layers.Frame.{same_layer}
use Rattle.rules.proofs.Bytes.Faces.{chain_off}
use Rattle.rules.proofs.Edits.Makes.{make-here, make_other}
use Rattle.off.specs.Plain.{Ring}
use Rattle.off.specs.Rings.{corner_at, next_at, corners_below, is_ring}
use Rattle.off.specs.RingBytes.{Corners}
use Rattle.off.specs.Sewing.{refused, sewn, after_sewn, ends_of, seam_of, signum, sides, make_panel, sew_ring}
use Rattle.off.specs.Lying.{drawn, Drawn, Stands, Joined, RingSeams, SidesRoom, RingDrawn, with_sides, meet_sides}
use Rattle.off.proofs.sewing.SeamsFound.{seam_small}
use Rattle.off.proofs.sewing.RingSides.{ring_long, corner-below, next-below, sides-below, sides_apart, panel_made, panel-good}
use Rattle.off.proofs.sewing.SidesMet.{MetTo, sides_met, all_met}
use Rattle.off.proofs.sewing.RingsSewn.{panel-after}
use Rattle.off.proofs.sewing.SewnStored.{seen, over-size, grown_here, grown_there, grown_four, grown_drawn}
use Rattle.off.proofs.sewing.SeamAdded.{drawn-sizes}
use Rattle.off.proofs.sewing.SeamMet.{table_entry}

-- corners of a pattern are below 96
pub below_all : (r : Ring) {n : ℕ} → n ≤ 96 → corners_below n r ≡ true → corners_below 96 r ≡ true
unfolding corners_below
below_all r few e = all_of (length r) (λ l h. lt-ltb (corner_at r l) 96 (omega (arith, corner-below r e l h)))

-- a table of ends has small numbers
table-small : (c : Counts) (m1 : List ℤ) {m3 : List ℤ} → m3 ≡ tab (seam_of (layer (count_of c 1) m1)) → count_of c 1 ≤ 96 → (a b : ℕ) → nat_abs (entries m3 a b) ≤ 96
table-small c m1 e few a b =
    let seam = seam_of (layer (count_of c 1) m1) in
    rw (e, entries-tab) (in_or_out a b
    (λ ha hb. rw (clip_in seam a b ha hb) (omega (arith, seam_small (ends_of (layer (count_of c 1) m1)) (count_of c 1) a b)))
    (λ o. rw (clip-out seam a b o) (omega arith)))

module _ {c : Counts} {r : Ring} {m1 m2 m3 : List ℤ} (R : RingDrawn c r m1 m2 m3) where
  abbrev X : Complex
  X = drawn c m1 m2

  pub ring-bytes : Corners r
  ring-bytes = record { few = R.on.few; low = below_all r (R.drawn.held.good.few 0) R.on.below }

  pub no_ring : is_ring r ≡ false → Stands (sew_ring r X) (Err Refusal.NotClosed) m1 m2 m3
  unfolding sew_ring
  no_ring e = record { sizes = drawn-sizes R.drawn; is = rw (R.on.below, e) }

  module _ (t : is_ring r ≡ true) where
    pub ring-seams : RingSeams c r m1 m3
    ring-seams = record { on = R.on; ring = t; seams = record { panels = m2; drawn = R.drawn } }

    sew-is : sew_ring r X ≡ after_sewn (meet_sides r X) refused (make_panel r)
    unfolding sew_ring
    sew-is = rw (R.on.below, t) (panel-after r X)

    pub ring-refused : {x : Refusal} {m1' m3' : List ℤ} → Joined (meet_sides r) c m1 (Err x) m1' m3' → Stands (sew_ring r X) (Err x) m1' m2 m3'
    ring-refused J =
        let went = J.stands m2 R.drawn.held R.drawn.flat in
        record { sizes = went.sizes; is = sew-is ∙ rw went.is }

    module _ {c' : Counts} {m1' m3' : List ℤ} (J : Joined (meet_sides r) c m1 (Ok c') m1' m3') where
      abbrev Y : Complex
      Y = drawn c' m1' m2

      abbrev v : Chain
      v = chain_of (sides (seam_of (Y 1)) r)

      went : (meet_sides r X ≡ sewn Y) × Drawn c' m1' m2 m3'
      went = (J.stands m2 R.drawn.held R.drawn.flat).is

      D : Drawn c' m1' m2 m3'
      D = went.1

      M : MetTo r X (length r) Y
      M = sides_met t R.drawn.held.good R.on.below {Y = Y} went.0

      pub panels-room : count_of c' 2 < 96
      panels-room = let same : count_of c' 2 ≡ count_of c 2 = ap (λ (A : Layer). A.n) M.grew.panels in omega (arith, R.panels)

      -- a side's seam in the table
      side : (l : ℕ) → l < length r → entries m3' (corner_at r l) (next_at r l) ≡ seam_of (Y 1) (corner_at r l) (next_at r l)
      side l h = table_entry c' m1' D.ends (corner_at r l) (next_at r l)
          (corner-below r ring-bytes.low l h) (next-below r ring-bytes.low l h)

      pub sides-room : SidesRoom r m3' m2 (count_of c' 2)
      sides-room = record {
        long = omega (arith, ring_long r t);
        corners = ring-bytes;
        size3 = (drawn-sizes D).size3;
        size2 = (drawn-sizes D).size2;
        inside = panels-room;
        blank = λ i. D.held.good.columns 2 i (count_of c' 2) (omega arith);
        some = λ l h. rw (side l h) (M.met l h);
        small = table-small c' m1' D.ends (D.held.good.few 1);
        apart = λ k l h i. rw (side k h, side l i) (sides_apart t D.held.good (all_met M) k l h i);
      }

      same_chain : (i : ℕ) → chain_of (sides (entries m3') r) i ≡ v i
      unfolding chain_of
      same_chain i = sum_same (length r) (λ l h. ap (λ z. signum z *ℤ δ (pred (nat_abs z)) i) (side l h))

      nothing_past : (i : ℕ) → 96 ≤ i → v i ≡ pos 0
      nothing_past i h = chain_off (sides (seam_of (Y 1)) r) i
          (λ l k e. omega (arith, sides-below t D.held.good (all_met M) l k, D.held.good.few 1))

      module _ {m2' : List ℤ} (e : m2' ≡ over (with_sides r (entries m3') (count_of c' 2)) m2) where
        column : (i j : ℕ) → entries m2' i j ≡ put (count_of c' 2) (v i) (entries m2 i) j
        unfolding with_sides
        column i j = in_or_out i j
            (λ hi hj. seen (with_sides r (entries m3') (count_of c' 2)) m2 e i j hi hj ∙ rw (same_chain i))
            (λ o. entries-out m2' i j o ∙ sym (eq_or j (count_of c' 2)
            (λ q. rw (q, put_same) (nothing_past i (lt_or i 96 (λ k. absurd (omega (arith, o k, panels-room))) (λ k. k))))
            (λ q. rw (put_no (count_of c' 2) (v i) (entries m2 i) j q) (entries-out m2 i j o))))

        four : length c'.n ≡ 4
        four = D.held.sized.four

        grown : drawn (grown_at c' 2) m1' m2' ≡ layers (make 2 v Y)
        grown = grown_drawn c' four m1' m2 v 2 (omega arith) (omega arith) m1' m2'
            (ap (λ k. layer k m1') (grown_there c' four 2 (omega arith) 1 (omega arith)) ∙ sym (make_other 2 v Y 1 (omega arith)))
            (same_layer (grown_here c' four 2 (omega arith)) column ∙ sym (make-here 2 v Y))

        after : Drawn (grown_at c' 2) m1' m2' m3'
        after = record {
          held = record {
            sized = record { four = grown_four c' four 2 (omega arith); size1 = D.held.sized.size1; size2 = over-size _ m2 e; size3 = length-tab _ };
            good = rw grown (panel-good t D.held.good (all_met M) panels-room);
          };
          flat = grown_there c' four 2 (omega arith) 3 (omega arith) ∙ D.flat;
          ends = D.ends ∙ ap (λ k. tab (seam_of (layer k m1'))) (sym (grown_there c' four 2 (omega arith) 1 (omega arith)));
        }

        pub ring-sewn : Stands (sew_ring r X) (Ok (grown_at c' 2)) m1' m2' m3'
        ring-sewn = record {
          sizes = drawn-sizes after;
          is = (sew-is ∙ rw went.0 (panel_made t D.held.good (all_met M) panels-room) ∙ ap sewn (sym grown), after);
        }
