-- The sides of a ring in the matrices: what is left to meet, from where the loop stands, is the whole.
use mathlib.Core.Path.{◌≡◌, refl, sym, ◌∙◌, ap}
use mathlib.Core.List.{List}
use Prim.Native.Nat.{ℕ, suc, ◌+◌, ◌-◌, ◌<◌, ◌≤◌}
use native.Mathlib.Omega.{arith}
use lib.IntN.{ℤ}
use lib.ListN.{length}
use Rattle.std.specs.Prelude.{Result, Ok, Err}
use Rattle.maths.specs.Repeat.{repeat}
use Rattle.maths.proofs.Repeat.{turned, stopped, repeat-ended}
use Rattle.rules.specs.declared.counts.Counts.{Counts}
use Rattle.rules.specs.declared.refusals.Refusal.{Refusal}
use Rattle.rules.specs.Counts.{count_of}
use Rattle.rules.specs.Told.{refusal_number}
use Rattle.rules.specs.Complex.{pattern, Layer, Complex}
use Rattle.rules.specs.Good.{Held}
use Rattle.off.specs.Plain.{Ring}
use Rattle.off.specs.Rings.{corner_at, next_at}
use Rattle.off.specs.Sewing.{Sewn, refused, sewn, Met, meet, meet_side}
use Rattle.off.specs.Lying.{no_block, drawn, Drawn, Stands, Joined, TwoCorners, RingSeams, meet_sides}
use Rattle.off.proofs.sewing.RingSides.{corner-below, next-below, next-apart}
use Rattle.off.proofs.sewing.SidesMet.{meet-corners}
use Rattle.off.proofs.sewing.SeamAdded.{drawn-sizes}

abbrev side_done : Met → Sewn
side_done x = sewn x.0

-- l sides are met, and X was there before
pub record SidesHere (r : Ring) (X : Complex) (counts : Counts) (m1 m2 m3 : List ℤ) (l : ℕ) : Type 0 where
  pub lies : Drawn counts m1 m2 m3
  pub corners : count_of counts 0 ≡ (X 0).n
  pub rest : repeat (meet_side r) side_done (length r - l) (drawn counts m1 m2, l) ≡ meet_sides r X

pub record Going (r : Ring) (c : Counts) (m1₀ : List ℤ) (counts : Counts) (m1 m3 : List ℤ) (l : ℕ) : Type 0 where
  pub inside : l ≤ length r
  pub here : (m2 : List ℤ) → Held (pattern c m1₀ m2 no_block) → count_of c 3 ≡ 0 → SidesHere r (drawn c m1₀ m2) counts m1 m2 m3 l

-- a side that is met, and one for which there is no room
step-on : (r : Ring) (Y Z : Complex) (l : ℕ) → meet (corner_at r l) (next_at r l) Y ≡ sewn Z → (go : Met → Sewn) → meet_side r (Y, l) go ≡ go (Z, l + 1)
unfolding meet_side
step-on r Y Z l e go = rw e

step_stops : (r : Ring) (Y : Complex) (l x : ℕ) → meet (corner_at r l) (next_at r l) Y ≡ refused x → (go : Met → Sewn) → meet_side r (Y, l) go ≡ refused x
unfolding meet_side
step_stops r Y l x e go = rw e

module _ {c : Counts} {r : Ring} {m1₀ m3₀ : List ℤ} (R : RingSeams c r m1₀ m3₀) where
  pub going_none : Going r c m1₀ c m1₀ m3₀ 0
  unfolding meet_sides
  going_none = record {
    inside = omega arith;
    here = λ m2 H flat.
        let whole : length r - 0 ≡ length r = omega arith in
        record { lies = record { held = H; flat = flat; ends = R.seams.drawn.ends }; corners = refl; rest = rw whole };
  }

  -- the loop stands at side l
  module _ {counts : Counts} {m1 m3 : List ℤ} {l : ℕ} (G : Going r c m1₀ counts m1 m3 l) where
    with_panels : SidesHere r (drawn c m1₀ R.seams.panels) counts m1 R.seams.panels m3 l
    with_panels = G.here R.seams.panels R.seams.drawn.held R.seams.drawn.flat

    module _ (h : l < length r) {a b : ℕ} (ea : a ≡ corner_at r l) (eb : b ≡ next_at r l) where
      pub two_corners : TwoCorners counts a b m1 m3
      two_corners =
          let same = with_panels.corners in
          record {
            seams = record { panels = R.seams.panels; drawn = with_panels.lies };
            apart = rw (ea, eb) (next-apart r R.ring l h);
            first = omega (arith, corner-below r R.on.below l h);
            second = omega (arith, next-below r R.on.below l h);
          }

      met : {x : Result Counts Refusal} {m1' m3' : List ℤ} → Joined (meet a b) counts m1 x m1' m3' → (m2 : List ℤ) → Held (pattern c m1₀ m2 no_block) → count_of c 3 ≡ 0
          → Stands (meet (corner_at r l) (next_at r l) (drawn counts m1 m2)) x m1' m2 m3'
      met J m2 H flat =
          let S = (G.here m2 H flat).lies in
          rw (← ea, ← eb) (J.stands m2 S.held S.flat)

      pub going_on : {counts' : Counts} {m1' m3' : List ℤ} → Joined (meet a b) counts m1 (Ok counts') m1' m3' → Going r c m1₀ counts' m1' m3' (l + 1)
      going_on {counts'} {m1'} {m3'} J = record {
        inside = omega arith;
        here = λ m2 H flat.
            let S = G.here m2 H flat in
            let T = two_corners in
            let went = (met J m2 H flat).is in
            let same : count_of counts' 0 ≡ count_of counts 0 =
            ap (λ (A : Layer). A.n) (meet-corners S.lies.held.good a b T.apart T.first T.second {Y = drawn counts' m1' m2} (rw (ea, eb) went.0)) in
            let one : length r - (l + 1) ≡ length r - l - 1 = omega arith in
            record {
              lies = went.1;
              corners = same ∙ S.corners;
              rest = rw one (turned (meet_side r) side_done (drawn counts m1 m2, l) (omega arith) (step-on r (drawn counts m1 m2) (drawn counts' m1' m2) l went.0) ∙ S.rest);
            };
      }

      pub going_stops : {x : Refusal} {m1' m3' : List ℤ} → Joined (meet a b) counts m1 (Err x) m1' m3' → Joined (meet_sides r) c m1₀ (Err x) m1' m3'
      going_stops {x} J = record {
        stands = λ m2 H flat.
            let S = G.here m2 H flat in
            let went = met J m2 H flat in
            record {
              sizes = went.sizes;
              is = sym S.rest
                  ∙ sym (stopped (meet_side r) side_done (drawn counts m1 m2, l) (omega arith) (step_stops r (drawn counts m1 m2) l (refusal_number x) went.is));
            };
      }

    pub going_done : length r ≤ l → Joined (meet_sides r) c m1₀ (Ok counts) m1 m3
    going_done h = record {
      stands = λ m2 H flat.
          let S = G.here m2 H flat in
          let none : length r - l ≡ 0 = omega arith in
          record {
            sizes = drawn-sizes S.lies;
            is = (sym S.rest ∙ sym (repeat-ended (meet_side r) side_done (drawn counts m1 m2, l) none refl), S.lies);
          };
    }

  -- and at the last side
  pub going_ends : {counts : Counts} {m1 m3 : List ℤ} {l : ℕ} → Going r c m1₀ counts m1 m3 l → suc l ≡ length r →
      {a b : ℕ} → a ≡ corner_at r l → b ≡ next_at r l →
      (x : Result Counts Refusal) {m1' m3' : List ℤ} → Joined (meet a b) counts m1 x m1' m3' → Joined (meet_sides r) c m1₀ x m1' m3'
  going_ends G e ea eb (Ok counts') J = going_done (going_on G (omega arith) ea eb J) (omega arith)
  going_ends G e ea eb (Err x) J = going_stops G (omega arith) ea eb J
