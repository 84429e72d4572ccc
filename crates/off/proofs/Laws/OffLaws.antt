-- The laws of the two calls: import leaves a good pattern or refuses, and each call undoes the other up to where rings start.
use mathlib.Core.Path.{◌≡◌, ◌∙◌}
use mathlib.Core.Bool.{true}
use mathlib.Core.List.{List, []}
use Prim.Native.Nat.{ℕ, ◌+◌, ◌*◌, ◌<◌}
use native.Mathlib.Omega.{arith}
use borrow.Author.Tests.{le-leb, leb-true}
use lib.Dec.{leb}
use lib.IntN.{ℤ, pos, nat_abs}
use lib.ListN.{length, get_or}
use Rattle.maths.proofs.Tests.{all-at, all_of}
use Rattle.maths.proofs.Sums.{join_same}
use Rattle.maths.proofs.Tables.{get_d_table}
use Rattle.rules.specs.Complex.{Complex}
use Rattle.rules.specs.Good.{Good}
use Rattle.off.specs.Words.{found, farthest}
use Rattle.off.specs.Plain.{Plain, read_off}
use Rattle.off.specs.Rings.{SameRing}
use Rattle.off.specs.Sewing.{sewn, sew}
use Rattle.off.specs.Exporting.{list_of, ring_of, is_plain, coordinates_near, plain_of, corner_line, ring_line, write_off, export_text}
use Rattle.off.specs.Calls.{laid}
use Rattle.off.proofs.sewing.RingSides.{corner-below, ring-short}
use Rattle.off.proofs.Rounds.Listed.{listed-length, listed_at, same_list}
use Rattle.off.proofs.sewing.RingsSewn.{sew-good}
use Rattle.off.proofs.Rounds.RingsRound.{panel, sewn_round, same_ring, round_plain}
use Rattle.off.proofs.Rounds.RoundTrip.{panel_in, one_ring-at}
use Rattle.off.proofs.Laws.PlainRead.{Short, read_written}
use Rattle.off.proofs.Laws.TextSays.{SaidPlain}

module _ {X : Complex} (G : Good X) (c : List ℤ) where
  pub rings-listed : length (plain_of X c).rings ≡ (X 2).n
  unfolding plain_of
  rings-listed = listed-length (X 2).n (λ j. ring_of X (panel X j))

  pub ring_said : (k : ℕ) → k < (X 2).n → get_or (plain_of X c).rings k [] ≡ ring_of X (panel X k)
  unfolding plain_of
  ring_said k h = listed_at (X 2).n (λ j. ring_of X (panel X j)) k [] h

  coordinate_said : (i : ℕ) → i < 3 * (X 0).n → get_or (plain_of X c).coordinates i (pos 0) ≡ get_or c i (pos 0)
  unfolding plain_of
  coordinate_said i h = listed_at (3 * (X 0).n) (λ i. get_or c i (pos 0)) i (pos 0) h

  -- the text is what is exported, written
  export_writes : export_text X c ≡ write_off (X 1).n (plain_of X c)
  unfolding export_text write_off corner_line plain_of
  export_writes =
      let P = plain_of X c in
      let corner-lines = join_same (X 0).n {f = corner_line c} {g = corner_line P.coordinates} (λ i h.
      rw (coordinate_said (3 * i) (omega arith), coordinate_said (3 * i + 1) (omega arith), coordinate_said (3 * i + 2) (omega arith))) in
      let ring-lines = join_same (X 2).n {f = λ j. ring_line (ring_of X (panel X j))} {g = λ j. ring_line (get_or P.rings j [])} (λ j h. rw (ring_said j h)) in
      rw (corner-lines, ring-lines, rings-listed)

  module _ (plain : is_plain X ≡ true) where
    ring-short_said : (k : ℕ) → k < (X 2).n → Short (ring_of X (panel X k))
    ring-short_said k h =
        let R = panel_in G (panel X k) (one_ring-at G plain k h) in
        let r = ring_of X (panel X k) in
        record {
          long = omega (arith, ring-short r R.ring);
          low = λ l i. omega (arith, corner-below r R.low l i, G.few 0);
        }

    -- "an exported text is a plain OFF text"
    pub exported_says : coordinates_near (X 0).n c ≡ true → read_off (export_text X c) ≡ found (plain_of X c) []
    unfolding coordinates_near plain_of
    exported_says near = rw export_writes (read_written (X 1).n (plain_of X c) (record {
      few = G.few 0;
      few-rings = omega (arith, rings-listed, G.few 2);
      few-seams = omega (arith, G.few 1);
      long = listed-length (3 * (X 0).n) (λ i. get_or c i (pos 0));
      near = λ i h. rw (coordinate_said i h) (leb-true (nat_abs (get_or c i (pos 0))) farthest (all-at (3 * (X 0).n) (λ i. leb (nat_abs (get_or c i (pos 0))) farthest) near i h));
      short = λ k h. let i : k < (X 2).n = omega (arith, rings-listed) in rw (ring_said k i) (ring-short_said k i);
    }))

-- P and Q say the same corners and coordinates, and "for each panel, the same ring up to its starting corner"
pub record SameSaid (P Q : Plain) : Type 0 where
  pub corners : Q.corners ≡ P.corners
  pub coordinates : Q.coordinates ≡ P.coordinates
  pub panels : length Q.rings ≡ length P.rings
  pub rings : (k : ℕ) → k < length P.rings → SameRing (get_or P.rings k []) (get_or Q.rings k [])

-- coordinates that lie in the list
laid-at : (c : List ℤ) (i : ℕ) → i < 288 → get_or (laid c) i (pos 0) ≡ get_or c i (pos 0)
unfolding laid
laid-at c i h = get_d_table 288 i (λ i. get_or c i (pos 0)) (pos 0) h

-- what was imported has a text, which says the same
pub record TextAgain (P : Plain) (X : Complex) : Type 0 where
  pub good : Good X
  pub near : coordinates_near (X 0).n (laid P.coordinates) ≡ true
  pub plain : is_plain X ≡ true
  pub same : SameSaid P (plain_of X (laid P.coordinates))

pub text_again : (P : Plain) (X : Complex) → SaidPlain P → sew P ≡ sewn X → TextAgain P X
unfolding coordinates_near plain_of
text_again P X S e =
    let W = sew-good {P = P} S.few S.few-rings e in
    let A = sewn_round P S.few S.few-rings e in
    let c = P.coordinates in
    let n : (X 0).n ≡ P.corners = W.corners in
    let few = S.few in
    let long : length (list_of (3 * (X 0).n) (λ i. get_or (laid c) i (pos 0))) ≡ 3 * (X 0).n = listed-length (3 * (X 0).n) (λ i. get_or (laid c) i (pos 0)) in
    record {
      good = W.good;
      near = all_of (3 * (X 0).n) (λ i h. le-leb (nat_abs (get_or (laid c) i (pos 0))) farthest (rw (laid-at c i (omega arith)) (S.near i (omega arith))));
      plain = round_plain A;
      same = record {
        corners = n;
        coordinates = same_list _ c (pos 0) (omega (arith, S.long)) (λ i h.
            let j : i < 3 * (X 0).n = omega arith in
            listed_at (3 * (X 0).n) (λ i. get_or (laid c) i (pos 0)) i (pos 0) j ∙ laid-at c i (omega arith));
        panels = rings-listed W.good (laid c) ∙ W.panels;
        rings = λ k h. rw (ring_said W.good (laid c) k (omega (arith, W.panels))) (same_ring A k h);
      };
    }
