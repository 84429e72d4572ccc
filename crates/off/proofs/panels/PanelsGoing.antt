-- Panels that are read and sewn one after the other: what is sewn so far is what the rings so far are sewn to.
use mathlib.Core.Path.{◌≡◌, refl, ◌∙◌, ap}
use mathlib.Core.List.{List, [], ◌∷◌, ◌++◌}
use Prim.Native.Nat.{ℕ, ◌+◌, ◌<◌, ◌≤◌}
use native.Mathlib.Omega.{arith}
use Rattle.std.specs.Prelude.{Result, Ok, Err, IfOk}
use lib.IntN.{ℤ}
use lib.ListN.{length}
use Rattle.rules.specs.declared.counts.Counts.{Counts}
use Rattle.rules.specs.declared.refusals.Refusal.{Refusal}
use Rattle.rules.specs.Counts.{count_of}
use Rattle.rules.specs.Complex.{Layer}
use Rattle.off.specs.declared.lines.RingRead.{RingRead}
use Rattle.off.specs.Words.{Text}
use Rattle.off.specs.Plain.{Ring, several, ring}
use Rattle.off.specs.Reading.{RingHere}
use Rattle.off.specs.Sewing.{Sewn, sewn, sew_ring, sew_all}
use Rattle.off.specs.Lying.{drawn, Stands, NextSewn, PanelsRoom, PanelsHere}
use Rattle.off.proofs.lines.Several.{Sofar, none_yet, one_more_lem, all_read}
use Rattle.off.proofs.sewing.RingsSewn.{OnePanel, ring_one, sew_more}
use Rattle.off.proofs.sewing.SeamAdded.{drawn-sizes}

-- i of n rings are read, and sewn on to `start`, which has `limit` corners
pub record PanelsGoing (s : Text) (n : ℕ) (start : Sewn) (limit : ℕ) (m1 m2 m3 : List ℤ) (bytes : List ℕ) (rest : Text) (now : Result Counts Refusal) (i : ℕ) : Type 0 where
  pub rings : List Ring
  pub sofar : Sofar ring n s i rings rest
  pub room : length bytes ≡ 96
  pub stands : Stands (sew_all start rings) now m1 m2 m3
  pub counts : IfOk now (λ c. (count_of c 0 ≡ limit) × (count_of c 2 ≡ i))

pub going_none : {c : Counts} {n : ℕ} {m1 m2 m3 : List ℤ} → PanelsRoom c n m1 m2 m3 → (s : Text) {bytes : List ℕ} → length bytes ≡ 96 →
    PanelsGoing s n (sewn (drawn c m1 m2)) (count_of c 0) m1 m2 m3 bytes s (Ok c) 0
unfolding sew_all
going_none {n} R s room = record {
  rings = [];
  sofar = none_yet ring n s;
  room = room;
  stands = record { sizes = drawn-sizes R.drawn; is = (refl, R.drawn) };
  counts = (refl, R.none);
}

module _ {s : Text} {n : ℕ} {start : Sewn} {limit : ℕ} {m1 m2 m3 : List ℤ} {bytes : List ℕ} {rest : Text} {i : ℕ} where
  -- no ring is left
  pub going_done : {now : Result Counts Refusal} → PanelsGoing s n start limit m1 m2 m3 bytes rest now i → n ≤ i → PanelsHere (several ring n s) start now rest m1 m2 m3
  going_done G h = record { rings = G.rings; is = all_read ring G.sofar h; stands = G.stands }

  -- the next ring is read
  module _ {read : RingRead} {bytes' : List ℕ} {after : Text} (h : i < n) (R : RingHere limit (ring rest) read after bytes') (room : length bytes' ≡ 96) where
    -- none was refused so far, and it is sewn on
    module _ {c : Counts} (G : PanelsGoing s n start limit m1 m2 m3 bytes rest (Ok c) i) (few : n ≤ 96) where
      module _ {a : Result Counts Refusal} {m1' m2' m3' : List ℤ} (S : NextSewn c read bytes' m1 m2 a m1' m2' m3') where
        after-stands : Stands (sew_ring R.ring (drawn c m1 m2)) a m1' m2' m3'
        after-stands = S.stands R.ring (rw G.counts.0 R.here)

        after-counts : (a : Result Counts Refusal) → Stands (sew_ring R.ring (drawn c m1 m2)) a m1' m2' m3' → IfOk a (λ d. (count_of d 0 ≡ limit) × (count_of d 2 ≡ i + 1))
        after-counts (Ok d) T =
            let one : OnePanel R.ring (drawn c m1 m2) (drawn d m1' m2') =
            ring_one R.ring {Y = drawn d m1' m2'} G.stands.is.1.held.good (omega (arith, G.counts.1)) T.is.0 in
            (ap (λ (A : Layer). A.n) one.corners ∙ G.counts.0, omega (arith, one.panels, G.counts.1))
        after-counts (Err r) T = tt

        pub going_on : PanelsGoing s n start limit m1' m2' m3' bytes' after a (i + 1)
        going_on = record {
          rings = G.rings ++ (R.ring ∷ []);
          sofar = one_more_lem ring G.sofar h R.is;
          room = room;
          stands = rw (sew_more start G.rings R.ring, G.stands.is.0) after-stands;
          counts = after-counts a after-stands;
        }

    -- one was refused
    pub going_past : {r : Refusal} → PanelsGoing s n start limit m1 m2 m3 bytes rest (Err r) i → PanelsGoing s n start limit m1 m2 m3 bytes' after (Err r) (i + 1)
    going_past {r} G = record {
      rings = G.rings ++ (R.ring ∷ []);
      sofar = one_more_lem ring G.sofar h R.is;
      room = room;
      stands = record { sizes = G.stands.sizes; is = rw (sew_more start G.rings R.ring, G.stands.is) };
      counts = tt;
    }
