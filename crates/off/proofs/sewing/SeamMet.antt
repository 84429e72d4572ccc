-- The seam between two corners in the matrices: it is in the table of ends, or is made, or there is no room.
use mathlib.Core.Path.{◌≡◌, sym, ap, ◌∙◌}
use mathlib.Core.Logic.{◌≢◌}
use mathlib.Core.List.{List}
use Prim.Native.Nat.{ℕ, ◌+◌, ◌*◌, ◌^◌, ◌<◌, ◌≤◌}
use native.Mathlib.Omega.{arith}
use lib.IntN.{ℤ, pos, nat_abs}
use lib.ListN.{length, get_or}
use mir.Syntax.{w8}
use mir.Val.{of_z, to_z}
use mir.Facts.{to_z-of_z}
use Rattle.std.specs.Prelude.{Result, Ok, Err}
use Rattle.maths.specs.Tables.{entries}
use Rattle.maths.proofs.Tables.{entries-tab, entries_in, clip_in}
use Rattle.maths.proofs.Sizes.{fits_size}
use Rattle.rules.specs.declared.counts.Counts.{Counts}
use Rattle.rules.specs.declared.refusals.Refusal.{Refusal}
use Rattle.rules.specs.Counts.{count_of}
use Rattle.rules.specs.Complex.{pattern, layer}
use Rattle.rules.specs.Good.{Held}
use Rattle.off.specs.Sewing.{ends_of, seam_of, meet}
use Rattle.off.specs.Lying.{no_block, drawn, Drawn, seam_table, Stands, Joined, TwoCorners, sewn_new}
use Rattle.off.proofs.sewing.SeamsFound.{seam_small}
use Rattle.off.proofs.sewing.SidesMet.{meet-there, meet_new, meet_full}
use Rattle.off.proofs.sewing.SeamAdded.{drawn-sizes, two_sizes, first-low, second-low}

-- an entry of the table of ends
pub table_entry : (c : Counts) (m1 : List ℤ) {m3 : List ℤ} → m3 ≡ seam_table c m1 → (a b : ℕ) → a < 96 → b < 96 → entries m3 a b ≡ seam_of (layer (count_of c 1) m1) a b
table_entry c m1 e a b ha hb = rw (e, entries-tab) (clip_in (seam_of (layer (count_of c 1) m1)) a b ha hb)

module _ {c : Counts} {a b : ℕ} {m1 m3 : List ℤ} (T : TwoCorners c a b m1 m3) where
  pub place-low : 96 * b + a < length m3
  place-low = omega (arith, (two_sizes T).size3, first-low T, second-low T)

  -- the entry that is read, which is 0 where there is no seam
  abbrev seam : ℤ
  seam = seam_of (layer (count_of c 1) m1) a b

  seam_read : get_or m3 (96 * b + a) (pos 0) ≡ seam
  seam_read = sym (entries_in m3 a b (first-low T) (second-low T)) ∙ table_entry c m1 T.seams.drawn.ends a b (first-low T) (second-low T)

  pub seam_absent : of_z w8 (get_or m3 (96 * b + a) (pos 0)) ≡ 0 → seam ≡ pos 0
  seam_absent e =
      let few : nat_abs seam < 2 ^ 7 = omega (arith, seam_small (ends_of (layer (count_of c 1) m1)) (count_of c 1) a b, T.seams.drawn.held.good.few 1) in
      sym (to_z-of_z {w = w8} (fits_size few)) ∙ ap (to_z w8) (rw seam_read at e)

  pub seam-there : (of_z w8 (get_or m3 (96 * b + a) (pos 0)) ≡ 0 → ⊥) → seam ≢ pos 0
  seam-there f e = f (rw (seam_read, e))

  again : {m2 : List ℤ} → Held (pattern c m1 m2 no_block) → count_of c 3 ≡ 0 → Drawn c m1 m2 m3
  again H flat = record { held = H; flat = flat; ends = T.seams.drawn.ends }

  pub joined_there : seam ≢ pos 0 → Joined (meet a b) c m1 (Ok c) m1 m3
  joined_there f = record {
    stands = λ m2 H flat. record {
      sizes = drawn-sizes (again H flat);
      is = (meet-there H.good a b T.apart T.first T.second f, again H flat);
    };
  }

  module _ (none : seam ≡ pos 0) where
    pub joined_full : 96 ≤ count_of c 1 → Joined (meet a b) c m1 (Err Refusal.NoRoom) m1 m3
    joined_full full = record {
      stands = λ m2 H flat. record { sizes = drawn-sizes (again H flat); is = meet_full H.good a b T.apart T.first T.second none full };
    }

    pub joined_new : count_of c 1 < 96 → {x : Result Counts Refusal} {m1' m3' : List ℤ} → Joined (sewn_new a b) c m1 x m1' m3' → Joined (meet a b) c m1 x m1' m3'
    joined_new room {x} {m1'} {m3'} J = record {
      stands = λ m2 H flat. let S : Stands (sewn_new a b (drawn c m1 m2)) x m1' m2 m3' = J.stands m2 H flat in
          rw (meet_new H.good a b T.apart T.first T.second none room) S;
    }
