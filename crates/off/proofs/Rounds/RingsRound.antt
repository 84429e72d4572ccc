-- In what a plain text is sewn to, each panel goes round its ring, every seam is in a panel, and no two have the same two ends.
use mathlib.Core.Path.{◌≡◌, refl, sym, ap, fun_ext, ◌∙◌}
use mathlib.Core.Logic.{◌≢◌}
use mathlib.Core.Bool.{true, not}
use mathlib.Core.List.{List, [], ◌∷◌, ◌++◌, append_assoc, append-nil}
use Prim.Native.Nat.{ℕ, zero, suc, ◌+◌, ◌<◌, ◌≤◌}
use native.Mathlib.Omega.{arith}
use borrow.Author.Tests.{eq-eqb}
use lib.IntN.{pos}
use lib.ListN.{length, get_or, length-append, get_or-append}
use lib.Seq.{get_or_at}
use Rattle.maths.specs.Tests.{is_zero}
use Rattle.maths.proofs.Cases.{eq_or, lt_or, and_both}
use Rattle.maths.proofs.Tests.{all_of, all-not, not-zero, zero_is}
use Rattle.rules.specs.Refusals.{no_such_cell, no_room, not_closed}
use Rattle.rules.specs.Complex.{Layer, Complex, Chain}
use Rattle.rules.specs.Good.{Good}
use Rattle.rules.specs.Edits.{put}
use Rattle.rules.specs.Operators.{chain_of}
use Rattle.rules.specs.Mesh.{face_count}
use Rattle.rules.proofs.Layers.Changes.{put_same, put_no}
use Rattle.rules.proofs.Edits.Makes.{make-here, make_other}
use Rattle.rules.proofs.Texts.ReadGood.{corners-good}
use Rattle.off.specs.Plain.{Ring, Plain}
use Rattle.off.specs.Rings.{corners_below, SameRing}
use Rattle.off.specs.Sewing.{SeamEnds, Sewn, refused, sewn, ends_of, seam_of, sides, sew_all, sew}
use Rattle.off.specs.Exporting.{leaves_by, next_among, next_of, ring_of, one_ring, is_sewn, is_alone, is_plain}
use Rattle.off.proofs.ends.SameWays.{same_next, same_alone}
use Rattle.off.proofs.sewing.SidesMet.{Grew, all_met}
use Rattle.off.proofs.sewing.RingsSewn.{OnePanel, ring_each, sew-refused}
use Rattle.off.proofs.Rounds.Turning.{Along, walk_same, walk_closes}
use Rattle.off.proofs.Rounds.PanelRound.{panel_along, panel-faces, panel_side}

-- panel k of X
abbrev pub panel : Complex → ℕ → Chain
panel X k i = (X 2).d i k

-- panel k goes round the ring r
pub record Round (X : Complex) (k : ℕ) (r : Ring) : Type 0 where
  pub along : Along (next_of X (panel X k)) r
  pub faces : face_count (panel X k) ≡ length r

-- the panels of X go round these rings
pub record AllRound (rings : List Ring) (X : Complex) : Type 0 where
  pub good : Good X
  pub flat : (X 3).n ≡ 0
  pub panels : (X 2).n ≡ length rings
  pub rounds : (k : ℕ) → k < length rings → Round X k (get_or rings k [])
  pub used : (i : ℕ) → i < (X 1).n → (j : ℕ) × (j < (X 2).n) × ((X 2).d i j ≢ pos 0)
  pub alone : (j : ℕ) → j < (X 1).n → is_alone (ends_of (X 1)) j ≡ true

-- seams from n on that are not the panel's
next_fewer : (E : SeamEnds) (v : Chain) (n m a : ℕ) → n ≤ m → ((j : ℕ) → n ≤ j → v j ≡ pos 0) → next_among E v m a ≡ next_among E v n a
unfolding next_among leaves_by
next_fewer E v n zero a h z = let e : n ≡ 0 = omega arith in rw e
next_fewer E v n (suc m) a h z = eq_or n (suc m) (λ e. rw e) (λ e. rw (z m (omega arith), zero_is) (next_fewer E v n m a (omega arith) z))

along_same : {next other : ℕ → ℕ} {r : Ring} → Along next r → ((a : ℕ) → other a ≡ next a) → Along other r
along_same A same = record {
  ring = A.ring;
  low = A.low;
  goes = λ l h. same _ ∙ A.goes l h;
  off = λ a none. rw (same a) (A.off a none);
}

module _ {rings : List Ring} {r : Ring} {X Y : Complex} (A : AllRound rings X) (O : OnePanel r X Y) where
  abbrev Z : Complex
  Z = O.seamed

  abbrev v : Chain
  v = chain_of (sides (seam_of (Z 1)) r)

  abbrev g : Grew X Z
  g = O.met.grew

  low : corners_below (Z 0).n r ≡ true
  low = rw (ap (λ (A : Layer). A.n) g.corners) O.low

  seams_are : Y 1 ≡ Z 1
  seams_are = ap (λ (X : Complex). X 1) O.made ∙ make_other 2 v Z 1 (omega arith)

  panels_are : Y 2 ≡ record { n = suc (X 2).n; d = λ i. put (X 2).n (v i) ((X 2).d i) }
  panels_are = ap (λ (X : Complex). X 2) O.made ∙ make-here 2 v Z ∙ ap (λ (A : Layer). record { n = suc A.n; d = λ i. put A.n (v i) (A.d i) }) g.panels

  old_panel : (k : ℕ) → k < (X 2).n → panel Y k ≡ panel X k
  old_panel k h = fun_ext λ i. ap (λ (A : Layer). A.d i k) panels_are ∙ put_no (X 2).n (v i) ((X 2).d i) k (omega arith)

  new_panel : panel Y (X 2).n ≡ v
  new_panel = fun_ext λ i. ap (λ (A : Layer). A.d i (X 2).n) panels_are ∙ put_same (X 2).n (v i) ((X 2).d i)

  -- an older panel goes as it went
  old_next : (k : ℕ) → k < (X 2).n → (a : ℕ) → next_of Y (panel Y k) a ≡ next_of X (panel X k) a
  old_next k h a =
      rw (seams_are, old_panel k h)
      (next_fewer (ends_of (Z 1)) (panel X k) (X 1).n (Z 1).n a g.more (λ j l. A.good.rows 1 j k l)
      ∙ same_next (X 1).n g.ends (panel X k) a)

  old_round : (k : ℕ) → k < (X 2).n → (s : Ring) → Round X k s → Round Y k s
  old_round k h s R = record { along = along_same R.along (old_next k h); faces = rw (old_panel k h) R.faces }

  new_round : Round Y (X 2).n r
  new_round = record {
    along = along_same (panel_along O.ring g.good low (all_met O.met)) (λ a. rw (seams_are, new_panel));
    faces = rw new_panel (panel-faces O.ring g.good low (all_met O.met));
  }

  used_now : (i : ℕ) → i < (Y 1).n → (j : ℕ) × (j < (Y 2).n) × ((Y 2).d i j ≢ pos 0)
  used_now i h =
      let there : i < (Z 1).n = rw seams_are at h in
      let more : (Y 2).n ≡ suc (X 2).n = ap (λ (A : Layer). A.n) panels_are in
      lt_or i (X 1).n
      (λ l. let u = A.used i l in (u.0, omega (arith, u.1), rw (ap (λ (w : Chain). w i) (old_panel u.0 u.1)) u.2))
      (λ l.
      let f = O.met.fresh i l there in
      ((X 2).n, omega arith, rw (ap (λ (w : Chain). w i) new_panel, ← f.2) (panel_side O.ring g.good low (all_met O.met) f.0 f.1)))

  alone_now : (j : ℕ) → j < (Y 1).n → is_alone (ends_of (Y 1)) j ≡ true
  alone_now j h =
      let there : j < (Z 1).n = rw seams_are at h in
      rw seams_are (lt_or j (X 1).n
      (λ l. same_alone g.ends j l ∙ A.alone j l)
      (λ l. g.alone j l there))

  pub round_more : AllRound (rings ++ (r ∷ [])) Y
  round_more =
      let long : length (rings ++ (r ∷ [])) ≡ suc (length rings) = rw length-append (omega arith) in
      record {
        good = O.good;
        flat = ap (λ (A : Layer). A.n) O.blocks ∙ A.flat;
        panels = omega (arith, O.panels, A.panels);
        rounds = λ k h. eq_or k (length rings)
            (λ e.
            let q : k ≡ (X 2).n = omega (arith, A.panels) in
            rw (get_or_at rings r [] [] k (sym e)) (rw (← q) at new_round))
            (λ e.
            rw (get_or-append rings (r ∷ []) [] k (omega arith))
            (old_round k (omega (arith, A.panels)) (get_or rings k []) (A.rounds k (omega arith))));
        used = used_now;
        alone = alone_now;
      }

pub all_round : (rest rings : List Ring) {X Y : Complex} → AllRound rings X → length rings + length rest ≤ 96 → sew_all (sewn X) rest ≡ sewn Y →
    AllRound (rings ++ rest) Y
unfolding sew_all
all_round [] rings {X} {Y} A few e = let q : X ≡ Y = cc in rw (append-nil rings, ← q) A
all_round (r ∷ rest) rings {X} {Y} A few e =
    ring_each r A.good (omega (arith, A.panels)) (λ s. sew_all s rest ≡ sewn Y → AllRound (rings ++ (r ∷ rest)) Y)
    (λ _ q. no (sew-refused no_such_cell rest) q)
    (λ _ q. no (sew-refused not_closed rest) q)
    (λ _ _ _ _ _ q. no (sew-refused no_room rest) q)
    (λ Z O q.
    rw (← append_assoc rings (r ∷ []) rest)
    (all_round rest (rings ++ (r ∷ [])) (round_more A O) (rw length-append (omega arith)) q)) e
  where
    no : {c : ℕ} {s : Sewn} {A : Type 0} → s ≡ refused c → s ≡ sewn Y → A
    no p q = let z : ◌≡◌ {A = ℕ} 0 1 = cc in absurd (omega arith)

pub sewn_round : (P : Plain) {X : Complex} → P.corners ≤ 96 → length P.rings ≤ 96 → sew P ≡ sewn X → AllRound P.rings X
unfolding sew
sewn_round P few few-rings e = all_round P.rings [] (record {
  good = corners-good P.corners few;
  flat = refl;
  panels = refl;
  rounds = λ k h. absurd (omega arith);
  used = λ i h. absurd (omega arith);
  alone = λ j h. absurd (omega arith);
}) (omega arith) e

module _ {rings : List Ring} {X : Complex} (A : AllRound rings X) where
  -- "Imported then exported, each panel is the same ring up to its starting corner."
  pub same_ring : (k : ℕ) → k < length rings → SameRing (get_or rings k []) (ring_of X (panel X k))
  same_ring k h = let R = A.rounds k h in rw R.faces (walk_same R.along)

  one_ring_lem : (k : ℕ) → k < length rings → one_ring X (panel X k) ≡ true
  one_ring_lem k h = let R = A.rounds k h in rw R.faces (walk_closes R.along)

  used_sewn : (i : ℕ) → i < (X 1).n → is_sewn X i ≡ true
  unfolding is_sewn
  used_sewn i h =
      let u = A.used i h in
      ap not (all-not 96 (λ j. is_zero ((X 2).d i j)) u.0 (omega (arith, u.1, A.good.few 2)) (not-zero u.2))

  -- it has a plain OFF text
  pub round_plain : is_plain X ≡ true
  unfolding is_plain
  round_plain =
      and_both (and_both (and_both (eq-eqb (X 3).n 0 A.flat) (all_of (X 1).n used_sewn)) (all_of (X 1).n A.alone))
      (all_of (X 2).n (λ j h. one_ring_lem j (omega (arith, A.panels))))
