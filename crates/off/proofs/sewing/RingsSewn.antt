-- A ring is sewn on as one panel, unless a corner is missing, it is no ring, or there is no room for a seam; and so is each ring of a plain text.
use mathlib.Core.Path.{◌≡◌, refl, ◌∙◌, ap}
use mathlib.Core.Bool.{true, false}
use mathlib.Core.List.{List, [], ◌∷◌, ◌++◌}
use Prim.Native.Nat.{ℕ, zero, suc, ◌+◌, ◌<◌, ◌≤◌}
use native.Mathlib.Omega.{arith}
use lib.ListN.{length}
use Rattle.maths.specs.Repeat.{repeat}
use Rattle.rules.specs.Refusals.{no_such_cell, no_room, not_closed}
use Rattle.rules.specs.Complex.{Layer, Complex}
use Rattle.rules.specs.Good.{Good}
use Rattle.rules.specs.Edits.{layers, make}
use Rattle.rules.specs.Operators.{chain_of}
use Rattle.rules.proofs.Branches.Branches.{cond_each}
use Rattle.rules.proofs.Texts.ReadGood.{corners-good}
use Rattle.rules.proofs.Edits.Makes.{make-here, make_other}
use Rattle.off.specs.Plain.{Ring, Plain}
use Rattle.off.specs.Rings.{corner_at, next_at, corners_below, is_ring}
use Rattle.off.specs.Sewing.{Sewn, refused, sewn, after_sewn, seam_of, sides, Met, meet, meet_side, make_panel, sew_panel, sew_ring, sew_all, sew}
use Rattle.off.specs.Lying.{meet_sides}
use Rattle.off.proofs.sewing.RingSides.{panel_made, panel-good}
use Rattle.off.proofs.sewing.SidesMet.{MetTo, Full, met_each, all_met}

-- of three steps, the first two are taken as one
after_later : (s : Sewn) {f : Complex → Sewn} (g h : Complex → Sewn) → ((Y : Complex) → f Y ≡ after_sewn (g Y) refused h) →
    after_sewn s refused f ≡ after_sewn (after_sewn s refused g) refused h
after_later (refused c) g h e = refl
after_later (sewn Y) g h e = e Y

panel-from : (r : Ring) (n : ℕ) (x : Met) →
    repeat (meet_side r) (λ x. make_panel r x.0) n x ≡ after_sewn (repeat (meet_side r) (λ x. sewn x.0) n x) refused (make_panel r)
unfolding repeat meet_side
panel-from r zero x = refl
panel-from r (suc n) x = after_later (meet (corner_at r x.1) (next_at r x.1) x.0)
    (λ Y. repeat (meet_side r) (λ x. sewn x.0) n (Y, x.1 + 1)) (make_panel r) (λ Y. panel-from r n (Y, x.1 + 1))

-- the panel is made of what meeting the sides leaves
pub panel-after : (r : Ring) (X : Complex) → sew_panel r X ≡ after_sewn (meet_sides r X) refused (make_panel r)
unfolding sew_panel meet_sides
panel-after r X = panel-from r (length r) (X, 0)

-- Y is X with one panel more, the ring r, and perhaps seams
pub record OnePanel (r : Ring) (X Y : Complex) : Type 0 where
  pub ring : is_ring r ≡ true
  pub low : corners_below (X 0).n r ≡ true
  pub seamed : Complex
  pub met : MetTo r X (length r) seamed
  pub made : Y ≡ layers (make 2 (chain_of (sides (seam_of (seamed 1)) r)) seamed)
  pub good : Good Y
  pub corners : Y 0 ≡ X 0
  pub panels : (Y 2).n ≡ suc (X 2).n
  pub blocks : Y 3 ≡ X 3

module _ (r : Ring) {X : Complex} (G : Good X) (room : (X 2).n < 96) (P : Sewn → Type 0) where
  made_one : is_ring r ≡ true → corners_below (X 0).n r ≡ true → ((Y : Complex) → OnePanel r X Y → P (sewn Y)) → (Y : Complex) → MetTo r X (length r) Y → P (make_panel r Y)
  made_one t low on Y M =
      let g = M.grew in
      let v = chain_of (sides (seam_of (Y 1)) r) in
      let room' : (Y 2).n < 96 = rw g.panels room in
      rw (panel_made t g.good (all_met M) room')
      (on (layers (make 2 v Y)) (record {
        ring = t;
        low = low;
        seamed = Y;
        met = M;
        made = refl;
        good = panel-good t g.good (all_met M) room';
        corners = make_other 2 v Y 0 (omega arith) ∙ g.corners;
        panels = ap (λ (A : Layer). A.n) (make-here 2 v Y) ∙ ap (λ (A : Layer). suc A.n) g.panels;
        blocks = make_other 2 v Y 3 (omega arith) ∙ g.blocks;
      }))

  -- what holds of each of the four answers holds of sewing a ring
  pub ring_each : (corners_below (X 0).n r ≡ false → P (refused no_such_cell)) → (is_ring r ≡ false → P (refused not_closed)) →
      ((Y : Complex) (l : ℕ) → l < length r → MetTo r X l Y → Full (corner_at r l) (next_at r l) Y → P (refused no_room)) → ((Y : Complex) → OnePanel r X Y → P (sewn Y)) → P (sew_ring r X)
  unfolding sew_ring sew_panel
  ring_each far torn full on =
      cond_each P (corners_below (X 0).n r)
      (λ low. cond_each P (is_ring r) (λ t. met_each t G low P full (λ x. make_panel r x.0) (made_one t low on)) torn)
      far

-- what a ring is sewn to
pub ring_one : (r : Ring) {X Y : Complex} → Good X → (X 2).n < 96 → sew_ring r X ≡ sewn Y → OnePanel r X Y
ring_one r {X} {Y} G room = ring_each r G room (λ s. s ≡ sewn Y → OnePanel r X Y)
    (λ _ e. never e) (λ _ e. never e) (λ _ _ _ _ _ e. never e) (λ Z O e. let q : Z ≡ Y = cc in rw q at O)
  where
    never : {c : ℕ} {A : Type 0} → refused c ≡ sewn Y → A
    never e = let z : ◌≡◌ {A = ℕ} 0 1 = cc in absurd (omega arith)

-- one ring more
pub sew_more : (x : Sewn) (rings : List Ring) (r : Ring) → sew_all x (rings ++ (r ∷ [])) ≡ after_sewn (sew_all x rings) refused (sew_ring r)
unfolding sew_all
sew_more x [] r = refl
sew_more x (q ∷ rings) r = sew_more (after_sewn x refused (sew_ring q)) rings r

-- a refusal ends it
pub sew-refused : (c : ℕ) (rings : List Ring) → sew_all (refused c) rings ≡ refused c
unfolding sew_all
sew-refused c [] = refl
sew-refused c (r ∷ rings) = sew-refused c rings

-- Y is X with n panels more
pub record Panels (X Y : Complex) (n : ℕ) : Type 0 where
  pub good : Good Y
  pub corners : Y 0 ≡ X 0
  pub panels : (Y 2).n ≡ (X 2).n + n
  pub blocks : Y 3 ≡ X 3

all-sewn : (rings : List Ring) {X Y : Complex} → Good X → (X 2).n + length rings ≤ 96 → sew_all (sewn X) rings ≡ sewn Y → Panels X Y (length rings)
unfolding sew_all
all-sewn [] {X} {Y} G few e =
    let q : X ≡ Y = cc in
    rw (← q) (record { good = G; corners = refl; panels = omega arith; blocks = refl })
all-sewn (r ∷ rings) {X} {Y} G few e = ring_each r G (omega arith) (λ s. sew_all s rings ≡ sewn Y → Panels X Y (suc (length rings)))
    (λ _ q. no (sew-refused no_such_cell rings) q)
    (λ _ q. no (sew-refused not_closed rings) q)
    (λ _ _ _ _ _ q. no (sew-refused no_room rings) q)
    (λ Z O q. on O (all-sewn rings O.good (omega (arith, O.panels)) q)) e
  where
    no : {c : ℕ} {s : Sewn} {A : Type 0} → s ≡ refused c → s ≡ sewn Y → A
    no p q = let z : ◌≡◌ {A = ℕ} 0 1 = cc in absurd (omega arith)

    on : {Z : Complex} → OnePanel r X Z → Panels Z Y (length rings) → Panels X Y (suc (length rings))
    on O S = record {
      good = S.good;
      corners = S.corners ∙ O.corners;
      panels = omega (arith, S.panels, O.panels);
      blocks = S.blocks ∙ O.blocks;
    }

-- what a plain text is sewn to
pub record SewnPlain (P : Plain) (X : Complex) : Type 0 where
  pub good : Good X
  pub corners : (X 0).n ≡ P.corners
  pub panels : (X 2).n ≡ length P.rings
  pub flat : (X 3).n ≡ 0

pub sew-good : {P : Plain} {X : Complex} → P.corners ≤ 96 → length P.rings ≤ 96 → sew P ≡ sewn X → SewnPlain P X
unfolding sew
sew-good {P} few few-rings e =
    let S = all-sewn P.rings (corners-good P.corners few) (omega arith) e in
    record {
      good = S.good;
      corners = ap (λ (A : Layer). A.n) S.corners;
      panels = omega (arith, S.panels);
      flat = ap (λ (A : Layer). A.n) S.blocks;
    }
