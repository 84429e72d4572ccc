-- What reading an OFF text answers, part by part from its end, and what the call makes of it.
use mathlib.Core.Path.{◌≡◌, refl, sym, ◌∙◌}
use mathlib.Core.Bool.{true, false}
use mathlib.Core.List.{List, [], ◌∷◌}
use Prim.Native.Nat.{ℕ, ◌*◌, ◌≤◌}
use lib.IntN.{ℤ, pos}
use lib.ListN.{length}
use Rattle.std.specs.Prelude.{Option, None, Result, Err}
use Rattle.std.specs.Option.{ok_or}
use Rattle.std.specs.Result.{IsErrAnd}
use Rattle.std.proofs.lemmas.Result.{err_from_is_err_and}
use Rattle.maths.proofs.Tables.{length-tab, length-table}
use Rattle.rules.specs.declared.refusals.Refusal.{Refusal}
use Rattle.rules.specs.declared.counts.Counts.{Counts}
use Rattle.rules.specs.Mesh.{corners}
use Rattle.rules.proofs.Storage.Stored.{complex-stored, stored-held}
use Rattle.rules.proofs.Texts.ReadGood.{corners-good}
use Rattle.off.specs.Words.{Text, Found, none, found, after_found, coordinate}
use Rattle.off.specs.Plain.{Ring, Plain, plain, several, ring, is_over}
use Rattle.off.specs.Sewing.{Sewn, sewn, seam_among, sew_all, sew}
use Rattle.off.specs.Calls.{laid}
use Rattle.off.specs.Lying.{no_block, drawn, Matrices, Stands, PanelsRoom}
use Rattle.off.specs.Wholes.{panels_then, body_then, Blanks, EndTaken, TextTaken}
use Rattle.off.proofs.lines.Several.{not_found}
use Rattle.off.proofs.reader.Laid.{length-laid}

-- a `?` ends the function with the refusal w where nothing was found
pub ended : {A B : Type 0} {o : Option A} {w x : Refusal} {r : Result B Refusal} → o ≡ None → Err x ≡ ok_or o w → IsErrAnd r (λ y. y ≡ x) → r ≡ Err w
ended {w} {x} {r} n e h =
    let p = err_from_is_err_and r h in
    let is : Err x ≡ Err w = rw n at e in
    cc

-- nothing is found
module _ {x : Found (List Ring)} {start : Sewn} {a : Result Counts Refusal} {m1 m2 m3 : List ℤ} where
  pub end_none : x ≡ none → a ≡ Err Refusal.WrongOff → Matrices m1 m2 m3 → EndTaken x start a m1 m2 m3
  end_none e w s = record { sizes = s; goes = λ rings u f. not_found (sym e ∙ f); ends = λ _. w }

  pub end_some : (rings : List Ring) → x ≡ found rings [] → Stands (sew_all start rings) a m1 m2 m3 → EndTaken x start a m1 m2 m3
  end_some rings e S = record {
    sizes = S.sizes;
    goes = λ rings' u f. let q : rings ≡ rings' = cc in rw (← q) S;
    ends = λ f. not_found (sym f ∙ e);
  }

-- the rings, and nothing after them
module _ (n : ℕ) (t : Text) where
  pub no_rings : several ring n t ≡ none → panels_then n t ≡ none
  unfolding panels_then
  no_rings e = rw e

  pub more_text : {rings : List Ring} {u : Text} → several ring n t ≡ found rings u → is_over u ≡ false → panels_then n t ≡ none
  unfolding panels_then
  more_text e f = rw (e, f)

  pub all-rings : {rings : List Ring} {u : Text} → several ring n t ≡ found rings u → is_over u ≡ true → panels_then n t ≡ found rings []
  unfolding panels_then
  all-rings e f = rw (e, f)

-- a text is not plain
module _ {x : Found Plain} {a : Result Counts Refusal} {m1 m2 m3 list : List ℤ} where
  pub text-none : x ≡ none → a ≡ Err Refusal.WrongOff → Matrices m1 m2 m3 → length list ≡ 288 → TextTaken x a m1 m2 m3 list
  text-none e w s l = record {
    sizes = s;
    size = l;
    stands = λ P u f. not_found (sym e ∙ f);
    lie = λ P u f. not_found (sym e ∙ f);
    ends = λ _. w;
  }

-- how long blank matrices and a blank list are
module _ {m1 m2 m3 list : List ℤ} (B : Blanks m1 m2 m3 list) where
  pub blank-sizes : Matrices m1 m2 m3
  blank-sizes = record {
    size1 = rw B.none1 (length-tab (λ i j. pos 0));
    size2 = rw B.none2 (length-tab (λ i j. pos 0));
    size3 = rw B.none3 (length-tab (λ i j. pos 0));
  }

  pub blank-length : length list ≡ 288
  blank-length = rw B.zeros (length-table 0 288 (λ i. pos 0))

-- corners alone, as the code begins
abbrev pub corners_only : ℕ → Counts
corners_only n = record { n = n ∷ 0 ∷ 0 ∷ 0 ∷ [] }

pub corners-drawn : (n : ℕ) → n ≤ 96 → drawn (corners_only n) no_block no_block ≡ corners n
corners-drawn n h = complex-stored (corners-good n h)

pub corners-room : (n panels : ℕ) → n ≤ 96 → panels ≤ 96 → PanelsRoom (corners_only n) panels no_block no_block no_block
unfolding seam_among
corners-room n panels h few = record {
  drawn = record { held = stored-held (corners-good n h); flat = refl; ends = refl };
  none = refl;
  few = few;
}

begins : (n : ℕ) → n ≤ 96 → (c : List ℤ) (rings : List Ring) {a : Result Counts Refusal} {m1 m2 m3 : List ℤ} →
    Stands (sew_all (sewn (drawn (corners_only n) no_block no_block)) rings) a m1 m2 m3 → Stands (sew (plain n c rings)) a m1 m2 m3
unfolding sew
begins n h c rings S = rw (corners-drawn n h) at S

-- what follows the three counts
module _ (corners panels : ℕ) (t : Text) where
  pub no_corners : several coordinate (3 * corners) t ≡ none → body_then corners panels t ≡ none
  unfolding body_then
  no_corners e = rw e

  module _ {c : List ℤ} {u : Text} (e : several coordinate (3 * corners) t ≡ found c u) where
    body_is : body_then corners panels t ≡ after_found (panels_then panels u) none (λ rings _. found (plain corners c rings) [])
    unfolding body_then
    body_is = rw e

    pub body_taken : {a : Result Counts Refusal} {m1 m2 m3 list : List ℤ} → corners ≤ 96 → list ≡ laid c →
        EndTaken (panels_then panels u) (sewn (drawn (corners_only corners) no_block no_block)) a m1 m2 m3 → TextTaken (body_then corners panels t) a m1 m2 m3 list
    body_taken {a} {m1} {m2} {m3} {list} h l E = rw body_is (taken (panels_then panels u) E)
      where
        taken : (x : Found (List Ring)) → EndTaken x (sewn (drawn (corners_only corners) no_block no_block)) a m1 m2 m3 →
            TextTaken (after_found x none (λ rings _. found (plain corners c rings) [])) a m1 m2 m3 list
        taken none E = text-none refl (E.ends refl) E.sizes (rw l (length-laid c))
        taken (found rings w) E = record {
          sizes = E.sizes;
          size = rw l (length-laid c);
          stands = λ P v f. let q : plain corners c rings ≡ P = cc in rw (← q) (sewn-from (E.goes rings w refl));
          lie = λ P v f. let q : plain corners c rings ≡ P = cc in rw (← q) l;
          ends = λ f. not_found (sym f);
        }
          where
            sewn-from : Stands (sew_all (sewn (drawn (corners_only corners) no_block no_block)) rings) a m1 m2 m3 → Stands (sew (plain corners c rings)) a m1 m2 m3
            sewn-from S = begins corners h c rings S
