-- Things that are read one after the other, and where they are put: what is left to read, from where it stands, is always the whole.
use mathlib.Core.Path.{◌≡◌, refl, sym, ap, ◌∙◌}
use mathlib.Core.Bool.{Bool, true, ◌&&◌}
use mathlib.Core.List.{List, [], ◌∷◌, ◌++◌}
use Prim.Native.Nat.{ℕ, suc, ◌+◌, ◌-◌, ◌<◌, ◌≤◌}
use native.Mathlib.Nat.{sub-zero}
use native.Mathlib.Numerals.{add-one}
use native.Mathlib.Omega.{arith}
use lib.Dec.{ltb}
use lib.ListN.{length, set, take, length-append, get_or-append}
use lib.Seq.{get_or_at, take-suc-set}
use Rattle.maths.specs.Repeat.{repeat}
use Rattle.maths.specs.Tests.{all}
use Rattle.maths.proofs.Repeat.{turned, stopped, repeat-ended}
use Rattle.maths.proofs.Cases.{and_left}
use Rattle.maths.proofs.Tests.{all_same}
use Rattle.off.specs.Words.{Text, Found, none, found}
use Rattle.off.specs.Plain.{Ring, one_more, all_found, several}
use Rattle.off.specs.Rings.{corner_at, corners_below}

pub not_found : {A B : Type 0} {x : A} {t : Text} → none ≡ found x t → B
not_found e = let z : ◌≡◌ {A = ℕ} 0 1 = cc in absurd (omega arith)

-- those i of n things were read from the text t on, and the text u is left
pub record Sofar {A : Type 0} (one : Text → Found A) (n : ℕ) (t : Text) (i : ℕ) (those : List A) (u : Text) : Type 0 where
  pub long : length those ≡ i
  pub upto : i ≤ n
  pub is : repeat (one_more one) all_found (n - i) (those, u) ≡ several one n t

module _ {A : Type 0} (one : Text → Found A) where
  pub none_yet : (n : ℕ) (t : Text) → Sofar one n t 0 [] t
  unfolding several
  none_yet n t = record { long = refl; upto = omega arith; is = rw (sub-zero n) }

  module _ {n i : ℕ} {t u : Text} {those : List A} (r : Sofar one n t i those u) where
    pub one_more_lem : {y : A} {v : Text} → i < n → one u ≡ found y v → Sofar one n t (i + 1) (those ++ (y ∷ [])) v
    unfolding one_more
    one_more_lem {y} {v} h e =
        let fewer : n - (i + 1) ≡ n - i - 1 = omega arith in
        record {
          long = length-append those (y ∷ []) ∙ ap (λ k. k + 1) r.long;
          upto = omega arith;
          is = rw fewer (turned (one_more one) all_found (those, u) (omega arith) (λ go. rw e) ∙ r.is);
        }

    pub no_more : i < n → one u ≡ none → several one n t ≡ none
    unfolding one_more
    no_more h e = sym (stopped (one_more one) all_found (those, u) (omega arith) (λ go. rw e) ∙ r.is)

    pub all_read : n ≤ i → several one n t ≡ found those u
    all_read h = sym (repeat-ended (one_more one) all_found (those, u) (omega (arith, r.upto)) refl ∙ r.is)

-- one corner more
pub below_more : (limit : ℕ) (r : Ring) (c : ℕ) → corners_below limit r && ltb c limit ≡ corners_below limit (r ++ (c ∷ []))
unfolding corners_below all
below_more limit r c =
    let more : length (r ++ (c ∷ [])) ≡ suc (length r) = length-append r (c ∷ []) ∙ add-one (length r) in
    let last : corner_at (r ++ (c ∷ [])) (length r) ≡ c = get_or_at r c [] 0 (length r) refl in
    rw (more, last)
    (ap (λ x. x && ltb c limit) (all_same (length r) (λ l h. ap (λ x. ltb x limit) (sym (get_or-append r (c ∷ []) 0 l h)))))

-- the corners that were read are below the limit or not, and stand in the 96 bytes if they are and have room
pub record Placed (limit : ℕ) (ring : Ring) (l : ℕ) (bytes : List ℕ) (below : Bool) : Type 0 where
  pub room : length bytes ≡ 96
  pub low : below ≡ corners_below limit ring
  pub stand : below ≡ true → l ≤ 96 → take l bytes ≡ ring

pub placed_none : {limit : ℕ} {bytes : List ℕ} → length bytes ≡ 96 → Placed limit [] 0 bytes true
unfolding corners_below all
placed_none e = record { room = e; low = refl; stand = λ _ _. refl }

module _ {limit l : ℕ} {ring : Ring} {bytes : List ℕ} {below : Bool} (p : Placed limit ring l bytes below) where
  pub placed_more : (c : ℕ) {bytes' : List ℕ} {below' : Bool} → below' ≡ below && ltb c limit → length bytes' ≡ 96
      → (below' ≡ true → l < 96 → bytes' ≡ set bytes l c) → Placed limit (ring ++ (c ∷ [])) (l + 1) bytes' below'
  placed_more c e room f = record {
    room = room;
    low = rw (e, p.low) (below_more limit ring c);
    stand = λ t h.
        let both : below && ltb c limit ≡ true = sym e ∙ t in
        rw (f t (omega arith), add-one l, take-suc-set bytes l c (omega (arith, p.room)), p.stand (and_left below (ltb c limit) both) (omega arith));
  }
