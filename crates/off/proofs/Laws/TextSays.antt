-- What a text that is a plain OFF text says: counts, how many coordinates, and how far they are from 0.
use mathlib.Core.Path.{◌≡◌, refl, sym, ap, ◌∙◌}
use mathlib.Core.Bool.{Bool, true, false, cond}
use mathlib.Core.List.{List, [], ◌∷◌, ◌++◌}
use Prim.Native.Nat.{ℕ, zero, suc, ◌+◌, ◌*◌, ◌<◌, ◌≤◌}
use native.Mathlib.Omega.{arith}
use borrow.Author.Tests.{leb-true}
use lib.Dec.{eqb, leb}
use lib.IntN.{ℤ, pos, nat_abs}
use lib.ListN.{length, get_or, drop, length-append, get_or-append}
use lib.Seq.{get_or_at}
use Rattle.maths.specs.Repeat.{repeat}
use Rattle.maths.proofs.Cases.{eq_or, bool_or}
use Rattle.maths.proofs.Sizes.{neg_size}
use Rattle.off.specs.Words.{Text, Found, none, found, after_found, skipped, number_here, natural, farthest, limited, minus, coordinate_here, coordinate, keyword}
use Rattle.off.specs.Plain.{Ring, Plain, plain, one_more, all_found, several, ring, cell_count, is_over, read_off}
use Rattle.off.proofs.lines.Several.{not_found}

-- where something follows, something was found
pub record Both {A B : Type 0} (w : Found A) (go : A → Text → Found B) (y : B) (u : Text) : Type 0 where
  pub one : A
  pub rest : Text
  pub is : w ≡ found one rest
  pub then : go one rest ≡ found y u

pub after_both : {A B : Type 0} (w : Found A) {go : A → Text → Found B} {y : B} {u : Text} → after_found w none go ≡ found y u → Both w go y u
after_both none e = not_found e
after_both (found x t) e = record { one = x; rest = t; is = refl; then = e }

-- and where a test follows, it was passed
pub tested : {B : Type 0} (t : Bool) {x : Found B} {y : B} {u : Text} → cond t x none ≡ found y u → (t ≡ true) × (x ≡ found y u)
tested true e = (refl, e)
tested false e = not_found e

-- n things are found, each as `one` finds it
module _ {A : Type 0} (one : Text → Found A) (Q : A → Type 0) (says : (t : Text) (y : A) (u : Text) → one t ≡ found y u → Q y) (d : A) where
  pub record Said (n : ℕ) (l : List A) : Type 0 where
    pub long : length l ≡ n
    pub each : (i : ℕ) → i < n → Q (get_or l i d)

  said_more : (n : ℕ) (l : List A) (y : A) → Said n l → Q y → Said (suc n) (l ++ (y ∷ []))
  said_more n l y S q = record {
    long = rw length-append (omega (arith, S.long));
    each = λ i h. eq_or i n
        (λ e. rw (get_or_at l y [] d i (S.long ∙ sym e)) q)
        (λ e. rw (get_or-append l (y ∷ []) d i (omega (arith, S.long))) (S.each i (omega arith)));
  }

  said_from : (n m : ℕ) (l : List A) (t : Text) {r : List A} {u : Text} → Said m l → repeat (one_more one) all_found n (l, t) ≡ found r u → Said (m + n) r
  unfolding repeat one_more
  said_from zero m l t {r} S e =
      let q : l ≡ r = cc in
      let z : m + 0 ≡ m = omega arith in
      rw (z, ← q) S
  said_from (suc n) m l t S e =
      let B = after_both (one t) e in
      let z : m + suc n ≡ suc m + n = omega arith in
      rw z (said_from n (suc m) (l ++ (B.one ∷ [])) B.rest (said_more m l B.one S (says t B.one B.rest B.is)) B.then)

  pub several_says : (n : ℕ) (t : Text) {r : List A} {u : Text} → several one n t ≡ found r u → Said n r
  unfolding several
  several_says n t e =
      let z : 0 + n ≡ n = omega arith in
      rw z at (said_from n 0 [] t (record { long = refl; each = λ i h. absurd (omega arith) }) e)

limited_says : (f : ℕ → ℤ) → ((n : ℕ) → nat_abs (f n) ≡ n) → (w : Found ℕ) {z : ℤ} {u : Text} → limited f w ≡ found z u → nat_abs z ≤ farthest
limited_says f size w {z} e =
    let B = after_both w e in
    let T = tested (leb B.one farthest) B.then in
    let q : f B.one ≡ z = cc in
    omega (arith, leb-true B.one farthest T.0, size B.one, ap nat_abs q)

coordinate_says : (t : Text) (z : ℤ) (u : Text) → coordinate t ≡ found z u → nat_abs z ≤ farthest
unfolding coordinate coordinate_here
coordinate_says t z u e = bool_or (eqb (get_or (skipped t) 0 0) 0x2d)
    (λ c. limited_says minus (λ n. neg_size (pos n)) (number_here (drop 1 (skipped t))) (rw c at e))
    (λ c. limited_says pos (λ n. refl) (number_here (skipped t)) (rw c at e))

pub count_says : (t : Text) {n : ℕ} {u : Text} → cell_count t ≡ found n u → n ≤ 96
unfolding cell_count
count_says t {n} e =
    let B = after_both (natural t) e in
    let T = tested (leb B.one 96) B.then in
    let q : B.one ≡ n = cc in
    omega (arith, leb-true B.one 96 T.0)

-- what a plain OFF text says
pub record SaidPlain (P : Plain) : Type 0 where
  pub few : P.corners ≤ 96
  pub few-rings : length P.rings ≤ 96
  pub long : length P.coordinates ≡ 3 * P.corners
  pub near : (i : ℕ) → i < 3 * P.corners → nat_abs (get_or P.coordinates i (pos 0)) ≤ farthest

-- n corners and m rings were found, and nothing is left
whole_says : (n m : ℕ) (c : List ℤ) (r : List Ring) (t v w : Text) {P : Plain} {u : Text} → n ≤ 96 → m ≤ 96 →
    several coordinate (3 * n) t ≡ found c v → several ring m v ≡ found r w → cond (is_over w) (found (plain n c r) []) none ≡ found P u → SaidPlain P
whole_says n m c r t v w {P} few few-rings corners rings e =
    let T = tested (is_over w) e in
    let q : plain n c r ≡ P = cc in
    let S = several_says coordinate (λ z. nat_abs z ≤ farthest) coordinate_says (pos 0) (3 * n) t corners in
    let R = several_says ring (λ r. Unit {0}) (λ t y u e. tt) [] m v rings in
    rw (← q) (record { few = few; few-rings = omega (arith, R.long); long = S.long; near = S.each })

pub text_says : (s : Text) {P : Plain} {u : Text} → read_off s ≡ found P u → SaidPlain P
unfolding read_off
text_says s e =
    let a = after_both (keyword s) e in
    let b = after_both (cell_count a.rest) a.then in
    let c = after_both (cell_count b.rest) b.then in
    let d = after_both (natural c.rest) c.then in
    let f = after_both (several coordinate (3 * b.one) d.rest) d.then in
    let g = after_both (several ring c.one f.rest) f.then in
    whole_says b.one c.one f.one g.one d.rest f.rest g.rest (count_says a.rest b.is) (count_says b.rest c.is) f.is g.is g.then
