-- The digits at the front of a text, and the number or the coordinate that they are.
use Rattle.std.proofs.Common.{◌≡◌, ◌≢◌, ℕ, suc, ◌+◌, ◌-◌, ◌*◌, ◌^◌, ◌<◌, ◌≤◌, true, false, cond, ◌⊎◌, inl, inr, ℤ, pos, neg_ℤ, nat_abs, [], ◌∷◌, length, get_or, take, drop, refl, arith}
use Rattle.std.proofs.Math.Numerals.{add-one}
use Rattle.std.proofs.Math.Nat.{pow-succ', pow-le-pow_right}
use Rattle.std.proofs.Math.Seq.{drop-cons, take_all}
use Rattle.std.proofs.Math.Bool.{and-false}
use Rattle.std.proofs.lemmas.List.{drop_all, length-drop}
use Rattle.std.proofs.lemmas.Bool.Decides.{nat_tests}
use borrow.Author.Tests.{leb-true, le-leb, lt-leb}
use lib.Dec.{leb}
use Rattle.maths.proofs.Cases.{bool_or, lt_or, by_bool}
use Rattle.off.specs.Words.{Text, Found, none, found, farthest, minus, limited, is_digit, word_ends, the_digits, digits_from, number_here}

digit_near : (b : ℕ) → is_digit b ≡ true → (48 ≤ b) × (b ≤ 57)
unfolding is_digit
digit_near b e = grind (arith, nat_tests)

-- the bytes from a place on
pub rest_of : (s : Text) (k : ℕ) → take (length s - k) (drop k s) ≡ drop k s
rest_of s k = take_all (length s - k) (drop k s) (omega (arith, length-drop k s))

-- no digit is lost
count-least : (n k : ℕ) (t : Text) → k ≤ (digits_from n k t).count
unfolding digits_from
count-least n k [] = omega arith
count-least n k (b ∷ t) =
    by_bool (is_digit b) (λ x. k ≤ (cond x (digits_from (10 * n + (b - 48)) (suc k) t) (the_digits n k (b ∷ t))).count)
    (λ _. omega (arith, count-least (10 * n + (b - 48)) (suc k) t))
    (λ _. omega arith)

-- the first k digits have the value n
pub record Counted (s : Text) (k n : ℕ) : Type 0 where
  pub few : k ≤ 7
  pub is : digits_from n k (drop k s) ≡ digits_from 0 0 s
  pub small : n < 10 ^ k

pub counted_none : (s : Text) → Counted s 0 0
counted_none s = record { few = omega arith; is = refl; small = omega arith }

module _ {s : Text} {k n : ℕ} (C : Counted s k n) where
  -- a digit follows
  module _ (h : k < length s) (e : is_digit (get_or s k 0) ≡ true) where
    digit_more : digits_from (10 * n + (get_or s k 0 - 48)) (k + 1) (drop (k + 1) s) ≡ digits_from 0 0 s
    unfolding digits_from
    digit_more = rw (add-one k, ← C.is, drop-cons s k 0 h, e)

    pub value_fits : k ≢ 7 → (48 ≤ get_or s k 0) × (get_or s k 0 ≤ 57) × (n < 1_000_000)
    value_fits l =
        let D = digit_near (get_or s k 0) e in
        let few = C.few in
        let least : k ≤ 6 = omega arith in
        let p : 10 ^ k ≤ 10 ^ 6 = pow-le-pow_right (omega arith) least in
        (D.0, D.1, let small = C.small in omega arith)

    pub counted_more : k ≢ 7 → Counted s (k + 1) (10 * n + (get_or s k 0 - 48))
    counted_more l =
        let D = digit_near (get_or s k 0) e in
        let few = C.few in
        let small = C.small in
        record { few = omega arith; is = digit_more; small = rw (add-one k, pow-succ' 10 k) (omega arith) }

    -- the eighth
    pub digit_past : k ≡ 7 → none ≡ number_here s
    unfolding number_here
    digit_past l =
        let d = digits_from 0 0 s in
        let many : k + 1 ≤ d.count = rw digit_more at (count-least (10 * n + (get_or s k 0 - 48)) (k + 1) (drop (k + 1) s)) in
        rw (le-leb 1 d.count (omega arith), lt-leb d.count 7 (omega arith))

  -- no digit follows
  module _ (h : k < length s → is_digit (get_or s k 0) ≡ false) where
    digits_end : the_digits n k (drop k s) ≡ digits_from 0 0 s
    unfolding digits_from
    digits_end = lt_or k (length s)
        (λ l. rw (← C.is, drop-cons s k 0 l, h l))
        (λ l. rw (← C.is, drop_all k s l))

    pub no_number : (k < 1) ⊎ (word_ends (drop k s) ≡ false) → none ≡ number_here s
    unfolding number_here
    no_number w = rw (← digits_end) (elim w [
      | inl a ↦ grind (arith, nat_tests)
      | inr b ↦ rw (b, and-false) refl
    ])

    pub a_number : 1 ≤ k → word_ends (drop k s) ≡ true → found n (drop k s) ≡ number_here s
    unfolding number_here
    a_number l e = rw (← digits_end, le-leb 1 k l, le-leb k 7 C.few, e)

-- a coordinate with a minus
pub limited_none : (w : Found ℕ) → none ≡ limited pos w → none ≡ limited minus w
limited_none none e = refl
limited_none (found n t) e =
    bool_or (leb n farthest) (λ near. let no : none ≡ found (pos n) t = rw near at e in cc) (λ far. rw far)

pub record Negated (z : ℤ) (t : Text) (w : Found ℕ) : Type 0 where
  pub near : nat_abs z ≤ farthest
  pub is : found (neg_ℤ z) t ≡ limited minus w

pub negated : (z : ℤ) (t : Text) (w : Found ℕ) → found z t ≡ limited pos w → Negated z t w
negated z t none e = cc
negated z t (found n u) e =
    bool_or (leb n farthest)
    (λ near.
    let same : found z t ≡ found (pos n) u = rw near at e in
    let z-is : z ≡ pos n = cc in
    let t-is : t ≡ u = cc in
    rw (z-is, t-is) (record { near = leb-true n farthest near; is = rw near }))
    (λ far. let no : found z t ≡ none = rw far at e in cc)
