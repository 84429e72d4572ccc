-- Reading undoes writing, word by word: a blank and a number or a coordinate are read as what they say.
use mathlib.Core.Path.{◌≡◌, refl, sym, ◌∙◌}
use mathlib.Core.Bool.{true, false}
use mathlib.Core.List.{[], ◌∷◌, ◌++◌, append_assoc}
use Prim.Native.Nat.{ℕ, zero, suc, ◌+◌, ◌-◌, ◌*◌, ◌/◌, ◌%◌, ◌^◌, ◌<◌, ◌≤◌}
use native.Mathlib.Nat.{pow-succ'}
use native.Mathlib.Omega.{arith}
use borrow.Author.Tests.{lt-ltb, le-ltb, le-leb, leb-true, ne_eqb}
use lib.Dec.{leb}
use lib.IntN.{ℤ, pos, negsuc, nat_abs}
use lib.ListN.{length, get_or, length-append}
use Rattle.maths.proofs.Cases.{lt_or, bool_or, no_eq, and_left, and_right, and_both}
use Rattle.rules.specs.Printed.{digits as decimals}
use Rattle.off.specs.Words.{Text, found, is_blank, skipped, word_ends, is_digit, the_digits, digits_from, number_here, natural, farthest, coordinate_here, coordinate}
use Rattle.off.specs.Exporting.{number, signed}

-- the byte of a digit
digit_byte : (d : ℕ) → d < 10 → is_digit (48 + d) ≡ true
unfolding is_digit
digit_byte d h = and_both (le-leb 0x30 (48 + d) (omega arith)) (le-leb (48 + d) 0x39 (omega arith))

-- a byte of a digit is no blank
digit_low : (b : ℕ) → is_digit b ≡ true → (48 ≤ b) × (b ≤ 57)
unfolding is_digit
digit_low b e = (leb-true 0x30 b (and_left _ _ e), leb-true b 0x39 (and_right (leb 0x30 b) _ e))

digit_no_blank : (b : ℕ) → is_digit b ≡ true → is_blank b ≡ false
unfolding is_blank
digit_no_blank b e =
    let low = (digit_low b e).0 in
    rw (ne_eqb b 0x20 (omega arith), ne_eqb b 0x09 (omega arith), ne_eqb b 0x0d (omega arith), ne_eqb b 0x0a (omega arith))

-- a text that begins with a digit has nothing to skip
begins_skipped : (t : Text) → is_digit (get_or t 0 0) ≡ true → skipped t ≡ t
unfolding skipped
begins_skipped [] e = absurd (omega (arith, (digit_low 0 e).0))
begins_skipped (b ∷ t) e = rw (digit_no_blank b e)

blank-skipped : (b : ℕ) (t : Text) → is_blank b ≡ true → is_digit (get_or t 0 0) ≡ true → skipped (b ∷ t) ≡ t
unfolding skipped
blank-skipped b t e d = rw e (begins_skipped t d)

minus-skipped : (b : ℕ) (t : Text) → is_blank b ≡ true → skipped (b ∷ (0x2d ∷ t)) ≡ 0x2d ∷ t
unfolding skipped is_blank
minus-skipped b t e = rw e

-- where a word ends, no digit follows
word_stops : (n k : ℕ) (t : Text) → word_ends t ≡ true → digits_from n k t ≡ the_digits n k t
unfolding digits_from word_ends
word_stops n k [] e = refl
word_stops n k (b ∷ t) e = bool_or (is_digit b) (λ d. no_eq (sym (digit_no_blank b d) ∙ e)) (λ d. rw d)

module _ (t : Text) where
  one_digit : (n k d : ℕ) → d < 10 → digits_from n k ((48 + d) ∷ t) ≡ digits_from (10 * n + d) (suc k) t
  unfolding digits_from
  one_digit n k d h = let e : 48 + d - 0x30 ≡ d = omega arith in rw (digit_byte d h, e)

-- the digits of m are read as m
module _ where
  decimals_read : (most m : ℕ) (t : Text) → m < 10 ^ suc most → digits_from 0 0 (decimals most m ++ t) ≡ digits_from m (length (decimals most m)) t
  decimals_read zero m t h =
      let e : m % 10 ≡ m = omega arith in
      let z : 10 * 0 + m ≡ m = omega arith in
      rw e (one_digit t 0 0 m (omega arith) ∙ rw z)
  decimals_read (suc most) m t h = lt_or m 10
      (λ l. let z : 10 * 0 + m ≡ m = omega arith in rw (lt-ltb m 10 l) (one_digit t 0 0 m l ∙ rw z))
      (λ l.
      let e : 10 ^ suc (suc most) ≡ 10 * 10 ^ suc most = pow-succ' 10 (suc most) in
      let z : 10 * (m / 10) + m % 10 ≡ m = omega arith in
      let long : length (decimals most (m / 10)) + 1 ≡ suc (length (decimals most (m / 10))) = omega arith in
      rw (le-ltb m 10 l, append_assoc (decimals most (m / 10)) ((48 + m % 10) ∷ []) t, length-append, long)
      (decimals_read most (m / 10) ((48 + m % 10) ∷ t) (omega arith)
      ∙ one_digit t (m / 10) (length (decimals most (m / 10))) (m % 10) (omega arith) ∙ rw z))

  decimals_begin : (most m : ℕ) (t : Text) → is_digit (get_or (decimals most m ++ t) 0 0) ≡ true
  decimals_begin zero m t = digit_byte (m % 10) (omega arith)
  decimals_begin (suc most) m t = lt_or m 10
      (λ l. rw (lt-ltb m 10 l) (digit_byte m l))
      (λ l. rw (le-ltb m 10 l, append_assoc (decimals most (m / 10)) ((48 + m % 10) ∷ []) t) (decimals_begin most (m / 10) ((48 + m % 10) ∷ t)))

  decimals_some : (most m : ℕ) → (1 ≤ length (decimals most m)) × (length (decimals most m) ≤ suc most)
  decimals_some zero m = (omega arith, omega arith)
  decimals_some (suc most) m = lt_or m 10
      (λ l. rw (lt-ltb m 10 l) (omega arith, omega arith))
      (λ l. let s = decimals_some most (m / 10) in rw (le-ltb m 10 l, length-append) (omega (arith, s.0), omega (arith, s.1)))

module _ (m : ℕ) (t : Text) where
  number_begins : is_digit (get_or (number m ++ t) 0 0) ≡ true
  unfolding number
  number_begins = decimals_begin 6 m t

  number_read : m < 10_000_000 → word_ends t ≡ true → number_here (number m ++ t) ≡ found m t
  unfolding number number_here
  number_read h e =
      let s = decimals_some 6 m in
      rw (decimals_read 6 m t h, word_stops m (length (decimals 6 m)) t e, le-leb 1 (length (decimals 6 m)) s.0, le-leb (length (decimals 6 m)) 7 s.1, e)

  -- a blank, and a number
  pub natural_read : (b : ℕ) → is_blank b ≡ true → m < 10_000_000 → word_ends t ≡ true → natural (b ∷ (number m ++ t)) ≡ found m t
  unfolding natural
  natural_read b c h e = rw (blank-skipped b (number m ++ t) c number_begins) (number_read h e)

-- a blank, and a coordinate
pub coordinate_read : (z : ℤ) (t : Text) (b : ℕ) → is_blank b ≡ true → nat_abs z ≤ farthest → word_ends t ≡ true → coordinate (b ∷ (signed z ++ t)) ≡ found z t
unfolding coordinate coordinate_here signed
coordinate_read (pos n) t b c h e =
    let low = (digit_low (get_or (number n ++ t) 0 0) (number_begins n t)).0 in
    rw (blank-skipped b (number n ++ t) c (number_begins n t), ne_eqb (get_or (number n ++ t) 0 0) 0x2d (omega arith), number_read n t (omega arith) e, le-leb n farthest h)
coordinate_read (negsuc n) t b c h e =
    rw (minus-skipped b (number (suc n) ++ t) c, number_read (suc n) t (omega arith) e, le-leb (suc n) farthest h)
