-- A number in decimal: its last digit, and how long it is.
use mathlib.Core.Path.{◌≡◌, refl, sym, ap}
use mathlib.Core.List.{[], ◌∷◌}
use Prim.Native.Nat.{ℕ, zero, suc, ◌+◌, ◌*◌, ◌/◌, ◌<◌, ◌≤◌, ◌^◌}
use native.Mathlib.Nat.{add-zero, pow-succ', pow-le-pow_right, one-le-pow}
use native.Mathlib.Numerals.{add-one}
use native.Mathlib.Omega.{arith}
use lib.Dec.{leb}
use lib.ListN.{length, length-append}
use mir.Val.{bool_byte}
use borrow.Author.Tests.{lt-ltb, le-ltb, le-leb, lt-leb}
use Rattle.maths.proofs.Cases.{lt_or}
use Rattle.rules.specs.Printed.{digits}
use Rattle.off.specs.Exporting.{number}

-- no more digits than are allowed
digits-length : (most n : ℕ) → length (digits most n) ≤ suc most
digits-length zero n = omega arith
digits-length (suc most) n = lt_or n 10
    (λ h. rw (lt-ltb n 10 h) (omega arith))
    (λ h. rw (le-ltb n 10 h, length-append) (omega (arith, digits-length most (n / 10))))

-- one digit for each power of 10
digits_long : (most k n : ℕ) → k ≤ most → 10 ^ k ≤ n → n < 10 ^ suc k → length (digits most n) ≡ suc k
digits_long zero zero n m l h = refl
digits_long zero (suc k) n m l h = absurd (omega arith)
digits_long (suc most) zero n m l h = rw (lt-ltb n 10 (omega arith))
digits_long (suc most) (suc k) n m l h =
    let e : 10 ^ suc (suc k) ≡ 10 * 10 ^ suc k = pow-succ' 10 (suc k) in
    let f : 10 ^ suc k ≡ 10 * 10 ^ k = pow-succ' 10 k in
    let some : 1 ≤ 10 ^ k = one-le-pow k 10 (omega arith) in
    rw (le-ltb n 10 (omega arith), length-append, digits_long most k (n / 10) (omega arith) (omega arith) (omega arith)) (omega arith)

number_one : (n : ℕ) → n < 10 → number n ≡ (48 + n) ∷ []
unfolding number
number_one n h = rw (lt-ltb n 10 h)

-- how long a number is
pub number_short : (n : ℕ) → n < 10 → 1 ≡ length (number n)
number_short n h = rw (number_one n h)

pub number-long : (k n : ℕ) → k ≤ 6 → 10 ^ k ≤ n → n < 10 ^ suc k → suc k ≡ length (number n)
unfolding number
number-long k n m l h = sym (digits_long 6 k n m l h)

-- one digit, and one for each of the k powers of 10 after it that the number reaches
unfoldable pub digits_reached : ℕ → ℕ → ℕ
digits_reached zero n = 1
digits_reached (suc k) n = digits_reached k n + bool_byte (leb (10 ^ suc k) n)

all_reached : (k n : ℕ) → 10 ^ k ≤ n → digits_reached k n ≡ suc k
unfolding digits_reached
all_reached zero n h = refl
all_reached (suc k) n h =
    let before : 10 ^ k ≤ n = omega (arith, pow-le-pow_right {n = 10} (omega arith) {i = k} {j = suc k} (omega arith)) in
    rw (le-leb (10 ^ suc k) n h, add-one) (ap suc (all_reached k n before))

pub reached_length : (k n : ℕ) → k ≤ 6 → n < 10 ^ suc k → digits_reached k n ≡ length (number n)
unfolding digits_reached
reached_length zero n m h = number_short n h
reached_length (suc k) n m h = lt_or n (10 ^ suc k)
    (λ l. rw (lt-leb (10 ^ suc k) n l, add-zero) (reached_length k n (omega arith) l))
    (λ l. rw (all_reached (suc k) n l) (number-long (suc k) n m l h))

pub number-most : (n : ℕ) → length (number n) ≤ 7
unfolding number
number-most n = digits-length 6 n
