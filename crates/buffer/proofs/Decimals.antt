-- The decimal text of a number is the one that the rules have, where that allows as many digits as the number has.
use Rattle.std.proofs.Common.{◌≡◌, refl, sym, List, [], ◌∷◌, ◌++◌, ℕ, zero, suc, ◌+◌, ◌/◌, ◌%◌, ◌^◌, ◌<◌, ◌≤◌, arith}
use Rattle.std.specs.Fmt.{decimal}
use Rattle.std.proofs.lemmas.Fmt.{AppendsLastDigit, decimal_from_appends, length-decimal-le}
use borrow.Author.Tests.{lt-ltb, le-ltb}
use Rattle.rules.specs.Printed.{digits}

-- k digits at most
abbrev at_most : ℕ → ℕ → List ℕ
at_most zero n = []
at_most (suc k) n = digits k n

appends : AppendsLastDigit at_most
appends = record { one = one; more = more }
  where
    one : (k n : ℕ) → n < 10 → digits k n ≡ (48 + n) ∷ []
    one zero n h = let e : n % 10 ≡ n = omega arith in rw e
    one (suc k) n h = rw (lt-ltb n 10 h)

    more : (k n : ℕ) → 10 ≤ n → digits k n ≡ at_most k (n / 10) ++ ((48 + n % 10) ∷ [])
    more zero n h = refl
    more (suc k) n h = rw (le-ltb n 10 h)

pub decimal-digits : (k n : ℕ) → n < 10 ^ suc k → n < 2 ^ 64 → decimal n ≡ digits k n
decimal-digits k n h fits = sym (decimal_from_appends at_most appends (suc k) n fits (length-decimal-le (suc k) n (omega arith) h fits))
