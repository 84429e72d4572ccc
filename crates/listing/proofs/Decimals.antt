-- A number in decimal: its text is the one that the machine's types print, and how long it is.
use Rattle.std.proofs.Common.{◌≡◌, ap, ℕ, suc, ◌<◌, ◌≤◌, ◌∷◌, ℤ, pos, negsuc, length, arith}
use lib.Signed.{mag}
use Rattle.std.specs.Fmt.{decimal as printed, signed_decimal}
use Rattle.std.proofs.lemmas.Fmt.{length-decimal-le}
use Rattle.rules.specs.Printed.{decimal, whole}
use Rattle.buffer.proofs.Decimals.{decimal-digits}

pub decimal-is : (n : ℕ) → n < 100_000 → printed n ≡ decimal n
unfolding decimal
decimal-is n h = decimal-digits 4 n h (omega arith)

pub whole-is : (z : ℤ) → mag z < 99_999 → signed_decimal z ≡ whole z
unfolding whole
whole-is (pos n) h = decimal-is n (omega arith)
whole-is (negsuc n) h = ap (λ t. 45 ∷ t) (decimal-is (suc n) (omega arith))

-- a number below 100 has at most two digits
pub decimal_2 : (n : ℕ) → n < 100 → length (decimal n) ≤ 2
decimal_2 n h = rw (← decimal-is n (omega arith)) (length-decimal-le 2 n (omega arith) h (omega arith))
