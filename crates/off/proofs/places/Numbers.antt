-- The numbers of an OFF text are those that the machine's types print.
use Rattle.std.proofs.Common.{◌≡◌, ap, ℕ, suc, ◌<◌, ◌∷◌, ℤ, pos, negsuc, nat_abs, arith}
use Rattle.std.specs.Fmt.{decimal, signed_decimal}
use Rattle.buffer.proofs.Decimals.{decimal-digits}
use Rattle.off.specs.Exporting.{number, signed}

pub number-is : (n : ℕ) → n < 10_000_000 → decimal n ≡ number n
unfolding number
number-is n h = decimal-digits 6 n h (omega arith)

pub signed-is : (z : ℤ) → nat_abs z < 10_000_000 → signed_decimal z ≡ signed z
unfolding signed
signed-is (pos n) h = number-is n h
signed-is (negsuc n) h = ap (λ t. 45 ∷ t) (number-is (suc n) h)
