-- `listing::lines::put_labelled` meets its contract: the number is put after the label.
use native.Mathlib.Omega.{arith}
use Rattle.std.proofs.lemmas.Fmt.{length-decimal-le}
use Rattle.maths.proofs.Buffers.{two_pieces}
use Rattle.listing.proofs.Decimals.{decimal-is}
use Rattle.listing.proofs.lines.put_labelled.Goals as goal

pub put_decimal-requires : goal.put_decimal-requires
put_decimal-requires c = omega (arith, length-decimal-le 5 c.args.n (omega arith) (omega arith) (omega arith))

pub returns : goal.returns
returns c =
    rw (← decimal-is c.args.n (omega arith))
    (record { put = two_pieces c.put_all-next.ensures c.put_decimal.ensures; most = omega (arith, length-decimal-le 5 c.args.n (omega arith) (omega arith) (omega arith)) })
