-- `off::lengths::head_length` meets its contract: three numbers, and seven bytes about them.
use native.Mathlib.Omega.{arith}
use Rattle.off.proofs.lengths.Decimal.{number-most}
use Rattle.off.proofs.lengths.LineLengths.{head-length-is}
use Rattle.off.proofs.lengths.head_length.Goals as goal

pub overflow_add-result : goal.overflow_add-result
overflow_add-result c = omega (arith, number-most c.args.corners, number-most c.args.panels, number-most c.args.seams)

pub overflow_add-result-2 : goal.overflow_add-result-2
overflow_add-result-2 c = omega (arith, number-most c.args.corners, number-most c.args.panels, number-most c.args.seams)

pub overflow_add-result-3 : goal.overflow_add-result-3
overflow_add-result-3 c = omega (arith, number-most c.args.corners, number-most c.args.panels, number-most c.args.seams)

pub returns : goal.returns
returns c = let a = c.args in omega (arith, head-length-is a.corners a.panels a.seams)
