-- `operators::faces::draw` meets its contract: what is listed depends on the dimension.
use mathlib.Core.Path.{◌∙◌}
use Prim.Native.Nat.{ℕ}
use native.Mathlib.Omega.{arith}
use lib.ListN.{length-take}
use Rattle.operators.proofs.make.Bytes.{seam_there, pairs-there, count-there, count-few, corner_drawn, seam_drawn, pairs_drawn}
use Rattle.operators.proofs.faces.draw.Goals as goal

pub bounds-s-list : goal.bounds-s-list
bounds-s-list c = omega (arith, seam_there c.requires.bytes c.in-1.is)

pub overflow_add-list : goal.overflow_add-list
overflow_add-list c = omega (arith, seam_there c.requires.bytes c.in-1.is)

pub bounds-s-list-in-1 : goal.bounds-s-list-in-1
bounds-s-list-in-1 c = seam_there c.requires.bytes c.in-1.is

pub overflow_add-first : goal.overflow_add-first
overflow_add-first c = omega (arith, pairs-there c.requires.bytes (omega arith))

pub bounds-s-list-in_default : goal.bounds-s-list-in_default
bounds-s-list-in_default c = count-there c.requires.bytes (omega arith)

pub overflow_add-first-in_default : goal.overflow_add-first-in_default
overflow_add-first-in_default c = omega (arith, pairs-there c.requires.bytes (omega arith))

pub slice_bounds-draw_pairs-end : goal.slice_bounds-draw_pairs-end
slice_bounds-draw_pairs-end c = omega (arith, pairs-there c.requires.bytes (omega arith))

pub draw_pairs-requires-clause-short : goal.draw_pairs-requires-clause-short
draw_pairs-requires-clause-short c = omega (arith, count-few c.requires.bytes (omega arith), length-take {A = ℕ})

pub returns-in-0 : goal.returns-in-0
returns-in-0 c = corner_drawn _ _ _ _ c.in-0.is

pub returns-in-1 : goal.returns-in-1
returns-in-1 c = c.draw_seam.ensures ∙ seam_drawn _ _ _ _ c.in-1.is

pub returns-in_default : goal.returns-in_default
returns-in_default c = c.draw_pairs.ensures ∙ pairs_drawn _ _ _ _ (omega arith) (pairs-there c.requires.bytes (omega arith))
