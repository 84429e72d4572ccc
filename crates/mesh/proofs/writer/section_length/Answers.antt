-- `mesh::writer::section_length` meets its contract: a count, and the lengths of the cells added.
use mathlib.Core.Path.{◌≡◌, ◌∙◌}
use Prim.Native.Nat.{ℕ}
use native.Mathlib.Omega.{arith}
use borrow.Author.Rules.{rules}
use lib.ListN.{length}
use Rattle.std.specs.List.{range_with_len}
use Rattle.std.proofs.lemmas.Iterator.{YieldsList-from_range, YieldsList-from_map}
use Rattle.std.proofs.lemmas.Iterator.Adapters.{fits_from_length, at_most_from_yields_List}
use Rattle.std.proofs.lemmas.Iterator.Consumers.{sum_by_from_yields_List}
use Rattle.std.proofs.lemmas.List.FromFn.{length-range_with_len}
use Rattle.maths.specs.Tables.{column}
use Rattle.rules.specs.Mesh.{write_cell}
use Rattle.rules.proofs.Calls.Limits.{cell-length}
use Rattle.mesh.specs.Writing.{cell_texts}
use Rattle.mesh.proofs.CellTexts.{cells-length, cells_most}
use Rattle.mesh.proofs.writer.section_length.Goals as goal
use Rattle.mesh.proofs.writer.section_length.Goals.{After-sum}

pub sum-requires-clause-fits : goal.sum-requires-clause-fits
sum-requires-clause-fits c =
    let a = c.args in
    fits_from_length _ _ 96 _ (at_most_from_yields_List (YieldsList-from_range 0 a.n a.n (cc) (omega arith)) (omega (arith, length-range_with_len 0 a.n)))
    c.map.ensures.closure (omega arith)
    (λ x r q k. let e : r ≡ length (write_cell a.k (column a.m.now x)) = search rules in (search rules, omega (arith, e, cell-length a.k (column a.m.now x))))

added : (c : After-sum) → c.sum.result ≡ length (cell_texts c.args.k c.args.m.now c.args.n)
added c =
    let a = c.args in
    let long = λ (j : ℕ). length (write_cell a.k (column a.m.now j)) in
    sum_by_from_yields_List long (range_with_len 0 a.n) c.map.result _ c.sum.ensures.ran
    (YieldsList-from_map {s = c.map.result} _ long (YieldsList-from_range 0 a.n a.n (cc) (omega arith)) c.map.ensures.closure (λ x r q k. (search rules, search rules)))
    ∙ cells-length a.k a.m.now a.n

pub overflow_add-result : goal.overflow_add-result
overflow_add-result c = omega (arith, added (goal.at.overflow_add-result c).After-sum, cells_most c.args.k c.args.m.now c.args.n)

pub returns : goal.returns
returns c = omega (arith, added (goal.at.returns c).After-sum)
