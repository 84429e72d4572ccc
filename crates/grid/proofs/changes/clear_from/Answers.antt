-- `grid::changes::clear_from` meets its contract: the places from column c on are filled.
use mathlib.Core.Path.{◌≡◌, sym, ◌∙◌}
use Prim.Native.Nat.{◌+◌, ◌-◌, ◌*◌}
use native.Mathlib.Omega.{arith}
use lib.IntN.{pos}
use lib.ListN.{replicate}
use lib.Dec.{ltb}
use borrow.Author.Tests.{ltb-true, ltb-false}
use Rattle.std.proofs.Common.{rules}
use Rattle.std.proofs.lemmas.List.{places}
use Rattle.maths.proofs.Cases.{is-cond}
use Rattle.maths.proofs.Tables.{entries_in}
use Rattle.grid.specs.Grid.{over, cleared_from}
use Rattle.grid.proofs.Written.{by_place, read_before, read_written, zeros}
use Rattle.grid.proofs.changes.clear_from.Goals as goal

pub returns : goal.returns
unfolding over cleared_from
returns c =
    let x = c.args in
    let at = 96 * x.c in
    let filled : c.fill.new.self ≡ replicate (9216 - at) (pos 0) = search rules in
    by_place (search (rules, places)) (λ i j hi hj. is-cond (ltb j x.c)
    (λ q. read_before at _ x.m.now _ (96 * j + i) (omega arith) (omega (arith, ltb-true j x.c q)) ∙ sym (entries_in x.m.now i j hi hj))
    (λ q.
    read_written at _ x.m.now _ (96 * j + i - at) (96 * j + i) (omega arith) (omega arith) (omega (arith, ltb-false j x.c q))
    ∙ rw filled (zeros (9216 - at) (96 * j + i - at))))
