-- `grid::changes::clear` meets its contract: every place is filled.
use mathlib.Core.Path.{◌≡◌, ◌∙◌}
use Prim.Native.Nat.{◌+◌, ◌*◌}
use lib.IntN.{pos}
use lib.ListN.{length, replicate}
use Rattle.grid.proofs.Written.{by_place, zeros}
use Rattle.grid.proofs.changes.clear.Goals as goal

pub returns : goal.returns
returns c =
    let filled : c.fill.new.self ≡ replicate (length c.args.m.now) (pos 0) = c.fill.ensures.after (λ y e. e) in
    by_place (c.fill.ensures.len ∙ c.requires) (λ i j hi hj. rw filled (zeros (length c.args.m.now) (96 * j + i)))
