-- `clear_coordinates` fills the list, and so each of its 288 places.
use mathlib.Core.Path.{◌≡◌}
use lib.IntN.{pos}
use lib.ListN.{length, replicate, length-replicate, get_or-replicate}
use Rattle.maths.proofs.Tables.{is-table}
use Rattle.off.proofs.reader.clear_coordinates.Goals as goal

pub returns : goal.returns
returns c =
    let filled : c.fill.new.self ≡ replicate (length c.args.list.now) (pos 0) = c.fill.ensures.after (λ y e. e) in
    rw (filled, c.requires) (is-table (pos 0) (length-replicate 288 (pos 0)) (λ k h. get_or-replicate 288 k (pos 0) (pos 0) h))
