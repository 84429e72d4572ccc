-- `operators::faces::draw_pairs` meets its contract: after k turns the first k pairs are added up, and the others are left.
use mathlib.Core.Path.{◌≡◌}
use Prim.Native.Nat.{◌*◌}
use lib.ListN.{length, drop}
use Rattle.std.specs.Slice.Iter.{chunks_exact_rest, chunks_exact_size}
use Rattle.operators.specs.Column.{pairs_of}
use Rattle.operators.proofs.make.Columns.{Summed}
use Rattle.operators.proofs.faces.draw_pairs.Given as goal

abbrev pub invariant-loop-pair : goal.invariant-loop-pair
invariant-loop-pair l = record {
  size : chunks_exact_size l.pair-iterator ≡ 2;
  rest : chunks_exact_rest l.pair-iterator ≡ drop (2 * length l.yielded) l.pairs;
  summed : Summed (pairs_of l.pairs) l.n (length l.yielded) l.column;
}
