-- Each piece has room in a buffer of 38,400 bytes, and ends inside it.
use mathlib.Core.Path.{◌≡◌, refl, sym, ap}
use mathlib.Core.List.{List}
use Prim.Native.Nat.{ℕ, ◌≤◌}
use native.Mathlib.Omega.{arith}
use lib.ListN.{length, take, length-take}
use lib.Seq.{length-take-le}
use Rattle.std.specs.Prelude.{Result, Ok, Err}
use Rattle.maths.specs.Buffers.{Put}
use Rattle.rules.specs.declared.counts.Counts.{Counts}
use Rattle.rules.specs.declared.refusals.Stop.{Stop}
use Rattle.rules.specs.Counts.{count_of}
use Rattle.rules.specs.Complex.{Pattern}
use Rattle.rules.specs.Calls.{lent}
use Rattle.listing.specs.Pieces.{LinesRoom}
use Rattle.printing.specs.declared.run.InputRun.{InputRun}
use Rattle.printing.specs.Input.{run_told, HeadRoom}
use Rattle.printing.proofs.Sizes.{Printable}

-- the counts that are told are those of the pattern
pub told_counts : (r : Result InputRun Stop) (c : Counts) → (run_told r c).counts ≡ c
told_counts (Ok x) c = refl
told_counts (Err stop) c = refl

module _ (r : Result InputRun Stop) (q : Pattern) (p : Printable (lent (run_told r q.counts) q)) (out : List ℕ) (long : 38400 ≤ length out) where
  pub head-room : HeadRoom (run_told r q.counts) q.m1 out
  head-room = record {
    seams = record { columns = record { size = p.sized.size1; few = p.seams }; room = omega arith };
    mesh-place = p.mesh-place;
    script-place = p.script-place;
  }

  pub panel-room : LinesRoom 400 q.m2 (count_of q.counts 2) out 0
  panel-room = record { columns = record { size = p.sized.size2; few = rw (told_counts r q.counts) at p.panels }; room = omega arith }

  pub block_room : LinesRoom 400 q.m3 (count_of q.counts 3) out 0
  block_room = record { columns = record { size = p.sized.size3; few = rw (told_counts r q.counts) at p.blocks }; room = omega arith }

-- what a piece at the front leaves of the buffer can be lent up to its end
module _ {x y t : List ℕ} {n : ℕ} (p : Put x 0 t n y) where
  pub piece_inside : n ≤ length y
  piece_inside = omega (arith, p.place, simp length-take at (ap length p.upto))

  pub piece_length : n ≡ length (take n y)
  piece_length = sym (length-take-le n y piece_inside)
