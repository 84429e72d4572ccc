-- `read_corners` turns as `several` does, and keeps the corners below the limit in the bytes as far as they have room.
use Rattle.std.proofs.Common.{ℕ, Bool, List}
use Rattle.off.specs.Words.{Text, natural}
use Rattle.off.specs.Plain.{Ring}
use Rattle.off.proofs.lines.Several.{Sofar, Placed}
use Rattle.off.proofs.lines.read_corners.Given as goal

pub record Taken (s : Text) (n limit : ℕ) (bytes : List ℕ) (rest : Text) (below : Bool) (l : ℕ) : Type 0 where
  pub ring : Ring
  pub sofar : Sofar natural n s l ring rest
  pub placed : Placed limit ring l bytes below

abbrev pub invariant-loop-l : goal.invariant-loop-l
invariant-loop-l v = Taken v.s v.n v.limit v.bytes v.rest v.below v.l
