-- `grid::removals::remove_in` meets its contract: in column c the rows from r up to i are the next ones, and past the last is nothing.
use mathlib.Core.List.{List}
use Prim.Native.Nat.{ℕ, ◌≤◌}
use lib.IntN.{ℤ}
use Rattle.maths.specs.Tables.{entries}
use Rattle.maths.specs.Sums.{up}
use Rattle.grid.proofs.Walks.{Down}
use Rattle.grid.proofs.removals.remove_in.Given as goal

-- the rows from r up to i are done
pub record Closing (c r i : ℕ) (m₀ m : List ℤ) : Type 0 where
  pub from : r ≤ i
  pub upto : i ≤ 95
  pub down : Down c i (λ i. entries m₀ (up r i) c) (entries m₀) m

abbrev pub invariant-loop-i : goal.invariant-loop-i
invariant-loop-i l = Closing l.c l.r l.i l.initial.m l.m
