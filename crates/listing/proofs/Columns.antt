-- A line for each column, put one after the other: where all have room, the next has.
use mathlib.Core.List.{List}
use Prim.Native.Nat.{ℕ, ◌+◌, ◌*◌, ◌<◌, ◌≤◌}
use native.Mathlib.Omega.{arith}
use lib.IntN.{ℤ}
use Rattle.maths.specs.Tables.{column}
use Rattle.maths.specs.Buffers.{Put}
use Rattle.maths.proofs.Buffers.{Pieces, pieces_none, pieces_more, pieces_all}
use Rattle.rules.specs.Complex.{Chain}
use Rattle.listing.specs.Lines.{PutWithin}
use Rattle.listing.specs.Pieces.{column_lines}

-- the lines of the first j of n columns, each of at most k bytes
pub record Begun (f : ℕ → Chain → List ℕ) (k : ℕ) (m : List ℤ) (n : ℕ) (before : List ℕ) (at j next : ℕ) (after : List ℕ) : Type 0 where
  pub pieces : Pieces (λ j. f j (column m j)) n j before at next after
  pub most : next ≤ at + j * k

module _ {f : ℕ → Chain → List ℕ} {k : ℕ} {m : List ℤ} {n : ℕ} where
  pub begun_none : (out : List ℕ) (at : ℕ) → Begun f k m n out at 0 at out
  begun_none out at = record { pieces = pieces_none out at; most = omega arith }

  module _ {x y : List ℕ} {at j next : ℕ} (b : Begun f k m n x at j next y) where
    pub begun_more : {z : List ℕ} {after : ℕ} → j < n → PutWithin k y next (f j (column m j)) after z → Begun f k m n x at (j + 1) after z
    begun_more h p = record { pieces = pieces_more b.pieces h p.put; most = omega arith }

    pub begun_all : n ≤ j → Put x at (column_lines f n m) next y
    unfolding column_lines
    begun_all h = pieces_all b.pieces h
