-- A stored pattern and one of its cells, part by part, and the two kinds of answer.
use mathlib.Core.Path.{◌≡◌, sym, ap}
use mathlib.Core.List.{List}
use Prim.Native.Nat.{ℕ, zero, suc, ◌<◌, ◌≤◌}
use native.Mathlib.Omega.{arith}
use lib.IntN.{ℤ}
use lib.ListN.{length}
use Rattle.maths.specs.Tables.{entries, tab}
use Rattle.maths.proofs.Tables.{tab-entries}
use Rattle.grid.specs.Grid.{UnitLine, Units}
use Rattle.rules.specs.declared.counts.Counts.{Counts}
use Rattle.rules.specs.Counts.{count_of}
use Rattle.rules.specs.Refusals.{accepted}
use Rattle.rules.specs.Complex.{Pattern, Complex, complex, counts_of, stored, pattern, Sized}
use Rattle.rules.specs.Operators.{Outcome}
use Rattle.rules.specs.Calls.{lent, applied}
use Rattle.rules.specs.Good.{Held}
use Rattle.rules.proofs.Storage.Stored.{count-is, stored-complex}
use Rattle.operators.specs.Cells.{Dimension, Cell}
use Rattle.operators.specs.Split.{Fine}

-- there is no cell of that number
pub record Absent (p : Pattern) (dim cell : ℕ) : Type 0 where
  pub beyond : (complex p dim).n ≤ cell

-- a number against the count of its dimension
module _ {least most dim : ℕ} (D : Dimension least most dim) (l : most ≤ 3) {p : Pattern} {cell : ℕ} where
  pub absent : count_of p.counts dim ≤ cell → Absent p dim cell
  absent h = record { beyond = rw (count-is p dim (omega (arith, D.high))) h }

  pub found : Held p → cell < count_of p.counts dim → Cell least most p dim cell
  found H h = record { held = H; range = D; there = rw (count-is p dim (omega (arith, D.high))) h }

-- a pattern is stored where its counts and its three matrices are
pub stored_is : (Y : Complex) {c : Counts} {m1 m2 m3 : List ℤ}
    → c ≡ counts_of Y → m1 ≡ tab (Y 1).d → m2 ≡ tab (Y 2).d → m3 ≡ tab (Y 3).d → pattern c m1 m2 m3 ≡ stored Y
stored_is Y e e1 e2 e3 = λ i. record { counts = e i; m1 = e1 i; m2 = e2 i; m3 = e3 i }

-- the matrix above dimension k, which has the rows of its cells
abbrev pub above : Pattern → ℕ → List ℤ
above p zero = p.m1
above p (suc zero) = p.m2
above p (suc (suc k)) = p.m3

-- the parts that do not change
module _ {p : Pattern} (S : Sized p) where
  pub same_counts : p.counts ≡ counts_of (complex p)
  same_counts = ap (λ q. q.counts) (sym (stored-complex p S))

  long : (k : ℕ) → length (above p k) ≡ 9216
  long zero = S.size1
  long (suc zero) = S.size2
  long (suc (suc k)) = S.size3

  pub same : (k : ℕ) → above p k ≡ tab (entries (above p k))
  same k = sym (tab-entries (above p k) (long k))

-- the matrices of a good pattern
pub fine : {p : Pattern} → Held p → (k : ℕ) → Fine (above p k)
fine {p} H k = record { size = long H.sized k; units = units k }
  where
    units : (k : ℕ) → Units (above p k)
    units zero = record { unit = H.good.units 1 }
    units (suc zero) = record { unit = H.good.units 2 }
    units (suc (suc k)) = record { unit = H.good.units 3 }

-- a cell's number is that of a row or column of each matrix
module _ {least most : ℕ} {p : Pattern} {dim cell : ℕ} (h : Cell least most p dim cell) where
  cell-low : cell < 96
  cell-low = omega (arith, h.there, h.held.good.few dim)

  pub unit : (k : ℕ) → UnitLine (above p k) cell
  unit k = let f = fine h.held k in record { size = f.size; inside = cell-low; units = f.units }

-- the outcome o is a refusal by r, which changes nothing
abbrev pub Refuses : Pattern → ℕ → Outcome → Type 0
Refuses p r o = lent (record { counts = p.counts; refusal = r }) p ≡ applied p o

-- the outcome o is accepted and leaves q
abbrev pub Leaves : Pattern → Pattern → Outcome → Type 0
Leaves p q o = lent (record { counts = q.counts; refusal = accepted }) q ≡ applied p o
