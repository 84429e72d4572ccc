-- The test of a good pattern in the parts that are tested one after the other, and what each needs.
use Rattle.std.specs.Prelude.{◌≡◌, Bool, not, ◌&&◌, List, ℕ, ◌≤◌, leb, ℤ, pos}
use Rattle.maths.specs.Tests.{all}
use Rattle.maths.specs.Tables.{entries}
use Rattle.grid.specs.Grid.{Units}
use Rattle.rules.specs.declared.counts.Counts.{Counts}
use Rattle.rules.specs.Counts.{count_of}
use Rattle.rules.specs.Complex.{Pattern, Complex}
use Rattle.rules.specs.Good.{one_each, all_zero, in_place, closes}
use Rattle.good.specs.Columns.{Matrix}

-- every count is at most 96
unfoldable pub few_cells : Counts → Bool
few_cells c = all 4 (λ k. leb (count_of c k) 96)

-- all entries are in place
unfoldable pub all_in_place : Complex → Bool
all_in_place X = in_place (X 0).n (X 1) && in_place (X 1).n (X 2) && in_place (X 2).n (X 3)

-- the seams have their ends, panels and blocks have faces, and both products are zero
unfoldable pub formed : Complex → Bool
formed X =
    all (X 1).n (λ j. one_each (λ i. (X 1).d i j))
    && (all (X 2).n (λ j. not (all_zero (λ i. (X 2).d i j))) && all (X 3).n (λ j. not (all_zero (λ i. (X 3).d i j))))
    && (all (X 2).n (λ j. closes (X 0).n (X 1) (λ i. (X 2).d i j)) && all (X 3).n (λ j. closes (X 1).n (X 2) (λ i. (X 3).d i j)))

-- what is left of the test where the cells are few
unfoldable pub sound : Complex → Bool
sound X = all_in_place X && formed X

-- three stored matrices, with four counts that are at most 96
pub record Stored (p : Pattern) : Type 0 where
  pub first : Matrix p.m1 (count_of p.counts 0) (count_of p.counts 1)
  pub second : Matrix p.m2 (count_of p.counts 1) (count_of p.counts 2)
  pub third : Matrix p.m3 (count_of p.counts 2) (count_of p.counts 3)

-- a matrix with its entries in place: -1, 0 or 1, and 0 past the rows in use
pub record Placed (m : List ℤ) (rows : ℕ) : Type 0 where
  pub units : Units m
  pub past : (i j : ℕ) → rows ≤ i → entries m i j ≡ pos 0

-- all three
pub record AllPlaced (p : Pattern) : Type 0 where
  pub first : Placed p.m1 (count_of p.counts 0)
  pub second : Placed p.m2 (count_of p.counts 1)
  pub third : Placed p.m3 (count_of p.counts 2)
