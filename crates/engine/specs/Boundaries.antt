-- What the parts of the boundary call make, and what each needs.
use Rattle.std.specs.Prelude.{◌≡◌, cond, List, ℕ, ◌<◌, ◌≤◌, eqb, ℤ, pos, nat_abs, length, get_or}
use Rattle.maths.specs.Sums.{dot}
use Rattle.maths.specs.Tables.{table, entries}
use Rattle.rules.specs.Chains.{boundary_limit}

-- the first k columns of m, each times its coefficient, added
abbrev pub product : List ℤ → List ℤ → ℕ → List ℤ
product m c k = table 96 (λ r. dot k (λ j. entries m r j) (λ j. get_or c j (pos 0)))

-- the matrix of the dimension d, which is 1, 2 or 3
unfoldable pub matrix_of : ℕ → List ℤ → List ℤ → List ℤ → List ℤ
matrix_of d m1 m2 m3 = cond (eqb d 1) m1 (cond (eqb d 2) m2 m3)

-- a sum, an entry and a coefficient
pub record Term (x e v : ℤ) : Type 0 where
  pub small : nat_abs x ≤ 96_000_000
  pub unit : nat_abs e ≤ 1
  pub limit : nat_abs v ≤ boundary_limit

-- 96 sums, a column and its coefficient
pub record Terms (sums column : List ℤ) (v : ℤ) : Type 0 where
  pub size : length sums ≡ 96
  pub long : length column ≡ 96
  pub term : (i : ℕ) → i < 96 → Term (get_or sums i (pos 0)) (get_or column i (pos 0)) v

-- a matrix, a chain within the limit, and 96 places for its boundary
pub record Factors (m c out : List ℤ) : Type 0 where
  pub size : length m ≡ 9216
  pub long : length c ≡ 96
  pub room : length out ≡ 96
  pub units : (i j : ℕ) → nat_abs (entries m i j) ≤ 1
  pub limits : (i : ℕ) → i < 96 → nat_abs (get_or c i (pos 0)) ≤ boundary_limit
