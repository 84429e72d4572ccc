-- When two layers are the same; and the two halves of what makes a pattern good: how neighbouring layers fit, and what each column is by itself.
use mathlib.Core.Path.{◌≡◌, ap₂, fun_ext}
use mathlib.Core.Logic.{◌≢◌}
use Prim.Native.Nat.{ℕ, zero, suc, ◌<◌, ◌≤◌}
use native.Mathlib.Omega.{arith}
use lib.IntN.{pos, nat_abs}
use Rattle.maths.specs.Tables.{Entries}
use Rattle.maths.specs.Sums.{dot}
use Rattle.maths.proofs.Cases.{lt_or}
use Rattle.maths.proofs.Dots.{dot_0_l}
use Rattle.rules.specs.Complex.{Layer, Complex, Chain}
use Rattle.rules.specs.Good.{OneEach, Good}

-- a chain of n cells
abbrev pub Within : ℕ → Chain → Type 0
Within n c = (i : ℕ) → n ≤ i → c i ≡ pos 0

pub face_below : {n : ℕ} {c : Chain} → Within n c → (i : ℕ) → c i ≢ pos 0 → i < n
face_below {n} w i h = lt_or i n (λ l. l) (λ l. absurd (h (w i l)))

pub same_layer : {A B : Layer} → A.n ≡ B.n → ((i j : ℕ) → A.d i j ≡ B.d i j) → A ≡ B
same_layer e h = ap₂ (λ (n : ℕ) (D : Entries). record { n = n; d = D }) e (fun_ext λ i. fun_ext λ j. h i j)

-- what holds of a layer and the next above it
pub record Fit (A B : Layer) : Type 0 where
  pub few : B.n ≤ 96
  pub rows : (i j : ℕ) → A.n ≤ i → B.d i j ≡ pos 0
  pub columns : (i j : ℕ) → B.n ≤ j → B.d i j ≡ pos 0
  pub null : (r j : ℕ) → dot 96 (λ i. A.d r i) (λ i. B.d i j) ≡ pos 0

-- the layers fit, corners have no faces, and nothing is above blocks
pub record Frame (X : Complex) : Type 0 where
  pub few : (X 0).n ≤ 96
  pub ground : (i j : ℕ) → (X 0).d i j ≡ pos 0
  pub fit : (k : ℕ) → Fit (X k) (X (suc k))
  pub top : (k : ℕ) → 3 < k → (X k).n ≡ 0

-- every column is one of its dimension
pub record Cells (X : Complex) : Type 0 where
  pub units : (k i j : ℕ) → nat_abs ((X k).d i j) ≤ 1
  pub seams : (j : ℕ) → j < (X 1).n → OneEach (λ i. (X 1).d i j)
  pub faces : (k j : ℕ) → j < (X (suc (suc k))).n → (i : ℕ) × ((X (suc (suc k))).d i j ≢ pos 0)

module _ {X : Complex} where
  pub frame_of : Good X → Frame X
  frame_of G = record {
    few = G.few 0;
    ground = G.ground;
    fit = λ k. record { few = G.few (suc k); rows = G.rows k; columns = G.columns (suc k); null = λ r j. null-at k r j };
    top = G.top;
  }
    where
      null-at : (k r j : ℕ) → dot 96 (λ i. (X k).d r i) (λ i. (X (suc k)).d i j) ≡ pos 0
      null-at zero r j = dot_0_l 96 _ (λ i h. G.ground r i)
      null-at (suc k) r j = G.null k r j

  -- a matrix of a good pattern is 0 from row 96 and from column 96 on
  pub within-rows : Good X → (k j : ℕ) → Within 96 (λ i. (X (suc k)).d i j)
  within-rows G k j i h = G.rows k i j (omega (arith, G.few k))

  pub within-columns : Good X → (k i : ℕ) → Within 96 (λ j. (X k).d i j)
  within-columns G k i j h = G.columns k i j (omega (arith, G.few k))

  pub few-at : Frame X → (k : ℕ) → (X k).n ≤ 96
  few-at F zero = F.few
  few-at F (suc k) = (F.fit k).few

  pub columns-at : Frame X → (k i j : ℕ) → (X k).n ≤ j → (X k).d i j ≡ pos 0
  columns-at F zero i j h = F.ground i j
  columns-at F (suc k) i j h = (F.fit k).columns i j h

  pub good_of : Frame X → Cells X → Good X
  good_of F C = record {
    few = few-at F;
    units = C.units;
    rows = λ k. (F.fit k).rows;
    columns = columns-at F;
    seams = C.seams;
    faces = C.faces;
    null = λ k. (F.fit (suc k)).null;
    ground = F.ground;
    top = F.top;
  }
