-- The corners of a list of coordinates, three by three: each is in range where all are, and its line is that of the list.
use mathlib.Core.Path.{◌≡◌, refl, ap, ◌∙◌}
use mathlib.Core.List.{List, []}
use Prim.Native.Nat.{ℕ, zero, suc, ◌+◌, ◌*◌, ◌/◌, ◌<◌}
use native.Mathlib.Nat.{add-zero}
use native.Mathlib.Omega.{arith}
use lib.Dec.{leb}
use lib.IntN.{ℤ, pos, nat_abs}
use lib.ListN.{length, get_or, take, drop, length-take, length-drop}
use lib.Seq.{get_or-take, get_or-drop, drop-drop}
use borrow.Author.Tests.{leb-true}
use Rattle.std.specs.Simd.{first_chunks}
use Rattle.maths.proofs.Tests.{all-at}
use Rattle.off.specs.Words.{farthest}
use Rattle.off.specs.Exporting.{corner_line, coordinates_near}
use Rattle.off.specs.Writing.{Near, NearCorner}

-- corner i of a list
abbrev pub corner_of : List ℤ → ℕ → List ℤ
corner_of list i = take 3 (drop (3 * i) list)

pub chunk-is : (m : ℕ) (list : List ℤ) (i : ℕ) (d : List ℤ) → i < m → get_or (first_chunks 3 m list) i d ≡ corner_of list i
chunk-is zero list i d h = absurd (omega arith)
chunk-is (suc m) list zero d h = refl
chunk-is (suc m) list (suc i) d h =
    let next : 3 + 3 * i ≡ 3 * suc i = omega arith in
    chunk-is m (drop 3 list) i d (omega arith) ∙ ap (take 3) (drop-drop (3 * i) 3 list ∙ ap (λ n. drop n list) next)

coordinate-is : (list : List ℤ) (i k : ℕ) → k < 3 → get_or (corner_of list i) k (pos 0) ≡ get_or list (3 * i + k) (pos 0)
coordinate-is list i k h = get_or-take 3 (drop (3 * i) list) k (pos 0) h ∙ get_or-drop (3 * i) list k (pos 0)

pub line-is : (list : List ℤ) (i : ℕ) → corner_line (corner_of list i) 0 ≡ corner_line list i
unfolding corner_line
line-is list i = rw (coordinate-is list i 0 (omega arith), coordinate-is list i 1 (omega arith), coordinate-is list i 2 (omega arith), add-zero)

pub near-at : {list : List ℤ} {n : ℕ} → Near list n → (i : ℕ) → i < n → NearCorner (corner_of list i)
unfolding coordinates_near
near-at {list} {n} near i h = record {
  size = simp (length-take, length-drop) (omega (arith, near.size, near.few));
  near = λ k l. rw (coordinate-is list i k l) (leb-true (nat_abs (get_or list (3 * i + k) (pos 0))) farthest
      (all-at (3 * n) (λ i. leb (nat_abs (get_or list i (pos 0))) farthest) near.near (3 * i + k) (omega arith)));
}

-- the corners of 288 coordinates, as arrays
module _ {list : List ℤ} {n : ℕ} (near : Near list n) {chunks : List (List ℤ)} (e : chunks ≡ first_chunks 3 (length list / 3) list) where
  pub corner-at : (i : ℕ) (d : List ℤ) → i < n → get_or chunks i d ≡ corner_of list i
  corner-at i d h = rw e (chunk-is (length list / 3) list i d (omega (arith, near.size, near.few)))

  pub line-at : (i : ℕ) → i < n → corner_line (get_or chunks i []) 0 ≡ corner_line list i
  line-at i h = rw (corner-at i [] h) (line-is list i)
