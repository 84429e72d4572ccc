-- The sides of a ring in a column of panels: each side that is put adds its seam, which no side before it had.
use mathlib.Core.Path.{◌≡◌, sym, ◌∙◌}
use mathlib.Core.Logic.{◌≢◌}
use mathlib.Core.Bool.{cond}
use mathlib.Core.List.{List}
use Prim.Native.Nat.{ℕ, pred, ◌+◌, ◌*◌, ◌^◌, ◌<◌, ◌≤◌}
use native.Mathlib.Omega.{arith}
use borrow.Author.Tests.{ne_eqb}
use lib.Dec.{eqb}
use lib.IntN.{ℤ, pos, nat_abs, ◌*ℤ◌, *ℤ-zero, +ℤ_idl, +ℤ_idr}
use lib.ListN.{length, get_or}
use mir.Syntax.{w8}
use mir.Val.{of_z, to_z}
use mir.Facts.{to_z-of_z}
use Rattle.maths.specs.Tables.{Entries, entries}
use Rattle.maths.specs.Sums.{δ}
use Rattle.maths.proofs.Integers.{*ℤ_1}
use Rattle.maths.proofs.Cases.{eqb_same, eq_or}
use Rattle.maths.proofs.Sums.{sum-next, δ_same, δ_no}
use Rattle.maths.proofs.Tables.{entries_in, tab-entries, tab_same}
use Rattle.maths.proofs.Sizes.{fits_size}
use Rattle.grid.specs.Grid.{over, with_entry}
use Rattle.rules.specs.Edits.{put}
use Rattle.rules.specs.Operators.{Faces, chain_of}
use Rattle.rules.proofs.Layers.Changes.{put_same, put_no, put-zero}
use Rattle.rules.proofs.Bytes.Faces.{chain_off}
use Rattle.off.specs.Plain.{Ring}
use Rattle.off.specs.Rings.{corner_at, next_at}
use Rattle.off.specs.Sewing.{signum, sides}
use Rattle.off.specs.Lying.{SidesRoom, SideRoom, with_sides}
use Rattle.off.proofs.sewing.RingSides.{corner-below, next-below}
use Rattle.off.proofs.sewing.SewnStored.{seen, over-size}

-- the first l faces
abbrev up_to : Faces → ℕ → Faces
up_to F l = record { n = l; number = F.number; sign = F.sign }

-- column j with their chain
abbrev with_first : Faces → ℕ → ℕ → Entries → Entries
with_first F l j f i = put j (chain_of (up_to F l) i) (f i)

chain-none : (F : Faces) (i : ℕ) → chain_of (up_to F 0) i ≡ pos 0
chain-none F i = chain_off (up_to F 0) i (λ l h. absurd (omega arith))

-- a face that is not one of those before it
chain_next : (F : Faces) (l i : ℕ) → ((k : ℕ) → k < l → F.number k ≢ F.number l) →
    chain_of (up_to F (l + 1)) i ≡ cond (eqb i (F.number l)) (F.sign l) (chain_of (up_to F l) i)
unfolding chain_of
chain_next F l i new = sum-next l (λ k. F.sign k *ℤ δ (F.number k) i) ∙ eq_or i (F.number l)
    (λ e. rw (e, eqb_same (F.number l), chain_off (up_to F l) (F.number l) new, δ_same, *ℤ_1, +ℤ_idl))
    (λ e. rw (ne_eqb i (F.number l) e, δ_no (F.number l) i e, *ℤ-zero, +ℤ_idr))

-- l sides of the ring r, found in m3, stand in column j, and else m is the old matrix
pub record SidesStand (r : Ring) (m3 old : List ℤ) (j : ℕ) (m : List ℤ) (l : ℕ) : Type 0 where
  pub inside : l ≤ length r
  pub is : m ≡ over (with_first (sides (entries m3) r) l j) old

module _ {r : Ring} {m3 old : List ℤ} {j : ℕ} (S : SidesRoom r m3 old j) where
  abbrev F : Faces
  F = sides (entries m3) r

  pub stand-none : SidesStand r m3 old j old 0
  unfolding over
  stand-none = record { inside = omega arith; is = sym (tab-entries old S.size2) ∙ tab_same (λ i j' _ _. blank i j') }
    where
      blank : (i j' : ℕ) → entries old i j' ≡ with_first F 0 j (entries old) i j'
      blank i j' = rw (chain-none F i, put-zero j (entries old i) (S.blank i))

  module _ {m : List ℤ} {l : ℕ} (P : SidesStand r m3 old j m l) where
    pub stand-size : length m ≡ length old
    stand-size = over-size _ old P.is ∙ sym S.size2

    pub stand-all : length r ≤ l → m ≡ over (with_sides r (entries m3) j) old
    unfolding over with_sides
    stand-all h = let all : l ≡ length r = omega (arith, P.inside) in rw all at P.is

    -- the next side
    module _ (h : l < length r) {a b : ℕ} (ea : a ≡ corner_at r l) (eb : b ≡ next_at r l) where
      pub corner-low : a < 96
      corner-low = rw ea (corner-below r S.corners.low l h)

      pub next_low : b < 96
      next_low = rw eb (next-below r S.corners.low l h)

      -- the entry that is read
      side_read : to_z w8 (of_z w8 (get_or m3 (96 * b + a) (pos 0))) ≡ entries m3 (corner_at r l) (next_at r l)
      side_read =
          let small : nat_abs (entries m3 a b) < 2 ^ 7 = omega (arith, S.small a b) in
          rw (← ea, ← eb, ← entries_in m3 a b corner-low next_low) (to_z-of_z {w = w8} (fits_size small))

      pub side_room : SideRoom m j (to_z w8 (of_z w8 (get_or m3 (96 * b + a) (pos 0))))
      side_room = rw side_read
          (record { size = stand-size ∙ S.size2; inside = S.inside; some = S.some l h; small = S.small (corner_at r l) (next_at r l) })

      pub stand_more : {m' : List ℤ} →
          let z = to_z w8 (of_z w8 (get_or m3 (96 * b + a) (pos 0))) in m' ≡ over (with_entry (pred (nat_abs z)) j (signum z)) m → SidesStand r m3 old j m' (l + 1)
      unfolding over with_entry
      stand_more {m'} e = record { inside = omega arith; is = rw side_read at e ∙ tab_same entry }
        where
          new : (k : ℕ) → k < l → F.number k ≢ F.number l
          new k i = S.apart k l (omega arith) h (omega arith)

          entry : (i j' : ℕ) → i < 96 → j' < 96 → with_entry (F.number l) j (F.sign l) (entries m) i j' ≡ with_first F (l + 1) j (entries old) i j'
          entry i j' hi hj = rw (seen (with_first F l j) old P.is i j' hi hj) (eq_or j' j
              (λ q. rw (q, eqb_same j, put_same, put_same) (sym (chain_next F l i new)))
              (λ q. rw (ne_eqb j' j q, put_no j (chain_of (up_to F l) i) (entries old i) j' q, put_no j (chain_of (up_to F (l + 1)) i) (entries old i) j' q)))
