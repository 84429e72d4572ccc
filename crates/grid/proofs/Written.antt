-- A matrix of which a run of places was written by one call.
use borrow.Author.Rules.{rules}
use mathlib.Core.Path.{◌≡◌, refl, sym, ap, ◌∙◌}
use mathlib.Core.Bool.{cond}
use mathlib.Core.List.{List}
use Prim.Native.Nat.{ℕ, zero, suc, ◌+◌, ◌*◌, ◌/◌, ◌%◌, ◌<◌, ◌≤◌}
use native.Mathlib.Omega.{arith}
use lib.Dec.{eqb}
use lib.IntN.{ℤ, pos}
use lib.ListN.{length, get_or, replicate}
use borrow.Author.Tests.{eqb-true, eqb-false}
use borrow.Rule.Slice.PartMut.{put_mid}
use Rattle.std.specs.List.{between}
use Rattle.std.proofs.lemmas.List.{places}
use Rattle.std.proofs.lemmas.List.Edits.{get_or-between}
use Rattle.maths.specs.Tables.{Entries, entries, tab}
use Rattle.maths.proofs.Cases.{is-cond, lt_or}
use Rattle.maths.proofs.Tables.{entries_in, is-table}

-- the list is told place by place
pub by_place : {m : List ℤ} {f : Entries} → length m ≡ 9216
    → ((i j : ℕ) → i < 96 → j < 96 → get_or m (96 * j + i) (pos 0) ≡ f i j) → m ≡ tab f
unfolding tab
by_place {m} l h = is-table (pos 0) l (λ p k.
    let e : p ≡ 96 * (p / 96) + p % 96 = omega arith in
    ap (λ q. get_or m q (pos 0)) e ∙ h (p % 96) (p / 96) (omega arith) (omega arith))

-- an element of a list of which the k elements from a on were written: before them, of them, after them
module _ (a k : ℕ) (m v : List ℤ) where
  pub read_before : (p : ℕ) → a ≤ length m → p < a → get_or (put_mid a k m v) p (pos 0) ≡ get_or m p (pos 0)
  read_before p h l = search (rules, places)

  pub read_written : (i p : ℕ) → a ≤ length m → i < length v → p ≡ a + i → get_or (put_mid a k m v) p (pos 0) ≡ get_or v i (pos 0)
  read_written i p h l e = rw e (search (rules, places))

  pub read_after : (p : ℕ) → a ≤ length m → length v ≡ k → a + k ≤ p → get_or (put_mid a k m v) p (pos 0) ≡ get_or m p (pos 0)
  read_after p h n l = search (rules, places)

-- a list of zeros reads as 0 at every place
pub zeros : (n i : ℕ) → get_or (replicate n (pos 0)) i (pos 0) ≡ pos 0
zeros zero i = refl
zeros (suc n) zero = refl
zeros (suc n) (suc i) = zeros n i

-- column c as a part of the list, up to the place e
pub column_read : (m : List ℤ) (c e i : ℕ) → c < 96 → i < 96 → 96 * c + i < e → get_or (between (96 * c) e m) i (pos 0) ≡ entries m i c
column_read m c e i hc hi h = get_or-between m (96 * c) e i (pos 0) h ∙ sym (entries_in m i c hi hc)

-- column c is v
pub column_written : (m v : List ℤ) (c k : ℕ) → k ≡ 96 → length m ≡ 9216 → c < 96 → length v ≡ 96
    → put_mid (96 * c) k m v ≡ tab (λ i j. cond (eqb j c) (get_or v i (pos 0)) (entries m i j))
column_written m v c k e l h n =
    let at = 96 * c in
    by_place
    (search (rules, places))
    (λ i j hi hj. is-cond (eqb j c)
    (λ q. read_written at k m v i (96 * j + i) (omega arith) (omega arith) (omega (arith, eqb-true j c q)))
    (λ q. lt_or j c
    (λ lt. read_before at k m v (96 * j + i) (omega arith) (omega arith))
    (λ le. read_after at k m v (96 * j + i) (omega arith) (omega arith) (omega (arith, eqb-false j c q)))
    ∙ sym (entries_in m i j hi hj)))
