-- What a chain over a run of bytes, or over the columns of a matrix, gives.
use mathlib.Core.Path.{◌≡◌, refl, sym, ap, ap₂, ◌∙◌}
use mathlib.Core.Bool.{Bool, true, cond, ◌&&◌, and_assoc}
use mathlib.Core.List.{List, [], ◌∷◌, ◌++◌}
use Prim.Native.Nat.{ℕ, zero, suc, ◌+◌, ◌*◌, ◌/◌, ◌<◌, ◌≤◌}
use native.Mathlib.Nat.{add-zero, zero-add}
use native.Mathlib.Numerals.{add-one}
use native.Mathlib.Omega.{arith}
use lib.IntN.{ℤ, pos}
use lib.ListN.{length, get_or, take, drop, length-append}
use denote.Ref.{Bor}
use denote.Param.Members.{Mut}
use Rattle.std.specs.Fn.{Called}
use Rattle.std.specs.Iterator.{Drains}
use Rattle.std.specs.List.{FoldsTo, count_by, list_all, range_with_len}
use Rattle.std.specs.Slice.Iter.{iter_rest, chunks_exact_rest, chunks_exact_size, chunks_exact_steps}
use Rattle.std.specs.declared.slice.Iter.{Iter}
use Rattle.std.specs.declared.slice.ChunksExact.{ChunksExact}
use Rattle.std.proofs.lemmas.Fn.{fold_over, fronts}
use Rattle.std.proofs.lemmas.Iterator.{YieldsList, YieldsList-from_slice}
use Rattle.std.proofs.lemmas.Iterator.Splits.{YieldsList-from_shown_while}
use Rattle.std.proofs.lemmas.List.{length_push, get_or_push, take_all, get_or_append_left, drop_at, get_or-drop}
use Rattle.std.proofs.lemmas.List.Sums.{sum_by_more}
use Rattle.maths.specs.Tests.{all, count}
use Rattle.maths.specs.Tables.{entries}
use Rattle.maths.proofs.Cases.{by_bool}
use Rattle.maths.proofs.Tables.{entries_in}
use Rattle.maths.proofs.Tests.{all_none, all_same, count_same}
use Rattle.grid.specs.Grid.{nth}

-- a fold that joins the tests of a list's elements: `ok` is that of those so far
pub record Tested (t : ℤ → Bool) (xs : List ℤ) (ok : Bool) : Type 0 where
  pub is : ok ≡ all (length xs) (λ i. t (get_or xs i (pos 0)))

module _ {t : ℤ → Bool} where
  pub tested_none : Tested t [] true
  tested_none = record { is = sym (all_none _) }

  pub tested_more : {xs : List ℤ} {ok more : Bool} (x : ℤ) → Tested t xs ok → more ≡ ok && t x → Tested t (xs ++ (x ∷ [])) more
  unfolding all
  tested_more {xs} x s e = record {
    is = rw (length_push, add-one, e, s.is)
        (ap₂ ◌&&◌ (all_same (length xs) (λ i l. ap t (sym (get_or_append_left xs (x ∷ []) (pos 0) i l)))) (ap t (sym (get_or_push xs x (pos 0) (length xs) refl))));
  }

-- a fold over a list's elements, the closure of which joins each test
pub fold_tests : {F : Type 0} (t : ℤ → Bool) (g : Mut F (Bool × (Bor ℤ × Unit {0})) Bool) (f : F)
    → ((ok : Bool) (x : Bor ℤ) (b : Bool) (f' : F) → Called g f (ok, (x, tt)) b f' → (b ≡ ok && t x.now) × (f' ≡ f))
    → (l : List ℤ) (s : Iter ℤ) (r : Bool) → iter_rest s ≡ l
    → (xs : List (Bor ℤ)) × (f' : F) × Drains fronts s xs × FoldsTo {P = F × Bool} (λ p x q. Called g p.0 (p.1, (x, tt)) q.1 q.0) (f, true) xs (f', r)
    → r ≡ all (length l) (λ i. t (nth l i))
fold_tests t g f step l s r e ran =
    let all_of_them : Tested t l r = fold_over fronts (λ y. y.now) g (Tested t) f
    (λ xs ok x b f' q k. let j = step ok x b f' k in (tested_more x.now q j.0, j.1)) s _ true r (YieldsList-from_slice _ e).runs tested_none ran in
    all_of_them.is

-- how many of a list's elements pass, by their places
counted : (t : ℤ → Bool) (xs : List ℤ) (i : ℕ) → i ≤ length xs → count_by t (take i xs) ≡ count i (λ k. t (get_or xs k (pos 0)))
unfolding count
counted t xs zero h = refl
counted t xs (suc i) h =
    ap (λ n. count_by t (take n xs)) (sym (add-one i))
    ∙ sum_by_more (λ x. cond (t x) 1 0) xs i (pos 0) (omega arith)
    ∙ ap (λ n. n + cond (t (get_or xs i (pos 0))) 1 0) (counted t xs i (omega arith))

-- how many of all elements pass
pub count_run : (t : ℤ → Bool) (l : List ℤ) → count_by t l ≡ count (length l) (λ i. t (nth l i))
count_run t l = ap (count_by t) (sym (take_all (length l) l (omega arith))) ∙ counted t l (length l) (omega arith)

-- entry r of each of the first n columns
abbrev pub row : ℕ → ℕ → List ℤ → List ℤ
row r zero m = []
row r (suc n) m = get_or m r (pos 0) ∷ row r n (drop 96 m)

pub length-row : (r n : ℕ) (m : List ℤ) → length (row r n m) ≡ n
length-row r zero m = refl
length-row r (suc n) m = ap suc (length-row r n (drop 96 m))

pub row_at : (r n : ℕ) (m : List ℤ) (j : ℕ) → j < n → get_or (row r n m) j (pos 0) ≡ get_or m (96 * j + r) (pos 0)
row_at r zero m j h = absurd (omega arith)
row_at r (suc n) m zero h = let e : r ≡ 96 * zero + r = omega arith in ap (λ p. get_or m p (pos 0)) e
row_at r (suc n) m (suc j) h =
    let e : 96 + (96 * j + r) ≡ 96 * suc j + r = omega arith in
    row_at r n (drop 96 m) j (omega arith) ∙ get_or-drop 96 m (96 * j + r) (pos 0) ∙ ap (λ p. get_or m p (pos 0)) e

-- the first column, and those after it
row_more : (r : ℕ) (xs x ys : List ℤ) → r < 96 → length x ≡ 96 → xs ≡ x ++ ys
    → row r (length xs / 96) xs ≡ get_or x r (pos 0) ∷ row r (length ys / 96) ys
row_more r xs x ys h l e =
    let n : length xs / 96 ≡ suc (length ys / 96) = rw (e, length-append, l) (omega arith) in
    rw (n, e, get_or_append_left x ys (pos 0) r (omega arith), drop_at x ys 96 l)

-- the columns of m one by one, of which entry r is read
pub columns : {s : ChunksExact ℤ} (m : List ℤ) (r : ℕ) → r < 96 → length m ≡ 9216 → chunks_exact_rest s ≡ m → chunks_exact_size s ≡ 96
    → YieldsList chunks_exact_steps (λ x. get_or x.now r (pos 0)) s (row r 96 m)
columns {s} m r h l e z =
    let shown : ChunksExact ℤ → List ℤ = λ s. row r (length (chunks_exact_rest s) / 96) (chunks_exact_rest s) in
    let whole : length (chunks_exact_rest s) / 96 ≡ 96 = rw e (omega arith) in
    let is : shown s ≡ row r 96 m = rw (whole, e) in
    rw is at (YieldsList-from_shown_while chunks_exact_steps (λ x. get_or x.now r (pos 0)) shown (λ s. chunks_exact_size s ≡ 96)
    (λ s t p q. rw (length-row r (length (chunks_exact_rest s) / 96) (chunks_exact_rest s)) (omega (arith, q.1.0)))
    (λ s x t p q. (q.0 ∙ p, row_more r _ _ _ h (q.1.1 ∙ p) q.1.0)) s z)

-- `all` of the numbers below n
all_front : (n : ℕ) (p : ℕ → Bool) → all (suc n) p ≡ p 0 && all n (λ i. p (suc i))
unfolding all
all_front zero p = by_bool (p 0) (λ t. true && t ≡ t && true) (λ _. refl) (λ _. refl)
all_front (suc n) p = ap (λ t. t && p (suc n)) (all_front n p) ∙ and_assoc (p 0) (all n (λ i. p (suc i))) (p (suc n))

all_from : (p : ℕ → Bool) (a n : ℕ) → list_all p (range_with_len a n) ≡ all n (λ i. p (a + i))
all_from p a zero = sym (all_none _)
all_from p a (suc n) =
    ap₂ ◌&&◌ (ap p (sym (add-zero a))) (all_from p (a + 1) n ∙ all_same n (λ i l. ap p (omega arith))) ∙ sym (all_front n (λ i. p (a + i)))

pub all_numbers : (p : ℕ → Bool) (n : ℕ) → list_all p (range_with_len 0 n) ≡ all n p
all_numbers p n = all_from p 0 n ∙ all_same n (λ i l. ap p (zero-add i))

-- the entries of row r
module _ (t : ℤ → Bool) (m : List ℤ) (r : ℕ) (h : r < 96) where
  entry : (j : ℕ) → j < 96 → t (get_or (row r 96 m) j (pos 0)) ≡ t (entries m r j)
  entry j l = ap t (row_at r 96 m j l ∙ sym (entries_in m r j h l))

  pub count_row : count_by t (row r 96 m) ≡ count 96 (λ j. t (entries m r j))
  count_row =
      let whole : take 96 (row r 96 m) ≡ row r 96 m = take_all 96 (row r 96 m) (omega (arith, length-row)) in
      ap (count_by t) (sym whole) ∙ counted t (row r 96 m) 96 (omega (arith, length-row)) ∙ count_same 96 entry
