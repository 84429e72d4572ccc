-- The record of counts where the count of a dimension has changed.
use mathlib.Core.Path.{◌≡◌, refl, sym, ap, ◌∙◌}
use mathlib.Core.Bool.{cond}
use mathlib.Core.List.{List, [], ◌∷◌}
use Prim.Native.Nat.{ℕ, zero, suc, pred, ◌-◌, ◌≤◌}
use native.Mathlib.Omega.{arith}
use lib.Dec.{eqb}
use lib.ListN.{length, set}
use Rattle.rules.specs.declared.counts.Counts.{Counts}
use Rattle.rules.specs.Counts.{count_of, shrunk_at}
use Rattle.rules.specs.Complex.{Pattern, complex}
use Rattle.rules.proofs.Storage.Stored.{count-is}

-- the four counts, with v for that of dimension k
abbrev pub counted : ℕ → ℕ → Counts → Counts
counted k v c = let n : ℕ → ℕ = λ q. cond (eqb q k) v (count_of c q) in record { n = n 0 ∷ n 1 ∷ n 2 ∷ n 3 ∷ [] }

set_list : (l : List ℕ) (k v : ℕ) → length l ≡ 4 → k ≤ 3 → set l k v ≡ (counted k v (record { n = l })).n
set_list (a ∷ b ∷ c ∷ d ∷ []) zero v e h = refl
set_list (a ∷ b ∷ c ∷ d ∷ []) (suc zero) v e h = refl
set_list (a ∷ b ∷ c ∷ d ∷ []) (suc (suc zero)) v e h = refl
set_list (a ∷ b ∷ c ∷ d ∷ []) (suc (suc (suc zero))) v e h = refl
set_list (a ∷ b ∷ c ∷ d ∷ []) (suc (suc (suc (suc k)))) v e h = absurd (omega arith)
set_list [] k v e h = absurd (omega arith)
set_list (a ∷ []) k v e h = absurd (omega arith)
set_list (a ∷ b ∷ []) k v e h = absurd (omega arith)
set_list (a ∷ b ∷ c ∷ []) k v e h = absurd (omega arith)
set_list (a ∷ b ∷ c ∷ d ∷ x ∷ l) k v e h = absurd (omega arith)

minus_one : (n : ℕ) → n - 1 ≡ pred n
minus_one n = omega arith

-- the count of the faces of cells of dimension k
pub count-below : (p : Pattern) (k : ℕ) → k ≤ 3 → count_of p.counts (k - 1) ≡ (complex p (pred k)).n
count-below p k h = ap (count_of p.counts) (minus_one k) ∙ sym (count-is p (pred k) (omega arith))

-- one cell fewer of dimension k
abbrev pub fewer : ℕ → Counts → Counts
fewer k c = counted k (pred (count_of c k)) c

pub shrunk_is : (c : Counts) (k : ℕ) → length c.n ≡ 4 → k ≤ 3 → shrunk_at c k ≡ fewer k c
shrunk_is c k e h = ap (λ (l : List ℕ). record { n = l }) (set_list c.n k _ e h) ∙ ap (λ v. counted k v c) (minus_one (count_of c k))

-- and of the dimension above it
pub both_shrunk : (c : Counts) (k : ℕ) → length c.n ≡ 4 → k ≤ 2 → shrunk_at (shrunk_at c k) (suc k) ≡ fewer (suc k) (fewer k c)
both_shrunk c k e h = ap (λ c. shrunk_at c (suc k)) (shrunk_is c k e (omega arith)) ∙ shrunk_is (fewer k c) (suc k) refl (omega arith)
