-- A pattern while it is sewn, as it is stored: what the stores of a new seam leave.
use mathlib.Core.Path.{◌≡◌, sym, ◌∙◌, ap, fun_ext}
use mathlib.Core.Logic.{◌≢◌}
use mathlib.Core.List.{List}
use Prim.Native.Nat.{ℕ, zero, suc, ◌+◌, ◌<◌, ◌≤◌}
use native.Mathlib.Numerals.{add-one}
use native.Mathlib.Omega.{arith}
use borrow.Author.Tests.{ne_eqb}
use lib.IntN.{ℤ, pos, negsuc}
use lib.ListN.{length, length-set}
use lib.Seq.{get_or-set_same, get_or-set_other}
use Rattle.maths.specs.Tables.{Entries, entries, tab}
use Rattle.maths.proofs.Cases.{eqb_same, eq_or}
use Rattle.maths.proofs.Tables.{entries-tab, clip_in, tab_same, length-tab, in_or_out, entries-out}
use Rattle.grid.specs.Grid.{over, with_entry}
use Rattle.rules.specs.declared.counts.Counts.{Counts}
use Rattle.rules.specs.Counts.{count_of, grown_at}
use Rattle.rules.specs.Complex.{Layer, Chain, bare, layer}
use Rattle.rules.specs.Edits.{layers, put, make}
use Rattle.rules.proofs.Layers.Changes.{put_same, put_no}
use Rattle.rules.proofs.Layers.Seams.{Ends as EndsAt}
use Rattle.rules.proofs.Edits.Makes.{make_other}
use Rattle.off.specs.Sewing.{seam_of}
use Rattle.off.specs.Lying.{no_block, drawn}
use Rattle.off.proofs.sewing.SeamsMade.{grown_by, grown_along, grown_against, grown_other}

-- an entry of a matrix that a store left
pub seen : (F : Entries → Entries) (m : List ℤ) {m' : List ℤ} → m' ≡ over F m → (i j : ℕ) → i < 96 → j < 96 → entries m' i j ≡ F (entries m) i j
unfolding over
seen F m e i j hi hj = rw (e, entries-tab) (clip_in (F (entries m)) i j hi hj)

pub over-size : (F : Entries → Entries) (m : List ℤ) {m' : List ℤ} → m' ≡ over F m → length m' ≡ 9216
unfolding over
over-size F m e = rw e (length-tab (F (entries m)))

-- the counts with one cell more of dimension k
module _ (c : Counts) (four : length c.n ≡ 4) (k : ℕ) (dim : k < 4) where
  pub grown_here : count_of (grown_at c k) k ≡ suc (count_of c k)
  grown_here = get_or-set_same c.n k (count_of c k + 1) 0 (omega arith) ∙ add-one (count_of c k)

  pub grown_there : (q : ℕ) → q ≢ k → count_of (grown_at c k) q ≡ count_of c q
  grown_there q e = get_or-set_other c.n k q (count_of c k + 1) 0 e

  pub grown_four : length (grown_at c k).n ≡ 4
  grown_four = length-set c.n k (count_of c k + 1) ∙ four

-- the pattern with one seam or panel more
module _ (c : Counts) (four : length c.n ≡ 4) (m1 m2 : List ℤ) (v : Chain) (k : ℕ) (some : 0 < k) (dim : k < 3) where
  pub grown_drawn : (m1' m2' : List ℤ) →
      layer (count_of (grown_at c k) 1) m1' ≡ layers (make k v (drawn c m1 m2)) 1 →
      layer (count_of (grown_at c k) 2) m2' ≡ layers (make k v (drawn c m1 m2)) 2 →
      drawn (grown_at c k) m1' m2' ≡ layers (make k v (drawn c m1 m2))
  grown_drawn m1' m2' seams panels = fun_ext at
    where
      old : (q : ℕ) → q ≢ k → drawn c m1 m2 q ≡ layers (make k v (drawn c m1 m2)) q
      old q e = sym (make_other k v (drawn c m1 m2) q e)

      at : (q : ℕ) → drawn (grown_at c k) m1' m2' q ≡ layers (make k v (drawn c m1 m2)) q
      at zero = ap bare (grown_there c four k (omega arith) 0 (omega arith)) ∙ old 0 (omega arith)
      at (suc zero) = seams
      at (suc (suc zero)) = panels
      at (suc (suc (suc zero))) = ap (λ n. layer n no_block) (grown_there c four k (omega arith) 3 (omega arith)) ∙ old 3 (omega arith)
      at (suc (suc (suc (suc q)))) = old (suc (suc (suc (suc q)))) (omega arith)

-- the stores of a new seam from a to b, of number n
module _ {v : Chain} {a b : ℕ} (E : EndsAt v a b) {n : ℕ} (room : n < 96) where
  pub seam_stored : (m : List ℤ) {m₁ m₂ : List ℤ} → ((i : ℕ) → entries m i n ≡ pos 0) → m₁ ≡ over (with_entry a n (negsuc 0)) m → m₂ ≡ over (with_entry b n (pos 1)) m₁ →
      (i j : ℕ) → entries m₂ i j ≡ put n (v i) (entries m i) j
  unfolding with_entry
  seam_stored m {m₁} {m₂} blank e₁ e₂ i j = in_or_out i j inside outside
    where
      column : i < 96 → entries m₂ i n ≡ v i
      column hi = seen (with_entry b n (pos 1)) m₁ e₂ i n hi room ∙ rw (eqb_same n)
          (eq_or i b
          (λ f. rw (f, eqb_same b) (sym E.head))
          (λ f. rw (ne_eqb i b f)
          (seen (with_entry a n (negsuc 0)) m e₁ i n hi room ∙ rw (eqb_same n)
          (eq_or i a
          (λ g. rw (g, eqb_same a) (sym E.tail))
          (λ g. rw (ne_eqb i a g) (blank i ∙ sym (E.only i g f)))))))

      inside : i < 96 → j < 96 → entries m₂ i j ≡ put n (v i) (entries m i) j
      inside hi hj = eq_or j n
          (λ f. rw (f, put_same) (column hi))
          (λ f. rw (put_no n (v i) (entries m i) j f)
          (seen (with_entry b n (pos 1)) m₁ e₂ i j hi hj ∙ rw (ne_eqb j n f) (seen (with_entry a n (negsuc 0)) m e₁ i j hi hj ∙ rw (ne_eqb j n f))))

      outside : (i < 96 → 96 ≤ j) → entries m₂ i j ≡ put n (v i) (entries m i) j
      outside o = entries-out m₂ i j o ∙ sym (eq_or j n
          (λ f. rw (f, put_same) (E.only i (λ q. omega (arith, o (omega (arith, E.low)))) (λ q. omega (arith, o (omega (arith, E.high))))))
          (λ f. rw (put_no n (v i) (entries m i) j f) (entries-out m i j o)))

-- the table of the seams by their ends
module _ {v : Chain} {a b : ℕ} (E : EndsAt v a b) (A : Layer) where
  pub ends-stored : {m m₁ m₂ : List ℤ} → m ≡ tab (seam_of A) → m₁ ≡ over (with_entry a b (pos (suc A.n))) m →
      m₂ ≡ over (with_entry b a (negsuc A.n)) m₁ → m₂ ≡ tab (seam_of (grown_by v A))
  unfolding over with_entry
  ends-stored {m} {m₁} {m₂} e e₁ e₂ = e₂ ∙ tab_same entry
    where
      old : (i j : ℕ) → i < 96 → j < 96 → entries m i j ≡ seam_of A i j
      old i j hi hj = rw (e, entries-tab) (clip_in (seam_of A) i j hi hj)

      first : (i j : ℕ) → i < 96 → j < 96 → entries m₁ i j ≡ with_entry a b (pos (suc A.n)) (entries m) i j
      first = seen (with_entry a b (pos (suc A.n))) m e₁

      other : (i j : ℕ) → i < 96 → j < 96 → (a ≡ i → b ≢ j) → (a ≡ j → b ≢ i) → entries m i j ≡ seam_of (grown_by v A) i j
      other i j hi hj f g = old i j hi hj ∙ sym (grown_other A E i j f g)

      entry : (i j : ℕ) → i < 96 → j < 96 → with_entry b a (negsuc A.n) (entries m₁) i j ≡ seam_of (grown_by v A) i j
      entry i j hi hj = eq_or j a
          (λ p. rw (p, eqb_same a)
          (eq_or i b
          (λ q. rw (q, eqb_same b) (sym (grown_against A E)))
          (λ q. rw (ne_eqb i b q)
          (first i a hi E.low ∙ rw (ne_eqb a b E.apart) (other i a hi E.low (λ _ f. E.apart (sym f)) (λ _ f. q (sym f)))))))
          (λ p. rw (ne_eqb j a p)
          (first i j hi hj ∙ eq_or j b
          (λ q. rw (q, eqb_same b)
          (eq_or i a
          (λ s. rw (s, eqb_same a) (sym (grown_along A E)))
          (λ s. rw (ne_eqb i a s) (other i b hi E.high (λ f. absurd (s (sym f))) (λ f. absurd (E.apart f))))))
          (λ q. rw (ne_eqb j b q) (other i j hi hj (λ _ f. q (sym f)) (λ f. absurd (p (sym f)))))))
