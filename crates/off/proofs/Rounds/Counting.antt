-- How many pass a test, where those that pass are listed, each once.
use mathlib.Core.Path.{◌≡◌, refl, sym, ap, ◌∙◌}
use mathlib.Core.Logic.{◌≢◌}
use mathlib.Core.Bool.{Bool, true, false, not, cond, ◌&&◌}
use Prim.Native.Nat.{ℕ, zero, suc, ◌<◌, ◌≤◌}
use native.Mathlib.Omega.{arith}
use borrow.Author.Tests.{ne_eqb, eqb-true, eqb-false, not-true, not-false}
use lib.Dec.{eqb}
use lib.ListN.{length}
use Rattle.maths.specs.Tests.{all, count}
use Rattle.maths.proofs.Cases.{lt_or, eq_or, bool_or, by_bool, eqb_same, and_left, and_right}
use Rattle.maths.proofs.Tests.{all-at, all-not, all-false, count_same, count-zero, count_le}
use Rattle.off.specs.Plain.{Ring}
use Rattle.off.specs.Rings.{corner_at, corners_below, distinct}
use Rattle.off.proofs.sewing.RingSides.{corner-below, distinct_apart}

-- the test p, which t does not pass
but : ℕ → (ℕ → Bool) → ℕ → Bool
but t p i = p i && not (eqb i t)

but_other : (t : ℕ) (p : ℕ → Bool) (i : ℕ) → i ≢ t → but t p i ≡ p i
unfolding but
but_other t p i h = rw (ne_eqb i t h) (by_bool (p i) (λ b. b && true ≡ b) (λ _. refl) (λ _. refl))

but_same : (t : ℕ) (p : ℕ → Bool) → but t p t ≡ false
unfolding but
but_same t p = rw (eqb_same t) (by_bool (p t) (λ b. b && false ≡ false) (λ _. refl) (λ _. refl))

but_says : (t : ℕ) (p : ℕ → Bool) (i : ℕ) → but t p i ≡ true → (p i ≡ true) × (i ≢ t)
unfolding but
but_says t p i e = (and_left (p i) _ e, eqb-false i t (not-true (eqb i t) (and_right (p i) _ e)))

-- one fewer passes
count_but : (m t : ℕ) (p : ℕ → Bool) → t < m → p t ≡ true → count m p ≡ suc (count m (but t p))
unfolding count
count_but zero t p h e = absurd (omega arith)
count_but (suc m) t p h e = eq_or m t
    (λ q. rw (q, e, but_same t p, count_same t (λ i l. but_other t p i (omega arith))) (omega arith))
    (λ q. rw (but_other t p m q, count_but m t p (omega arith) e) (omega arith))

module _ (m : ℕ) where
  pub count-listed : (n : ℕ) (f : ℕ → ℕ) (p : ℕ → Bool) → ((l : ℕ) → l < n → f l < m) → ((k l : ℕ) → k < n → l < n → k ≢ l → f k ≢ f l) →
      ((l : ℕ) → l < n → p (f l) ≡ true) → ((i : ℕ) → p i ≡ true → (l : ℕ) × (l < n) × (f l ≡ i)) → count m p ≡ n
  count-listed zero f p low apart in-test listed = count-zero m (λ i h. bool_or (p i) (λ e. absurd (omega (arith, (listed i e).1))) (λ e. e))
  count-listed (suc n) f p low apart in-test listed =
      count_but m (f n) p (low n (omega arith)) (in-test n (omega arith))
      ∙ ap suc (count-listed n f (but (f n) p)
      (λ l h. low l (omega arith))
      (λ k l h i. apart k l (omega arith) (omega arith))
      (λ l h. but_other (f n) p (f l) (apart l n (omega arith) (omega arith) (omega arith)) ∙ in-test l (omega arith))
      (λ i e.
      let passes = but_says (f n) p i e in
      let s = listed i passes.0 in
      eq_or s.0 n (λ q. absurd (passes.1 (sym s.2 ∙ ap f q))) (λ q. (s.0, omega (arith, s.1), s.2))))

  -- different numbers that pass are no more than all that pass
  count-least : (n : ℕ) (f : ℕ → ℕ) (p : ℕ → Bool) → ((l : ℕ) → l < n → f l < m) → ((k l : ℕ) → k < n → l < n → k ≢ l → f k ≢ f l) →
      ((l : ℕ) → l < n → p (f l) ≡ true) → n ≤ count m p
  count-least zero f p low apart in-test = omega arith
  count-least (suc n) f p low apart in-test =
      let fewer = count-least n f (but (f n) p)
      (λ l h. low l (omega arith))
      (λ k l h i. apart k l (omega arith) (omega arith))
      (λ l h. but_other (f n) p (f l) (apart l n (omega arith) (omega arith) (omega arith)) ∙ in-test l (omega arith)) in
      omega (arith, fewer, count_but m (f n) p (low n (omega arith)) (in-test n (omega arith)))

  -- where they are as many, they are all
  module _ (n : ℕ) (f : ℕ → ℕ) (p : ℕ → Bool) (low : (l : ℕ) → l < n → f l < m) (apart : (k l : ℕ) → k < n → l < n → k ≢ l → f k ≢ f l)
      (in-test : (l : ℕ) → l < n → p (f l) ≡ true) where
    -- i after them
    with : ℕ → ℕ → ℕ
    with i l = cond (eqb l n) i (f l)

    with_last : (i : ℕ) → with i n ≡ i
    unfolding with
    with_last i = rw (eqb_same n)

    with_other : (i l : ℕ) → l ≢ n → with i l ≡ f l
    unfolding with
    with_other i l h = rw (ne_eqb l n h)

    one_more_lem : (i : ℕ) → i < m → p i ≡ true → ((l : ℕ) → l < n → f l ≢ i) → suc n ≤ count m p
    one_more_lem i h t off = count-least (suc n) (with i) p
        (λ l k. eq_or l n (λ e. rw (e, with_last i) h) (λ e. rw (with_other i l e) (low l (omega arith))))
        (λ k l a b d. eq_or k n
        (λ e. eq_or l n (λ g. absurd (d (e ∙ sym g))) (λ g. rw (e, with_last i, with_other i l g) (λ q. off l (omega arith) (sym q))))
        (λ e. eq_or l n (λ g. rw (g, with_last i, with_other i k e) (off k (omega arith)))
        (λ g. rw (with_other i k e, with_other i l g) (apart k l (omega arith) (omega arith) d))))
        (λ l k. eq_or l n (λ e. rw (e, with_last i) t) (λ e. rw (with_other i l e) (in-test l (omega arith))))

    pub all_listed : count m p ≡ n → (i : ℕ) → i < m → p i ≡ true → (l : ℕ) × (l < n) × (f l ≡ i)
    all_listed e i h t =
        let other : ℕ → Bool = λ l. not (eqb (f l) i) in
        bool_or (all n other)
        (λ q. absurd (omega (arith, one_more_lem i h t (λ l k. eqb-false (f l) i (not-true (eqb (f l) i) (all-at n other q l k))))))
        (λ q. let s = all-false n other q in (s.0, s.1, eqb-true (f s.0) i (not-false (eqb (f s.0) i) s.2)))

  -- different numbers below m are at most m
  pub few-apart : (n : ℕ) (f : ℕ → ℕ) → ((l : ℕ) → l < n → f l < m) → ((k l : ℕ) → k < n → l < n → k ≢ l → f k ≢ f l) → n ≤ m
  few-apart n f low apart =
      let other : ℕ → ℕ → Bool = λ i l. not (eqb (f l) i) in
      let p : ℕ → Bool = λ i. not (all n (other i)) in
      let is = count-listed n f p low apart
      (λ l h. ap not (all-not n (other (f l)) l h (ap not (eqb_same (f l)))))
      (λ i e.
      let s = all-false n (other i) (not-true (all n (other i)) e) in
      (s.0, s.1, eqb-true (f s.0) i (not-false (eqb (f s.0) i) s.2))) in
      omega (arith, is, count_le m p)

-- no more than 96 corners below 96 are distinct, so the bound in `is_ring` takes no ring away
pub ring-most : (r : Ring) → corners_below 96 r ≡ true → distinct r ≡ true → length r ≤ 96
ring-most r low d = few-apart 96 (length r) (corner_at r) (corner-below r low) (λ k l h i f. lt_or k l
    (λ q. distinct_apart r d k l q i)
    (λ q e. distinct_apart r d l k (omega arith) h (sym e)))
