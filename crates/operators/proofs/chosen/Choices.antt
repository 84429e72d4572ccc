-- When what a split chooses of a column can be split off, by the tests of the code.
use Rattle.std.specs.Prelude.{Some, None}
use Rattle.std.specs.Bool.{then_some}
use mathlib.Core.Path.{◌≡◌, refl, sym, ap, ap₂, ◌∙◌, fun_ext}
use mathlib.Core.Logic.{◌≢◌}
use mathlib.Core.Bool.{Bool, true, false, not, cond, ◌&&◌, ◌||◌, and-true, and-false}
use mathlib.Core.List.{List}
use Prim.Native.Nat.{ℕ, ◌<◌}
use borrow.Author.Tests.{ne_eqb, not-true, not-false, eqb-true}
use lib.Dec.{eqb}
use lib.IntN.{ℤ, pos}
use Rattle.maths.specs.Tests.{eq_z, is_zero, all}
use Rattle.maths.proofs.Cases.{eqb_same, by_bool, bool_or, no_eq}
use Rattle.maths.proofs.Tests.{eq_z-refl, eq_z-true, zero_is, all-at, all_of, all-not, all-false, all_same}
use Rattle.rules.specs.Complex.{Chain}
use Rattle.rules.specs.Edits.{part}
use Rattle.rules.specs.Operators.{Faces, listed, chosen, is_part}
use Rattle.rules.specs.Calls.{coefficients}
use lib.ListN.{length}
use Rattle.operators.specs.Part.{head, part_of, part_taken, all_there, is_true_part}
use Rattle.operators.proofs.chosen.Lists.{holds, of_96}

module _ (F : Faces) where
  listed_at : (l : ℕ) → l < F.n → listed F (F.number l) ≡ true
  unfolding listed
  listed_at l h = ap not (all-not F.n (λ k. not (eqb (F.number l) (F.number k))) l h (rw eqb_same))

  listed-is : (i : ℕ) → listed F i ≡ true → (l : ℕ) × (l < F.n) × (i ≡ F.number l)
  unfolding listed
  listed-is i e =
      let f = all-false F.n (λ k. not (eqb i (F.number k))) (not-true (all F.n (λ k. not (eqb i (F.number k)))) e) in
      (f.0, f.1, eqb-true i (F.number f.0) (not-false (eqb i (F.number f.0)) f.2))

-- each chosen face has a non-zero entry
abbrev there : (ℕ → Bool) → Chain → Bool
there p v = all 96 (λ i. not (p i) || not (is_zero (v i)))

module _ (F : Faces) (v : Chain) where
  all-listed-there : all_there F v ≡ true → there (listed F) v ≡ true
  unfolding all_there
  all-listed-there e = all_of 96 (λ i h. by_bool (listed F i) (λ t. not t || not (is_zero (v i)) ≡ true)
      (λ q. let f = listed-is F i q in rw f.2 (all-at F.n (λ l. not (is_zero (v (F.number l)))) e f.0 f.1))
      (λ q. refl))

  one_not-there : ((l : ℕ) → l < F.n → F.number l < 96) → all_there F v ≡ false → there (listed F) v ≡ false
  unfolding all_there
  one_not-there low e =
      let f = all-false F.n (λ l. not (is_zero (v (F.number l)))) e in
      all-not 96 (λ i. not (listed F i) || not (is_zero (v i))) (F.number f.0) (low f.0 f.1) (rw (listed_at F f.0 f.1) f.2)

-- a head is there
head-there : (v : Chain) → there (head v) v ≡ true
unfolding eq_z is_zero
head-there v = all_of 96 (λ i h. by_bool (eq_z (v i) (pos 1)) (λ t. not t || not (is_zero (v i)) ≡ true)
    (λ q. rw (eq_z-true {x = v i} q))
    (λ q. refl))

-- the part's entries tell which faces are chosen, where each has a non-zero entry
module _ (p : ℕ → Bool) (v : Chain) where
  zero-unless : (i : ℕ) → not (p i) || not (is_zero (v i)) ≡ true → is_zero (part p v i) ≡ not (p i)
  unfolding part
  zero-unless i = by_bool (p i) (λ t. not t || not (is_zero (v i)) ≡ true → is_zero (cond t (v i) (pos 0)) ≡ not t)
      (λ q e. bool_or (is_zero (v i)) (λ z. no_eq (rw z at e)) (λ z. z))
      (λ q e. zero_is)

  same_where : (i : ℕ) → eq_z (v i) (part p v i) ≡ p i || is_zero (v i)
  unfolding part is_zero
  same_where i = by_bool (p i) (λ t. eq_z (v i) (cond t (v i) (pos 0)) ≡ t || is_zero (v i)) (λ q. eq_z-refl (v i)) (λ q. refl)

  true-part : there p v ≡ true → is_true_part (part p v) v ≡ is_part p v
  unfolding is_true_part is_part
  true-part e = rw (
    all_same 96 (λ i h. zero-unless i (all-at 96 (λ i. not (p i) || not (is_zero (v i))) e i h)),
    all_same 96 (λ i h. same_where i),
    e,
  ) (sym (and-true _))

  no_part : there p v ≡ false → false ≡ is_part p v
  unfolding is_part
  no_part e = rw e (sym (and-false (not (all 96 (λ i. not (p i))) && not (all 96 (λ i. p i || is_zero (v i))))))

  -- the part as a list holds it
  true-taken : (taken : List ℤ) → taken ≡ part_of p v → is_true_part (coefficients taken) v ≡ is_true_part (part p v) v
  unfolding is_true_part
  true-taken taken e = ap₂ (λ a b. not a && not b)
      (all_same 96 (λ i h. ap is_zero (holds (part p v) e i h)))
      (all_same 96 (λ i h. ap (eq_z (v i)) (holds (part p v) e i h)))

  -- what the tests say of a part that was taken
  taken-there : {r : Bool} {taken : List ℤ} → there p v ≡ true → taken ≡ part_of p v → r ≡ is_true_part (coefficients taken) v
      → then_some r taken ≡ part_taken p v
  unfolding part_taken
  taken-there e t s = rw (s ∙ true-taken _ t ∙ true-part e, t)
      (by_bool (is_part p v) (λ b. then_some b (part_of p v) ≡ cond b (Some (part_of p v)) None) (λ _. refl) (λ _. refl))

  taken_not : there p v ≡ false → None ≡ part_taken p v
  unfolding part_taken
  taken_not e = rw (← no_part e)

-- what is chosen of a seam, and of a panel or block
chosen-head : {dim : ℕ} (F : Faces) (v : Chain) → dim ≡ 1 → head v ≡ chosen dim F v
unfolding chosen
chosen-head F v e = fun_ext (λ i. rw e)

chosen-listed : {dim : ℕ} (F : Faces) (v : Chain) → dim ≢ 1 → listed F ≡ chosen dim F v
unfolding chosen
chosen-listed {dim} F v n = fun_ext (λ i. rw (ne_eqb dim 1 n))

module _ {dim : ℕ} (F : Faces) (v : Chain) where
  pub head-taken : {taken : List ℤ} {r : Bool} → dim ≡ 1 → taken ≡ part_of (head v) v → r ≡ is_true_part (coefficients taken) v
      → then_some r taken ≡ part_taken (chosen dim F v) v
  head-taken d t e = rw (← chosen-head {dim = dim} F v d) (taken-there (head v) v (head-there v) t e)

  module _ (n : dim ≢ 1) where
    pub listed-taken : {taken : List ℤ} {r : Bool} → taken ≡ part_of (listed F) v → all_there F v ≡ true → r ≡ is_true_part (coefficients taken) v
        → then_some r taken ≡ part_taken (chosen dim F v) v
    listed-taken t a e = rw (← chosen-listed {dim = dim} F v n) (taken-there (listed F) v (all-listed-there F v a) t e)

    pub listed_missing : ((l : ℕ) → l < F.n → F.number l < 96) → all_there F v ≡ false → None ≡ part_taken (chosen dim F v) v
    listed_missing low e = rw (← chosen-listed {dim = dim} F v n) (taken_not (listed F) v (one_not-there F v low e))

-- the tests of `is_true_part` one by one
module _ (column w : List ℤ) (long : length w ≡ 96) {a : Bool} (e : a ≡ all (length w) (λ i. is_zero (coefficients w i))) where
  zeros : a ≡ all 96 (λ i. is_zero (coefficients w i))
  zeros = of_96 long (λ n. all n (λ i. is_zero (coefficients w i))) e

  pub true-then : {b : Bool} → a ≡ false → b ≡ all 96 (λ i. eq_z (coefficients column i) (coefficients w i))
      → not b ≡ is_true_part (coefficients w) (coefficients column)
  unfolding is_true_part
  true-then h f = rw (← zeros, h, ← f)

  pub true_else : a ≡ true → not a ≡ is_true_part (coefficients w) (coefficients column)
  unfolding is_true_part
  true_else h = rw (← zeros, h)
