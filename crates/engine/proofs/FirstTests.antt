-- The tests that a call makes first: 1, a length, and 2, the pattern.
use mathlib.Core.Path.{◌≡◌, refl, ◌∙◌}
use mathlib.Core.Bool.{Bool, true, false, cond, ◌&&◌, and-true, and-false}
use mathlib.Core.Logic.{◌≢◌}
use mathlib.Core.List.{List}
use Prim.Native.Nat.{ℕ}
use lib.IntN.{ℤ}
use lib.ListN.{length}
use borrow.Author.Tests.{eqb-true, eq-eqb, ne_eqb}
use Rattle.maths.proofs.Cases.{bool_or}
use Rattle.rules.specs.declared.refusals.Refusal.{Refusal}
use Rattle.rules.specs.Refusals.{accepted, wrong_length, not_good}
use Rattle.rules.specs.Complex.{Pattern, complex}
use Rattle.rules.specs.Good.{is_good}
use Rattle.rules.specs.Calls.{Given, given, sized, sized_chain}
use Rattle.rules.proofs.Branches.FirstTests.{both_passed, first-refused}
use Rattle.rules.specs.Told.{refusal_number}
use Rattle.good.specs.Tested.{tested}
use Rattle.rules.proofs.Branches.Refused.{not_accepted}

-- a call with a chain is refused by r
abbrev pub refused_by : List ℤ → ℕ → Given
refused_by out r = given r out

-- the two lengths of chains after those of the matrices
short : (s a b : Bool) → a && b ≡ false → s && a && b ≡ false
short true a b e = e
short false a b e = refl

one_short : (c out : List ℤ) → (length c ≡ 96 → length out ≢ 96) → sized_chain c && sized_chain out ≡ false
one_short c out n =
    bool_or (sized_chain c)
    (λ t. rw (ne_eqb (length out) 96 (n (eqb-true _ _ t))) (and-false (sized_chain c)))
    (λ t. rw t)

module _ (p : Pattern) (c out : List ℤ) where
  -- a call with a chain that answers a on a good pattern
  abbrev on_good_pattern : Given → Given
  on_good_pattern a =
      cond (sized p && sized_chain c && sized_chain out) (cond (is_good (complex p)) a (refused_by out not_good)) (refused_by out wrong_length)

  -- 1, by the chains
  pub chains_short : (a : Given) → (length c ≡ 96 → length out ≢ 96) → refused_by out wrong_length ≡ on_good_pattern a
  chains_short a n = rw (short (sized p) (sized_chain c) (sized_chain out) (one_short c out n))

  module _ (l : length c ≡ 96) (m : length out ≡ 96) where
    long : sized p && sized_chain c && sized_chain out ≡ sized p
    long = rw (eq-eqb (length c) 96 l, eq-eqb (length out) 96 m) (simp and-true)

    -- 1 or 2, by the pattern
    pub chains_refused : (a : Given) (r : Refusal) → refusal_number r ≡ tested p → refused_by out (refusal_number r) ≡ on_good_pattern a
    unfolding tested
    chains_refused a r e = rw long (first-refused p (refused_by out) a e (not_accepted r))

    -- neither
    pub chains_sized : tested p ≡ accepted → sized p && sized_chain c && sized_chain out ≡ true
    unfolding tested
    chains_sized t = long ∙ (both_passed p t).0
