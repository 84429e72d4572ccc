-- What exporting answers, case by case: refused by a length, by the pattern's test, by a coordinate, by the pattern's form, by the buffer, written.
use mathlib.Core.Path.{◌≡◌}
use mathlib.Core.Logic.{◌≢◌}
use mathlib.Core.Bool.{true, false, and-true, and-false}
use mathlib.Core.List.{List}
use Prim.Native.Nat.{ℕ, ◌<◌, ◌≤◌}
use native.Mathlib.Omega.{arith}
use lib.IntN.{ℤ}
use lib.ListN.{length}
use borrow.Author.Tests.{eq-eqb, ne_eqb, le-leb, lt-leb}
use Rattle.maths.specs.Buffers.{Put}
use Rattle.maths.proofs.Buffers.{at_front}
use Rattle.rules.specs.Refusals.{accepted, wrong_length, short_output, wrong_off, not_plain}
use Rattle.rules.specs.Complex.{Pattern, Complex}
use Rattle.rules.proofs.Branches.FirstTests.{both_passed, first-refused}
use Rattle.good.specs.Tested.{tested}
use Rattle.off.specs.Exporting.{coordinates_near, is_sewn, is_plain, export_text}
use Rattle.off.specs.Calls.{not_exported, export_good, export_call}
use Rattle.off.specs.Lying.{drawn}

-- the text of a good pattern
module _ (X : Complex) (list : List ℤ) (out : List ℕ) where
  -- 18
  pub too_far : coordinates_near (X 0).n list ≡ false → not_exported out wrong_off ≡ export_good X list out
  unfolding export_good
  too_far e = rw e

  module _ (near : coordinates_near (X 0).n list ≡ true) where
    -- 19
    pub no_plain : is_plain X ≡ false → not_exported out not_plain ≡ export_good X list out
    unfolding export_good
    no_plain e = rw (near, e)

    module _ (plain : is_plain X ≡ true) where
      -- 15
      pub too_long : length out < length (export_text X list) → not_exported out short_output ≡ export_good X list out
      unfolding export_good
      too_long h = rw (near, plain, lt-leb (length (export_text X list)) (length out) h)

      -- none of them
      pub exported : {next : ℕ} {after : List ℕ} → length (export_text X list) ≤ length out → Put out 0 (export_text X list) next after →
          record { answer = record { written = next; refusal = accepted }; out = after } ≡ export_good X list out
      unfolding export_good
      exported {next} h p =
          let q : next ≡ length (export_text X list) = omega (arith, p.place) in
          rw (near, plain, le-leb (length (export_text X list)) (length out) h, q, at_front p)

-- a lent pattern
module _ (p : Pattern) (list : List ℤ) (out : List ℕ) where
  -- 1, by the list
  pub wrong_list : length list ≢ 288 → not_exported out wrong_length ≡ export_call p list out
  unfolding export_call
  wrong_list h = rw (ne_eqb (length list) 288 h, and-false)

  module _ (long : length list ≡ 288) where
    -- 1 by the matrices, or 2
    pub wrong_pattern : {r : ℕ} → r ≡ tested p → r ≢ accepted → not_exported out r ≡ export_call p list out
    unfolding tested export_call
    wrong_pattern e n = rw (eq-eqb (length list) 288 long, and-true) (first-refused p (not_exported out) _ e n)

    -- a good pattern, whose blocks have no part in the text
    pub good-pattern : tested p ≡ accepted → export_good (drawn p.counts p.m1 p.m2) list out ≡ export_call p list out
    unfolding tested export_call export_good is_plain is_sewn export_text
    good-pattern e = let g = both_passed p e in rw (eq-eqb (length list) 288 long, g.0, g.1)
