-- What the boundary call answers, case by case: refused by 1, 2, 4 or 16, or accepted.
use mathlib.Core.Path.{◌≡◌, refl, sym, ap, ◌∙◌}
use mathlib.Core.Bool.{true, false}
use mathlib.Core.Logic.{◌≢◌}
use mathlib.Core.List.{List}
use Prim.Native.Nat.{ℕ, ◌≤◌}
use lib.IntN.{ℤ, nat_abs}
use lib.ListN.{length}
use Rattle.maths.specs.Tables.{table, entries}
use Rattle.rules.specs.declared.refusals.Refusal.{Refusal}
use Rattle.rules.specs.Refusals.{accepted, wrong_length, wrong_form, wrong_chain}
use Rattle.rules.specs.Counts.{count_of}
use Rattle.rules.specs.Complex.{Pattern, complex}
use Rattle.rules.specs.Edits.{boundary}
use Rattle.rules.specs.Form.{within}
use Rattle.rules.specs.Chains.{is_chain, boundary_limit}
use Rattle.rules.specs.Calls.{coefficients, boundary_call}
use Rattle.rules.proofs.Branches.FirstTests.{both_passed}
use Rattle.rules.proofs.Calls.Limits.{chain-limit}
use Rattle.rules.specs.Told.{refusal_number}
use Rattle.good.specs.Tested.{tested}
use Rattle.engine.specs.Boundaries.{product, matrix_of, Factors}
use Rattle.good.proofs.Passing.{held}
use Rattle.engine.proofs.FirstTests.{refused_by, chains_short, chains_refused, chains_sized}
use Rattle.rules.proofs.Storage.Stored.{count-is}
use Rattle.engine.proofs.Dimensions.{at-most_three, each_dimension, Picked}

module _ (p : Pattern) (d : ℕ) (c out : List ℤ) where
  -- 1, by the chains
  pub boundary-short : (length c ≡ 96 → length out ≢ 96) → refused_by out wrong_length ≡ boundary_call p d c out
  unfolding boundary_call
  boundary-short e = chains_short p c out _ e

  module _ (l : length c ≡ 96) (k : length out ≡ 96) where
    -- 1 or 2, by the pattern
    pub boundary-not-good : (r : Refusal) → refusal_number r ≡ tested p → refused_by out (refusal_number r) ≡ boundary_call p d c out
    unfolding boundary_call
    boundary-not-good r e = chains_refused p c out l k _ r e

    module _ (t : tested p ≡ accepted) where
      -- 4
      pub boundary-form : within 1 3 d ≡ false → refused_by out wrong_form ≡ boundary_call p d c out
      unfolding tested boundary_call
      boundary-form w = rw (chains_sized p c out l k t, (both_passed p t).1, w)

      module _ {m : List ℤ} (P : Picked d p.m1 p.m2 p.m3 m) where
        w : within 1 3 d ≡ true
        w = P.offered

        here : count_of p.counts d ≡ (complex p d).n
        here = sym (count-is p d (at-most_three d w))

        -- 16
        pub boundary-chain : is_chain boundary_limit (count_of p.counts d) (coefficients c) ≡ false →
            refused_by out wrong_chain ≡ boundary_call p d c out
        unfolding tested boundary_call
        boundary-chain e =
            let f : is_chain boundary_limit (complex p d).n (coefficients c) ≡ false = rw (← here) e in
            rw (chains_sized p c out l k t, (both_passed p t).1, w, f)

        module _ (e : is_chain boundary_limit (count_of p.counts d) (coefficients c) ≡ true) where
          -- what the product needs
          pub factors : length p.counts.n ≡ 4 → Factors m c out
          unfolding matrix_of
          factors four =
              let H = held p four t in
              rw P.is (record {
                size = each_dimension (λ d. length (matrix_of d p.m1 p.m2 p.m3) ≡ 9216) H.sized.size1 H.sized.size2 H.sized.size3 d w;
                long = l;
                room = k;
                units = each_dimension (λ d. (i j : ℕ) → nat_abs (entries (matrix_of d p.m1 p.m2 p.m3) i j) ≤ 1)
                    (H.good.units 1) (H.good.units 2) (H.good.units 3) d w;
                limits = λ i h. chain-limit boundary_limit (count_of p.counts d) (coefficients c) e i h;
              })

          product_is : product m c 96 ≡ table 96 (boundary (complex p d) (coefficients c))
          unfolding matrix_of boundary
          product_is =
              rw P.is
              (each_dimension (λ d. product (matrix_of d p.m1 p.m2 p.m3) c 96 ≡ table 96 (boundary (complex p d) (coefficients c)))
              refl refl refl d w)

          -- none of them
          pub boundary-done : {after : List ℤ} → after ≡ product m c 96 → refused_by after accepted ≡ boundary_call p d c out
          unfolding tested boundary_call
          boundary-done q =
              let f : is_chain boundary_limit (complex p d).n (coefficients c) ≡ true = rw (← here) e in
              rw (chains_sized p c out l k t, (both_passed p t).1, w, f) (ap (λ l. refused_by l accepted) (q ∙ product_is))
