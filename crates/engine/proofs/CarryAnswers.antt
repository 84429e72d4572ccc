-- What carrying answers, case by case: refused by 1, 2, 4, the form of the bytes, 17, the operator's own or 16, or accepted.
use Rattle.std.specs.Prelude.{Ok, Err}
use mathlib.Core.Path.{◌≡◌, refl, sym, ap, ◌∙◌}
use mathlib.Core.Bool.{true, false}
use mathlib.Core.Logic.{◌≢◌}
use mathlib.Core.List.{List}
use Prim.Native.Nat.{ℕ, ◌<◌, ◌≤◌}
use native.Mathlib.Omega.{arith}
use lib.IntN.{ℤ}
use lib.ListN.{length}
use borrow.Author.Tests.{le-leb, lt-leb}
use Rattle.maths.specs.Tables.{table}
use Rattle.maths.proofs.Cases.{and_both}
use Rattle.rules.specs.declared.form.Fault.{Fault}
use Rattle.rules.specs.declared.operator.Operator.{Operator}
use Rattle.rules.specs.declared.refusals.Refusal.{Refusal}
use Rattle.rules.specs.Refusals.{accepted, wrong_length, wrong_form, wrong_chain}
use Rattle.rules.specs.Counts.{count_of}
use Rattle.rules.specs.Complex.{Pattern, complex}
use Rattle.rules.specs.Form.{within, lone_operator, faces_of, fault_number, fault_place}
use Rattle.rules.specs.Chains.{is_chain, carry_limit, carry_step}
use Rattle.rules.specs.Calls.{Given, coefficients, carry_call, carried_by}
use Rattle.rules.proofs.Branches.FirstTests.{both_passed}
use Rattle.rules.proofs.Calls.Limits.{chain-limit}
use Rattle.rules.proofs.Calls.ChainMap.{chain-within}
use Rattle.rules.specs.Told.{refusal_number}
use Rattle.good.specs.Tested.{tested}
use Rattle.rules.proofs.Branches.Refused.{not_accepted}
use Rattle.engine.specs.Carrying.{number_of, rewritten, Rewritable, Carriable}
use Rattle.engine.proofs.FirstTests.{refused_by, chains_short, chains_refused, chains_sized}
use Rattle.rules.proofs.Storage.Stored.{count-is}
use Rattle.engine.proofs.Shapes.{operator_formed}
use Rattle.engine.proofs.Trials.{after_carry_refused, Edited, carry_accepted}
use Rattle.engine.proofs.Carried.{carried-is, split_passed, flip_passed}

-- once the operator is read
module _ {p : Pattern} {s : List ℕ} {o : Operator} {d : ℕ} {c out : List ℤ} (C : Carriable p s o d c out) where
  -- 17, or the operator's own
  pub through_refused : (r : Refusal) → refusal_number r ≡ number_of (carry_step o (faces_of s o) (complex p)) → refused_by out (refusal_number r) ≡ carried_by p s o d c out
  unfolding carried_by
  through_refused r e = after_carry_refused (refused_by out) _ (carry_step o (faces_of s o) (complex p)) e (not_accepted r)

  module _ (z : accepted ≡ number_of (carry_step o (faces_of s o) (complex p))) where
    E : Edited (carry_step o (faces_of s o) (complex p))
    E = carry_accepted o (faces_of s o) (complex p) z refl

    here : count_of p.counts d ≡ (complex p d).n
    here = sym (count-is p d C.dim)

    -- 16
    pub through_chain : is_chain carry_limit (count_of p.counts d) (coefficients c) ≡ false → refused_by out wrong_chain ≡ carried_by p s o d c out
    unfolding carried_by
    through_chain f =
        let g : is_chain carry_limit (complex p d).n (coefficients c) ≡ false = rw (← here) f in
        rw (E.is, g)

    module _ (t : is_chain carry_limit (count_of p.counts d) (coefficients c) ≡ true) where
      few : (k : ℕ) {x : ℕ} → x < (complex p k).n → x < 96
      few k h = omega (arith, C.held.good.few k)

      pub rewritable : Rewritable o (count_of p.counts d) d c out
      rewritable = record {
        long = C.long;
        room = C.room;
        limits = λ i h. chain-limit carry_limit (count_of p.counts d) (coefficients c) t i h;
        split-cell = λ {k} i h. few k (split_passed (faces_of s o) (complex p) E.is i).0;
        split-room = λ i h. rw (here, h) (split_passed (faces_of s o) (complex p) E.is i).1;
        flip-cell = λ {k} i h. few k (flip_passed (faces_of s o) (complex p) E.is i);
      }

      -- none of them
      pub through_done : {after : List ℤ} → after ≡ table 96 (rewritten o (count_of p.counts d) d (coefficients c)) →
          refused_by after accepted ≡ carried_by p s o d c out
      unfolding carried_by
      through_done q =
          let g : is_chain carry_limit (complex p d).n (coefficients c) ≡ true = rw (← here) t in
          let w = chain-within carry_limit (complex p d).n c C.long g in
          rw (E.is, g)
          (ap (λ l. refused_by l accepted)
          (q ∙ rw (here, carried-is (complex p) (coefficients c) s o (faces_of s o) (operator_formed C.source) E.is d w)))

-- the whole call
module _ (p : Pattern) (s : List ℕ) (d : ℕ) (c out : List ℤ) where
  -- 1, by the chains
  pub carry_short : (length c ≡ 96 → length out ≢ 96) → refused_by out wrong_length ≡ carry_call p s d c out
  unfolding carry_call
  carry_short e = chains_short p c out _ e

  module _ (l : length c ≡ 96) (k : length out ≡ 96) where
    -- 1 or 2, by the pattern
    pub carry_not-good : (r : Refusal) → refusal_number r ≡ tested p → refused_by out (refusal_number r) ≡ carry_call p s d c out
    unfolding carry_call
    carry_not-good r e = chains_refused p c out l k _ r e

    module _ (t : tested p ≡ accepted) where
      -- 4, by the dimension
      pub carry_form : 3 < d → refused_by out wrong_form ≡ carry_call p s d c out
      unfolding tested carry_call
      carry_form h = rw (chains_sized p c out l k t, (both_passed p t).1, le-leb 0 d (omega arith), lt-leb d 3 h)

      module _ (h : d ≤ 3) where
        offered : within 0 3 d ≡ true
        offered = and_both (le-leb 0 d (omega arith)) (le-leb d 3 h)

        -- 3, 4 or 14
        pub carry_faulty : {f : Fault} → lone_operator s ≡ Err f → record { refusal = fault_number f; place = fault_place f; out = out } ≡ carry_call p s d c out
        unfolding tested carry_call
        carry_faulty b = rw (chains_sized p c out l k t, (both_passed p t).1, offered, b)

        -- what carrying through the operator answers
        pub carry_done : {g : Given} {o : Operator} {next : ℕ} → lone_operator s ≡ Ok (o, next) →
            g ≡ carried_by p s o d c out → g ≡ carry_call p s d c out
        unfolding tested carry_call carried_by
        carry_done e q = rw (chains_sized p c out l k t, (both_passed p t).1, offered, e) q
