-- 0 means accepted: no refusal has the number 0, and on a good pattern none has 12. And a refusal for what an operator means has no number of a fault.
use mathlib.Core.Path.{◌≡◌, refl, sym}
use mathlib.Core.Logic.{◌≢◌}
use mathlib.Core.Bool.{Bool, true, false, not, ◌&&◌}
use Prim.Native.Nat.{ℕ, suc, pred, ◌<◌}
use native.Mathlib.Omega.{arith}
use lib.Dec.{eqb, ltb}
use borrow.Author.Tests.{ltb-true, not-true, eqb-false, ne_eqb}
use Rattle.maths.proofs.Cases.{and_left, and_right}
use Rattle.rules.specs.declared.form.Fault.{Fault}
use Rattle.rules.specs.declared.operator.Operator.{Operator}
use Rattle.rules.specs.declared.operator.Operator.TheVariants.{Make, Kill, Split, Merge, Flip}
use Rattle.rules.specs.Refusals.{accepted, bytes_end, wrong_form, no_such_cell, no_room, not_closed, in_use, wrong_part, wrong_divider, not_between, shared_face, wrong_sum, bytes_left, not_carried}
use Rattle.rules.specs.Complex.{Complex, Chain}
use Rattle.rules.specs.Good.{Good, one_each, all_zero}
use Rattle.rules.specs.Edits.{Step, boundary, part}
use Rattle.rules.specs.Operators.{Faces, Outcome, refused, edited, removed, unless, chain_of, all_below, closed, chosen, is_part, divides, share_only, make_step, kill_step, split_step, merge_step, flip_step, step, lower, higher}
use Rattle.rules.specs.Form.{fault_number, is_fault}
use Rattle.rules.specs.Chains.{carry_step}
use Rattle.rules.proofs.Branches.Branches.{cond_each, refused-edited, refused-removed}
use Rattle.rules.proofs.Accepting.Accepted.{merge-step-is}

-- the number of a refusal: not 0, and on a good pattern not 12
pub record Refusal (r : ℕ) : Type 0 where
  pub not_0 : r ≢ accepted
  pub not_12 : r ≢ wrong_sum

abbrev pub is_refusal : ℕ → Bool
is_refusal r = not (eqb r accepted) && not (eqb r wrong_sum)

pub refusal_is : (r : ℕ) → is_refusal r ≡ true → Refusal r
refusal_is r h = record {
  not_0 = eqb-false r accepted (not-true _ (and_left _ _ h));
  not_12 = eqb-false r wrong_sum (not-true _ (and_right (not (eqb r accepted)) _ h));
}

-- one that is given for what an operator means, so none of a fault
abbrev pub by_meaning : ℕ → Bool
by_meaning r = ltb 4 r && not (eqb r bytes_left) && not (eqb r wrong_sum)

record Means (r : ℕ) : Type 0 where
  more : 4 < r
  not_left : eqb r bytes_left ≡ false
  not-sum : eqb r wrong_sum ≡ false

meaning_says : (r : ℕ) → by_meaning r ≡ true → Means r
meaning_says r h =
    let front = and_left (ltb 4 r && not (eqb r bytes_left)) _ h in
    record {
      more = ltb-true 4 r (and_left _ _ front);
      not_left = not-true (eqb r bytes_left) (and_right (ltb 4 r) _ front);
      not-sum = not-true (eqb r wrong_sum) (and_right (ltb 4 r && not (eqb r bytes_left)) _ h);
    }

pub meaning_numbered : (r : ℕ) → by_meaning r ≡ true → Refusal r
meaning_numbered r h =
    let m = meaning_says r h in
    record { not_0 = omega (arith, m.more); not_12 = eqb-false r wrong_sum m.not-sum }

pub meaning_no_fault : (r : ℕ) → by_meaning r ≡ true → is_fault r ≡ false
meaning_no_fault r h =
    let m = meaning_says r h in
    rw (ne_eqb r bytes_end (λ e. omega (arith, m.more)), ne_eqb r wrong_form (λ e. omega (arith, m.more)), m.not_left)

-- the number of a refused outcome is such a one
abbrev pub Meant : Outcome → Type 0
Meant o = (r : ℕ) → o ≡ refused r → by_meaning r ≡ true

abbrev pub Numbered : Outcome → Type 0
Numbered o = (r : ℕ) → o ≡ refused r → Refusal r

by_number : (q : ℕ) → by_meaning q ≡ true → Meant (refused q)
by_number q h r e = let same : q ≡ r = cc in rw (← same) h

by_edit : {S : ℕ → Step} → Meant (edited S)
by_edit r e = absurd (refused-edited r (sym e))

by_removal : {Y : Complex} → Meant (removed Y)
by_removal r e = absurd (refused-removed r (sym e))

guard : (t : Bool) {o : Outcome} (q : ℕ) → by_meaning q ≡ true → Meant o → Meant (unless t q o)
guard t q h n = cond_each Meant t (λ e. n) (λ e. by_number q h)

module _ (F : Faces) (X : Complex) where
  make_meant : (k : ℕ) → Meant (make_step k F X)
  unfolding make_step
  make_meant k =
      guard (all_below (X (pred k)).n F) no_such_cell refl
      (guard (ltb (X k).n 96) no_room refl (guard (closed k (chain_of F) X) not_closed refl by_edit))

  split_meant : (k s : ℕ) → Meant (split_step k s F X)
  unfolding split_step
  split_meant k s =
      let m = pred k in
      let v : Chain = λ i. (X k).d i s in
      let p = chosen k F v in
      guard (ltb s (X k).n && all_below (X m).n F) no_such_cell refl
      (guard (ltb (X m).n 96 && ltb (X k).n 96) no_room refl
      (guard (is_part p v) wrong_part refl (guard (divides m (boundary (X m) (part p v))) wrong_divider refl by_edit)))

  flip_meant : (k c : ℕ) → Meant (flip_step k c X)
  unfolding flip_step
  flip_meant k c = guard (ltb c (X k).n) no_such_cell refl by_edit

  -- 12 would be the number of a merge, but never is on a good pattern
  merge_meant : Good X → (k t : ℕ) → Meant (merge_step k t X)
  merge_meant G k t =
      let v : Chain = λ j. (X (suc k)).d t j in
      rw (merge-step-is G k t)
      (guard (ltb t (X k).n) no_such_cell refl
      (guard (one_each v) not_between refl
      (guard (share_only t (λ i. (X (suc k)).d i (lower v)) (λ i. (X (suc k)).d i (higher v))) shared_face refl by_removal)))

  pub step_meant : Good X → (o : Operator) → Meant (step o F X)
  unfolding step kill_step
  step_meant G (Make k list) = make_meant k
  step_meant G (Kill k c) = guard (ltb c (X k).n) no_such_cell refl (guard (all_zero (λ j. (X (suc k)).d c j)) in_use refl by_removal)
  step_meant G (Split k s list) = split_meant k s
  step_meant G (Merge k t) = merge_meant G k t
  step_meant G (Flip k c) = flip_meant k c

  pub carry_meant : (o : Operator) → Meant (carry_step o F X)
  unfolding carry_step step
  carry_meant (Make k list) = make_meant k
  carry_meant (Kill k c) = by_number not_carried refl
  carry_meant (Split k s list) = split_meant k s
  carry_meant (Merge k t) = by_number not_carried refl
  carry_meant (Flip k c) = flip_meant k c

  pub step-numbered : Good X → (o : Operator) → Numbered (step o F X)
  step-numbered G o r q = meaning_numbered r (step_meant G o r q)

  pub carry_numbered : (o : Operator) → Numbered (carry_step o F X)
  carry_numbered o r q = meaning_numbered r (carry_meant o r q)

pub fault_numbered : (f : Fault) → Refusal (fault_number f)
fault_numbered (Fault.Ends at) = refusal_is bytes_end refl
fault_numbered (Fault.Wrong at) = refusal_is wrong_form refl
fault_numbered (Fault.Left at) = refusal_is bytes_left refl
