-- A list of faces that was read is written as it stood: number by number, each that is listed and none else.
use mathlib.Core.Path.{◌≡◌, refl, ◌∙◌, ap}
use mathlib.Core.Logic.{◌≢◌}
use mathlib.Core.Bool.{cond}
use mathlib.Core.List.{List, append-nil}
use Prim.Native.Nat.{ℕ, zero, suc, ◌+◌, ◌*◌, ◌<◌, ◌≤◌}
use native.Mathlib.Nat.{add-zero}
use native.Mathlib.Omega.{arith}
use lib.ListN.{length, get_or}
use lib.IntN.{pos}
use Rattle.maths.specs.Tests.{eq_z, count}
use Rattle.maths.specs.Sums.{join}
use Rattle.maths.proofs.Cases.{eq_or, lt_or}
use Rattle.maths.proofs.Tests.{zero_is, not-zero}
use Rattle.rules.specs.Complex.{Chain}
use Rattle.rules.specs.Form.{sign_of}
use Rattle.rules.proofs.Layers.Seams.{minus-not-zero, one_not_zero}
use Rattle.rules.proofs.Bytes.Listed.{IsSign}
use Rattle.rules.proofs.Texts.Texts.{Text, ends, Two, two_text, joined}
use Rattle.rules.proofs.Texts.ListsRead.{faces_below, face_text, number_at, sign_at}

-- v is the chain of the N entries of the list at `at`
pub record Shown (s : List ℕ) (at N : ℕ) (v : Chain) : Type 0 where
  pub inside : at + 1 + 2 * N ≤ length s
  pub rising : (l l' : ℕ) → l < l' → l' < N → number_at s at l < number_at s at l'
  pub signs : (l : ℕ) → l < N → IsSign (sign_at s at l)
  pub below : (l : ℕ) → l < N → number_at s at l < 96
  pub has : (l : ℕ) → l < N → v (number_at s at l) ≡ sign_of (sign_at s at l)
  pub rest : (i : ℕ) → ((l : ℕ) → l < N → number_at s at l ≢ i) → v i ≡ pos 0

-- of the numbers below n, the first c entries are written
record Written (s : List ℕ) (at N : ℕ) (v : Chain) (n c : ℕ) : Type 0 where
  most : c ≤ N
  number : faces_below v n ≡ c
  text : Text s (at + 1) (face_text v n) (at + 1 + 2 * c)
  done : (l : ℕ) → l < c → number_at s at l < n
  left : (l : ℕ) → c ≤ l → l < N → n ≤ number_at s at l

-- the byte of a sign is written as it was read
sign-back : (b : ℕ) → IsSign b → (sign_of b ≢ pos 0) × (cond (eq_z (sign_of b) (pos 1)) 1 2 ≡ b)
unfolding eq_z
sign-back b h = eq_or b 1
    (λ e. rw e (one_not_zero refl, refl))
    (λ n. let e : b ≡ 2 = omega (arith, h.0, h.1) in rw e (minus-not-zero refl, refl))

module _ {s : List ℕ} {at N : ℕ} {v : Chain} (S : Shown s at N v) where
  none_written : Written s at N v 0 0
  unfolding count join
  none_written = record {
    most = omega arith;
    number = refl;
    text = rw add-zero ends;
    done = λ l h. absurd (omega arith);
    left = λ l a b. omega arith;
  }

  -- a number that is not listed
  skipped : {n c : ℕ} → ((l : ℕ) → l < N → number_at s at l ≢ n) → Written s at N v n c → Written s at N v (suc n) c
  unfolding count join
  skipped {n} {c} off w =
      let z = S.rest n off in
      record {
        most = w.most;
        number = rw (z, zero_is, w.number) (omega arith);
        text = rw (z, zero_is, append-nil) w.text;
        done = λ l h. omega (arith, w.done l h);
        left = λ l a b. omega (arith, w.left l a b, off l b);
      }

  -- the next entry's number
  entered : {n c : ℕ} → c < N → number_at s at c ≡ n → Written s at N v n c → Written s at N v (suc n) (suc c)
  unfolding count join
  entered {n} {c} h e w =
      let q : v n ≡ sign_of (sign_at s at c) = rw (← e) (S.has c h) in
      let g = sign-back (sign_at s at c) (S.signs c h) in
      let p : at + 1 + 2 * c + 1 ≡ at + 2 + 2 * c = omega arith in
      let t : Two s (at + 1 + 2 * c) n (sign_at s at c) (at + 1 + 2 * suc c) =
      record { there = omega (arith, S.inside); one = e; other = ap (λ p. get_or s p 0) p; place = omega arith } in
      record {
        most = h;
        number = rw (q, not-zero g.0, w.number) (omega arith);
        text = rw (q, not-zero g.0, g.1) (joined w.text (two_text t));
        done = λ l a. eq_or l c (λ f. rw (f, e) (omega arith)) (λ f. omega (arith, w.done l (omega arith)));
        left = λ l a b. omega (arith, S.rising c l (omega arith) b);
      }

  unlisted : {n c : ℕ} → (c < N → number_at s at c ≢ n) → Written s at N v n c → (l : ℕ) → l < N → number_at s at l ≢ n
  unlisted {n} {c} next w l h = lt_or l c
      (λ a. omega (arith, w.done l a))
      (λ a. eq_or l c
      (λ e. rw e (next (omega arith)))
      (λ e. omega (arith, w.left c (omega arith) (omega arith), S.rising c l (omega arith) h)))

  turn : {n c : ℕ} → Written s at N v n c → (c' : ℕ) × Written s at N v (suc n) c'
  turn {n} {c} w = lt_or c N
      (λ h. eq_or (number_at s at c) n (λ e. (suc c, entered h e w)) (λ e. (c, skipped (unlisted (λ _. e) w) w)))
      (λ h. (c, skipped (unlisted (λ l. absurd (omega arith)) w) w))

  written : (n : ℕ) → (c : ℕ) × Written s at N v n c
  written zero = (0, none_written)
  written (suc n) = turn (written n).1

  -- all of it
  pub list_written : (faces_below v 96 ≡ N) × Text s (at + 1) (face_text v 96) (at + 1 + 2 * N)
  list_written =
      let w = written 96 in
      let e : w.0 ≡ N = lt_or w.0 N (λ h. absurd (omega (arith, w.1.left w.0 (omega arith) h, S.below w.0 h))) (λ h. omega (arith, w.1.most)) in
      (w.1.number ∙ e, rw e at w.1.text)
