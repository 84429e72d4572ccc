-- A list of faces as it was written is read: each entry in form, and the chain that they are.
use Rattle.std.specs.Prelude.{Ok, Err}
use mathlib.Core.Path.{◌≡◌, refl, sym}
use mathlib.Core.Logic.{◌≢◌}
use mathlib.Core.Bool.{true, false, not, cond}
use mathlib.Core.List.{List, []}
use Prim.Native.Nat.{ℕ, zero, suc, ◌+◌, ◌*◌, ◌<◌, ◌≤◌}
use native.Mathlib.Omega.{arith}
use lib.ListN.{get_or}
use lib.IntN.{ℤ, pos, nat_abs, ◌+ℤ◌, ◌*ℤ◌}
use Rattle.maths.specs.Tests.{eq_z, is_zero, count}
use Rattle.maths.specs.Sums.{sum, δ, join}
use Rattle.maths.specs.Repeat.{repeat}
use Rattle.maths.proofs.Integers.{ints}
use Rattle.maths.proofs.Cases.{bool_or, eq_or}
use Rattle.maths.proofs.Tests.{by_sign, zero-true, zero-false}
use Rattle.maths.proofs.Sums.{sum-suc, δ_same, δ_no}
use Rattle.rules.specs.Complex.{Chain}
use Rattle.rules.specs.Form.{after_entry, entry_at, sign_of, Field}
use Rattle.rules.specs.Mesh.{pair}
use Rattle.rules.proofs.Bytes.Fields.{byte_got}
use Rattle.rules.proofs.Bytes.Listed.{IsSign}
use Rattle.rules.proofs.Texts.Texts.{Text, ends, text-none, Two, two, text-divided}
use Rattle.maths.proofs.Repeat.{repeat-last}

-- the number of faces below n, and their text
abbrev pub faces_below : Chain → ℕ → ℕ
faces_below v n = count n (λ i. not (is_zero (v i)))

abbrev pub face_text : Chain → ℕ → List ℕ
face_text v n = join n (λ i. cond (is_zero (v i)) [] (pair i (v i)))

-- number and sign of entry l of the list at `at`
abbrev pub number_at : List ℕ → ℕ → ℕ → ℕ
number_at s at l = get_or s (at + 1 + 2 * l) 0

abbrev pub sign_at : List ℕ → ℕ → ℕ → ℕ
sign_at s at l = get_or s (at + 2 + 2 * l) 0

-- an entry, as a loop over entries reads it: the place and the least number
abbrev read_entry : List ℕ → ℕ × ℕ → (ℕ × ℕ → Field) → Field
read_entry s x go = after_entry (entry_at true s x.0 x.1) Err λ low next. go (next, low)

-- the coefficient of face i that the first n entries of the list at `at` have
abbrev listed_at : List ℕ → ℕ → ℕ → ℕ → ℤ
listed_at s at n i = sum n (λ l. sign_of (sign_at s at l) *ℤ δ (number_at s at l) i)

-- what is read of the list at `at`, up to `next`: the faces of v below n
pub record Below (s : List ℕ) (at : ℕ) (v : Chain) (n next : ℕ) : Type 0 where
  pub low : ℕ
  pub least : low ≤ n
  pub place : next ≡ at + 1 + 2 * faces_below v n
  pub read : (done : ℕ × ℕ → Field) → repeat (read_entry s) done (faces_below v n) (at + 1, 0) ≡ done (next, low)
  pub each : (l : ℕ) → l < faces_below v n → v (number_at s at l) ≢ pos 0
  pub has : (i : ℕ) → i < n → listed_at s at (faces_below v n) i ≡ v i
  pub rest : (i : ℕ) → n ≤ i → listed_at s at (faces_below v n) i ≡ pos 0

-- the byte of a sign
record Sign (z : ℤ) (b : ℕ) : Type 0 where
  form : IsSign b
  is : sign_of b ≡ z

sign_of_lem : (z : ℤ) → nat_abs z ≤ 1 → z ≢ pos 0 → Sign z (cond (eq_z z (pos 1)) 1 2)
unfolding eq_z
sign_of_lem =
    by_sign (λ z. z ≢ pos 0 → Sign z (cond (eq_z z (pos 1)) 1 2))
    (λ n. record { form = (omega arith, omega arith); is = refl })
    (λ n. absurd (n refl))
    (λ n. record { form = (omega arith, omega arith); is = refl })

module _ {s : List ℕ} where
  entry_read : {at next x b : ℕ} {z : ℤ} (low : ℕ) → Two s at x b next → Sign z b → low ≤ x → x ≤ 255 → entry_at true s at low ≡ Ok (x + 1, next)
  unfolding entry_at
  entry_read {at} {next} {x} {b} low t g l m =
      rw (
        byte_got s at low 255 x (record { there = omega arith; is = sym t.one; least = l; most = m }),
        byte_got s (at + 1) 1 2 b (record { there = t.there; is = sym t.other; least = g.form.0; most = g.form.1 }),
        t.place,
      )

module _ {s : List ℕ} {at : ℕ} {v : Chain} where
  none_below : Below s at v 0 (at + 1)
  unfolding count sum repeat
  none_below = record {
    low = 0;
    least = omega arith;
    place = omega arith;
    read = λ done. refl;
    each = λ l h. absurd (omega arith);
    has = λ i h. absurd (omega arith);
    rest = λ i h. refl;
  }

  -- one number more, which is no face
  no_face : {n next : ℕ} → is_zero (v n) ≡ true → Below s at v n next → Below s at v (suc n) next
  unfolding count
  no_face {n} {next} z b =
      let c : faces_below v (suc n) ≡ faces_below v n = rw z (omega arith) in
      record {
        low = b.low;
        least = omega (arith, b.least);
        place = rw c b.place;
        read = λ done. rw c (b.read done);
        each = λ l h. b.each l (omega arith);
        has = λ i h. rw c (eq_or i n (λ e. rw (e, b.rest n (omega arith)) (sym (zero-true z))) (λ e. b.has i (omega arith)));
        rest = λ i h. rw c (b.rest i (omega arith));
      }

  -- one face more, and its entry
  face : {n mid next : ℕ} → n ≤ 255 → nat_abs (v n) ≤ 1 → is_zero (v n) ≡ false → Below s at v n mid → Text s mid (pair n (v n)) next → Below s at v (suc n) next
  unfolding count
  face {n} {mid} {next} l u z b r =
      let c : faces_below v (suc n) ≡ suc (faces_below v n) = rw z (omega arith) in
      let t = two r in
      let g = sign_of_lem (v n) u (zero-false z) in
      let p₁ : at + 1 + 2 * faces_below v n ≡ mid = sym b.place in
      let p₂ : at + 2 + 2 * faces_below v n ≡ mid + 1 = omega arith in
      let more : (i : ℕ) → listed_at s at (faces_below v (suc n)) i ≡ listed_at s at (faces_below v n) i +ℤ v n *ℤ δ n i =
      λ i. rw (c, sum-suc, p₁, p₂, t.one, t.other, g.is) in
      record {
        low = n + 1;
        least = omega arith;
        place = rw c (omega (arith, b.place));
        read = λ done. rw (c, repeat-last, b.read, entry_read b.low t g b.least l);
        each = λ m h. eq_or m (faces_below v n) (λ e. rw (e, p₁, t.one) (zero-false z)) (λ e. b.each m (omega arith));
        has = λ i h. rw (more i) (eq_or i n
            (λ e. rw (e, b.rest n (omega arith), δ_same) (simp ints))
            (λ e. rw (b.has i (omega arith), δ_no n i e) (simp ints)));
        rest = λ i h. rw (more i, b.rest i (omega arith), δ_no n i (omega arith)) (simp ints);
      }

  number : {n mid next : ℕ} → n ≤ 255 → nat_abs (v n) ≤ 1 → Below s at v n mid → Text s mid (cond (is_zero (v n)) [] (pair n (v n))) next → Below s at v (suc n) next
  number {n} l u b r = bool_or (is_zero (v n))
      (λ z. rw (text-none (rw z at r)) (no_face z b))
      (λ z. face l u z b (rw z at r))

  -- the faces below n as they were written
  pub below : {next : ℕ} (n : ℕ) → n ≤ 256 → ((i : ℕ) → nat_abs (v i) ≤ 1) → Text s (at + 1) (face_text v n) next → Below s at v n next
  unfolding join
  below zero l u ends = none_below
  below {next = next} (suc n) l u r =
      let d = text-divided (face_text v n) r in
      number (omega arith) (u n) (below {next = d.0} n (omega arith) u d.1) d.2
