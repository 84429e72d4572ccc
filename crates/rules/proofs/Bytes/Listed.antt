-- What the bytes of a list say: how many entries it has, that their numbers rise, and the place after it.
use Rattle.std.specs.Prelude.{Ok, Err}
use mathlib.Core.Path.{◌≡◌, sym, ap}
use mathlib.Core.Bool.{Bool, true, false, cond}
use mathlib.Core.List.{List}
use Prim.Native.Nat.{ℕ, zero, suc, ◌+◌, ◌*◌, ◌<◌, ◌≤◌}
use native.Mathlib.Nat.{add-zero, mul-zero, mul-suc, suc-mul}
use native.Mathlib.Omega.{arith}
use lib.ListN.{length, get_or}
use Rattle.maths.specs.Repeat.{repeat}
use Rattle.maths.proofs.Cases.{no_eq}
use Rattle.rules.specs.Form.{after_entry, entry_at, entries_at, list_at}
use Rattle.rules.proofs.Bytes.Fields.{bad_field, bad_entry, byte_after, after_entry_lem, same_entry}

-- how many bytes an entry has
abbrev pub width : Bool → ℕ
width signed = cond signed 2 1

-- "sign 1 for plus and 2 for minus"
abbrev pub IsSign : ℕ → Type 0
IsSign b = (1 ≤ b) × (b ≤ 2)

-- f 0, .., f (n - 1) rise, and none is below `low`
record Rise (n low : ℕ) (f : ℕ → ℕ) : Type 0 where
  least : (l : ℕ) → l < n → low ≤ f l
  rising : (l l' : ℕ) → l < l' → l' < n → f l < f l'

-- one before those of g, which are all above it
rise_more : {n low low' : ℕ} {f g : ℕ → ℕ} → low ≤ f 0 → low' ≡ f 0 + 1 → ((l : ℕ) → g l ≡ f (suc l)) → Rise n low' g → Rise (suc n) low f
rise_more {n} {low} {low'} {f} {g} h q same R = record { least = least; rising = rising }
  where
    least : (l : ℕ) → l < suc n → low ≤ f l
    least zero k = h
    least (suc l) k = omega (arith, R.least l (omega arith), same l)

    rising : (l l' : ℕ) → l < l' → l' < suc n → f l < f l'
    rising l zero k k' = absurd (omega arith)
    rising zero (suc l') k k' = omega (arith, R.least l' (omega arith), same l')
    rising (suc l) (suc l') k k' = omega (arith, R.rising l l' (omega arith) (omega arith), same l, same l')

-- an entry at `at` with a number that is at least `low`
record Entered (signed : Bool) (s : List ℕ) (at low low' next : ℕ) : Type 0 where
  least : low ≤ get_or s at 0
  low-is : low' ≡ get_or s at 0 + 1
  next-is : next ≡ at + width signed
  inside : next ≤ length s
  sign : signed ≡ true → IsSign (get_or s (at + 1) 0)

module _ (s : List ℕ) (at low low' next : ℕ) where
  entry_says : (signed : Bool) → entry_at signed s at low ≡ Ok (low', next) → Entered signed s at low low' next
  unfolding entry_at
  entry_says true e =
      let a = byte_after s at low 255 _ bad_entry e in
      let b = byte_after s (at + 1) 1 2 _ bad_entry a.1 in
      let same = same_entry b.1 in
      record { least = a.0.least; low-is = sym same.0; next-is = sym same.1; inside = omega (arith, b.0.there); sign = λ _. (b.0.least, b.0.most) }
  entry_says false e =
      let a = byte_after s at low 255 _ bad_entry e in
      let same = same_entry a.1 in
      record { least = a.0.least; low-is = sym same.0; next-is = sym same.1; inside = omega (arith, a.0.there); sign = λ h. no_eq h }

-- n entries from `at`
record Entries (signed : Bool) (s : List ℕ) (n at low next : ℕ) : Type 0 where
  next-is : next ≡ at + n * width signed
  inside : next ≤ length s
  rise : Rise n low (λ l. get_or s (at + width signed * l) 0)
  signs : signed ≡ true → (l : ℕ) → l < n → IsSign (get_or s (at + width signed * l + 1) 0)

module _ (signed : Bool) (s : List ℕ) where
  -- the first entry, and those after it
  entries_more : (n at low low' next' next : ℕ) → Entered signed s at low low' next' → Entries signed s n next' low' next → Entries signed s (suc n) at low next
  entries_more n at low low' next' next E R = record {
    next-is = omega (arith, E.next-is, R.next-is, suc-mul n (width signed));
    inside = R.inside;
    rise = rise_more (rw here E.least) (rw here E.low-is) (λ l. ap (λ p. get_or s p 0) (there l)) R.rise;
    signs = signs;
  }
    where
      here : at + width signed * 0 ≡ at
      here = rw mul-zero (add-zero at)

      there : (l : ℕ) → next' + width signed * l ≡ at + width signed * suc l
      there l = omega (arith, E.next-is, mul-suc (width signed) l)

      signs : signed ≡ true → (l : ℕ) → l < suc n → IsSign (get_or s (at + width signed * l + 1) 0)
      signs e zero k = rw here (E.sign e)
      signs e (suc l) k = rw (← there l) (R.signs e l (omega arith))

  entries_say : (n at low next : ℕ) → at ≤ length s →
      repeat {S = ℕ × ℕ} (λ x go. after_entry (entry_at signed s x.0 x.1) Err λ low next. go (next, low)) (λ x. Ok x.0) n (at, low) ≡ Ok next →
      Entries signed s n at low next
  unfolding repeat
  entries_say zero at low next h e =
      let q : at ≡ next = cc e in
      record {
        next-is = omega arith;
        inside = omega arith;
        rise = record { least = λ l k. absurd (omega arith); rising = λ l l' k k'. absurd (omega arith) };
        signs = λ _ l k. absurd (omega arith);
      }
  entries_say (suc n) at low next h e =
      let a = after_entry_lem (entry_at signed s at low) bad_field e in
      let E = entry_says s at low a.0 a.1 signed a.2 in
      entries_more n at low a.0 a.1 next E (entries_say n a.1 a.0 next E.inside a.3)

-- a list at `at`, rising, and the place after it
pub record Listed (signed : Bool) (s : List ℕ) (at next : ℕ) : Type 0 where
  pub there : at < length s
  pub few : get_or s at 0 ≤ 96
  pub next-is : next ≡ at + 1 + get_or s at 0 * width signed
  pub inside : next ≤ length s
  pub rising : (l l' : ℕ) → l < l' → l' < get_or s at 0 → get_or s (at + 1 + width signed * l) 0 < get_or s (at + 1 + width signed * l') 0
  pub signs : signed ≡ true → (l : ℕ) → l < get_or s at 0 → IsSign (get_or s (at + 2 + 2 * l) 0)

pub list_says : (signed : Bool) (s : List ℕ) (at next : ℕ) → list_at signed s at ≡ Ok next → Listed signed s at next
unfolding list_at entries_at
list_says signed s at next e =
    let a = byte_after s at 0 96 _ bad_field e in
    let E = entries_say signed s (get_or s at 0) (at + 1) 0 next (omega (arith, a.0.there)) a.1 in
    record {
      there = a.0.there;
      few = a.0.most;
      next-is = E.next-is;
      inside = E.inside;
      rising = E.rise.rising;
      signs = λ t l h. let p : at + 2 + 2 * l ≡ at + 1 + width signed * l + 1 = rw t (omega arith) in rw p (E.signs t l h);
    }
