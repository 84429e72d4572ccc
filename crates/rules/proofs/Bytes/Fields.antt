-- What a field that was read says, and how an answer says which fields were in form.
use Rattle.std.specs.Prelude.{Ok, Err}
use mathlib.Core.Path.{◌≡◌, refl, ap}
use mathlib.Core.Logic.{◌≢◌}
use mathlib.Core.Bool.{Bool, true, false, cond}
use mathlib.Core.List.{List}
use Prim.Native.Nat.{ℕ, ◌+◌, ◌*◌, ◌<◌, ◌≤◌}
use native.Mathlib.Omega.{arith}
use borrow.Author.Tests.{ltb-true, leb-true, lt-ltb, le-leb}
use lib.Dec.{ltb, leb}
use lib.ListN.{length, get_or}
use Rattle.maths.proofs.Cases.{and_left, and_right}
use Rattle.rules.specs.declared.form.Fault.{Fault}
use Rattle.rules.specs.declared.operator.Operator.{Operator}
use Rattle.rules.specs.Form.{within, judged, byte_at, word_at, after, after_entry, after_operator, Field, EntryForm, OperatorForm}

-- a byte of s at `at` from low to high
pub record Byte (s : List ℕ) (at low high x : ℕ) : Type 0 where
  pub there : at < length s
  pub is : x ≡ get_or s at 0
  pub least : low ≤ x
  pub most : x ≤ high

-- a field of two bytes, at most `high`
pub record Word (s : List ℕ) (at high x : ℕ) : Type 0 where
  pub there : at + 1 < length s
  pub is : x ≡ get_or s at 0 + 256 * get_or s (at + 1) 0
  pub most : x ≤ high

-- a fault is nothing that was read
pub bad_field : {x : ℕ} (f : Fault) → Err f ≢ Ok x
bad_field f e = let z : ◌≡◌ {A = ℕ} 0 1 = cc in omega arith

pub bad_entry : {low next : ℕ} (f : Fault) → ◌≢◌ {A = EntryForm} (Err f) (Ok (low, next))
bad_entry f e = let z : ◌≡◌ {A = ℕ} 0 1 = cc in omega arith

pub bad_operator : {o : Operator} {next : ℕ} (f : Fault) → ◌≢◌ {A = OperatorForm} (Err f) (Ok (o, next))
bad_operator f e = let z : ◌≡◌ {A = ℕ} 0 1 = cc in omega arith

-- two that were read and are the same agree in number and place
pub same_entry : {low low' next next' : ℕ} → ◌≡◌ {A = EntryForm} (Ok (low, next)) (Ok (low', next')) → (low ≡ low') × (next ≡ next')
same_entry {low} {low'} {next} {next'} e = let p : ◌≡◌ {A = ℕ × ℕ} (low, next) (low', next') = cc e in (ap (λ x. x.0) p, ap (λ x. x.1) p)

pub same_operator : {o o' : Operator} {next next' : ℕ} → ◌≡◌ {A = OperatorForm} (Ok (o, next)) (Ok (o', next')) → (o ≡ o') × (next ≡ next')
same_operator {o} {o'} {next} {next'} e = let p : ◌≡◌ {A = Operator × ℕ} (o, next) (o', next') = cc e in (ap (λ x. x.0) p, ap (λ x. x.1) p)

-- a field of which a test asks more
got_if : (t : Bool) (f : Field) (g : Fault) {x : ℕ} → cond t f (Err g) ≡ Ok x → (t ≡ true) × (f ≡ Ok x)
got_if true f g e = (refl, e)
got_if false f g e = absurd (bad_field g e)

judged_got : (at low high x y : ℕ) → judged at low high x ≡ Ok y → (y ≡ x) × (low ≤ x) × (x ≤ high)
judged_got at low high x y e =
    let a = got_if (within low high x) _ _ e in
    (cc a.1, leb-true low x (and_left (leb low x) (leb x high) a.0), leb-true x high (and_right (leb low x) (leb x high) a.0))

module _ (s : List ℕ) (at low high : ℕ) where
  pub byte_says : (x : ℕ) → byte_at s at low high ≡ Ok x → Byte s at low high x
  unfolding byte_at
  byte_says x e =
      let a = got_if (ltb at (length s)) _ _ e in
      let j = judged_got at low high (get_or s at 0) x a.1 in
      record { there = ltb-true at (length s) a.0; is = j.0; least = omega (arith, j.0, j.1); most = omega (arith, j.0, j.2) }

  pub byte_got : (x : ℕ) → Byte s at low high x → byte_at s at low high ≡ Ok x
  unfolding byte_at
  byte_got x b =
      let l : low ≤ get_or s at 0 = omega (arith, b.is, b.least) in
      let h : get_or s at 0 ≤ high = omega (arith, b.is, b.most) in
      rw (lt-ltb at (length s) b.there, le-leb low (get_or s at 0) l, le-leb (get_or s at 0) high h, b.is)

module _ (s : List ℕ) (at high : ℕ) where
  pub word_says : (x : ℕ) → word_at s at high ≡ Ok x → Word s at high x
  unfolding word_at
  word_says x e =
      let a = got_if (ltb (at + 1) (length s)) _ _ e in
      let j = judged_got at 0 high (get_or s at 0 + 256 * get_or s (at + 1) 0) x a.1 in
      record { there = ltb-true (at + 1) (length s) a.0; is = j.0; most = omega (arith, j.0, j.2) }

-- an answer that is none of a fault's says that the field, entry or operator was in form, and what followed
pub after_got : {A : Type 0} {bad : Fault → A} {go : ℕ → A} {r : A} (f : Field) → ((g : Fault) → bad g ≢ r) → after f bad go ≡ r → (x : ℕ) × (f ≡ Ok x) × (go x ≡ r)
after_got (Ok x) not e = (x, refl, e)
after_got (Err g) not e = absurd (not g e)

-- the same of a byte: what it is, and what followed
pub byte_after : {A : Type 0} {bad : Fault → A} {r : A} (s : List ℕ) (at low high : ℕ) (go : ℕ → A) → ((f : Fault) → bad f ≢ r) →
    after (byte_at s at low high) bad go ≡ r → Byte s at low high (get_or s at 0) × (go (get_or s at 0) ≡ r)
byte_after s at low high go other e =
    let a = after_got (byte_at s at low high) other e in
    let b = byte_says s at low high a.0 a.1 in
    (rw b.is at b, rw b.is at a.2)

pub after_entry_lem : {A : Type 0} {bad : Fault → A} {go : ℕ → ℕ → A} {r : A} (f : EntryForm) → ((g : Fault) → bad g ≢ r) → after_entry f bad go ≡ r →
    (low : ℕ) × (next : ℕ) × (f ≡ Ok (low, next)) × (go low next ≡ r)
after_entry_lem (Ok (low, next)) not e = (low, next, refl, e)
after_entry_lem (Err g) not e = absurd (not g e)

pub after_operator_lem : {A : Type 0} {bad : Fault → A} {go : Operator → ℕ → A} {r : A} (f : OperatorForm) → ((g : Fault) → bad g ≢ r) → after_operator f bad go ≡ r →
    (o : Operator) × (next : ℕ) × (f ≡ Ok (o, next)) × (go o next ≡ r)
after_operator_lem (Ok (o, next)) not e = (o, next, refl, e)
after_operator_lem (Err g) not e = absurd (not g e)
