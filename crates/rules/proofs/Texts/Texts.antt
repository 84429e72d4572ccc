-- Texts: bytes that stand at a place of a longer list, and how they follow one another there.
use mathlib.Core.Path.{◌≡◌, refl}
use mathlib.Core.List.{List, [], ◌∷◌, ◌++◌}
use Prim.Native.Nat.{ℕ, suc, ◌+◌, ◌<◌, ◌≤◌}
use native.Mathlib.Numerals.{add-one}
use native.Mathlib.Omega.{arith}
use lib.ListN.{length, get_or, take, drop}
use lib.Seq.{drop-cons}

-- the bytes of s from the first place up to the second are t
pub data Text (s : List ℕ) : ℕ → List ℕ → ℕ → Type 0 where
  ends : {at : ℕ} → Text s at [] at
  byte : {at x next : ℕ} {t : List ℕ} → at < length s → get_or s at 0 ≡ x → Text s (at + 1) t next → Text s at (x ∷ t) next

-- a text of two bytes
pub record Two (s : List ℕ) (at x y next : ℕ) : Type 0 where
  pub there : at + 1 < length s
  pub one : get_or s at 0 ≡ x
  pub other : get_or s (at + 1) 0 ≡ y
  pub place : next ≡ at + 2

-- a list begins with itself
moved : {s t : List ℕ} {at next : ℕ} (x : ℕ) → Text s at t next → Text (x ∷ s) (suc at) t (suc next)
moved x ends = ends
moved {s} x (byte {at = at} {next = next} {t = t} h e r) =
    let l : suc at < length (x ∷ s) = omega arith in
    let m : Text (x ∷ s) (suc at + 1) t (suc next) = rw (add-one, ← add-one at) (moved x r) in
    byte l e m

pub whole-text : (t rest : List ℕ) → Text (t ++ rest) 0 t (length t)
whole-text [] rest = ends
whole-text (x ∷ t) rest = let l : 0 < length (x ∷ (t ++ rest)) = omega arith in byte l refl (moved x (whole-text t rest))

module _ {s : List ℕ} where
  pub text-none : {at next : ℕ} → Text s at [] next → next ≡ at
  text-none ends = refl

  pub text-length : {at next : ℕ} {t : List ℕ} → Text s at t next → next ≡ at + length t
  text-length ends = omega arith
  text-length (byte h e r) = omega (arith, text-length r)

  pub two : {at x y next : ℕ} → Text s at (x ∷ y ∷ []) next → Two s at x y next
  two (byte h e (byte h' e' ends)) = record { there = h'; one = e; other = e'; place = omega arith }

  pub two_text : {at x y next : ℕ} → Two s at x y next → Text s at (x ∷ y ∷ []) next
  two_text {at} {x} {y} {next} r =
      let h : at < length s = omega arith in
      let q : Text s (at + 1) (y ∷ []) (at + 1 + 1) = byte r.there r.other ends in
      let p : next ≡ at + 1 + 1 = omega arith in
      rw p (byte h r.one q)

  pub text-within : {at next : ℕ} {t : List ℕ} → Text s at t next → at ≤ length s → next ≤ length s
  text-within ends l = l
  text-within (byte h e r) l = text-within r (omega arith)

  pub text-is : {at next : ℕ} {t : List ℕ} → Text s at t next → t ≡ take (length t) (drop at s)
  text-is ends = refl
  text-is (byte {at = at} {x = x} {t = t} h e r) = rw (drop-cons s at 0, e, ← add-one, ← text-is r)

  -- one text after another
  pub joined : {at mid next : ℕ} {t u : List ℕ} → Text s at t mid → Text s mid u next → Text s at (t ++ u) next
  joined ends r = r
  joined (byte h e l) r = byte h e (joined l r)

  pub text-divided : {at next : ℕ} (t : List ℕ) {u : List ℕ} → Text s at (t ++ u) next → (mid : ℕ) × Text s at t mid × Text s mid u next
  text-divided {at} [] r = (at, ends, r)
  text-divided {at = at} {next = next} (x ∷ t) {u = u} (byte h e r) = let d = text-divided {at = at + 1} t r in (d.0, byte h e d.1, d.2)
