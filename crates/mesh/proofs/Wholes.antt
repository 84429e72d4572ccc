-- The whole reading: how it begins, what a section adds to it, and what the call answers.
use Rattle.std.specs.Prelude.{Ok, Err}
use mathlib.Core.Path.{◌≡◌, refl, sym, ap, ◌∙◌}
use mathlib.Core.Logic.{◌≢◌}
use mathlib.Core.Bool.{true, false}
use mathlib.Core.List.{List, [], ◌∷◌}
use Prim.Native.Nat.{ℕ, zero, suc, ◌+◌, ◌≤◌}
use native.Mathlib.Omega.{arith}
use Rattle.rules.specs.Answers.{MeshRead}
use Rattle.rules.specs.declared.counts.Counts.{Counts}
use Rattle.rules.specs.declared.form.Fault.{Fault}
use Rattle.rules.specs.declared.refusals.Stop.{Stop}
use Rattle.rules.specs.Refusals.{accepted, wrong_length, no_place}
use Rattle.rules.specs.Complex.{Pattern, pattern, Complex, empty, stored}
use Rattle.rules.specs.Form.{byte_at}
use Rattle.rules.specs.Mesh.{Reading, faulty, refused, taken, Place, corners, read_section, read_mesh, after_reading}
use Rattle.rules.specs.Calls.{lent, sized, no_mesh, read_call}
use Rattle.rules.specs.Told.{stop_number, stop_place}
use Rattle.rules.proofs.Bytes.Fields.{byte_says}
use Rattle.rules.proofs.Texts.ReadGood.{corners-good}
use Rattle.rules.proofs.Storage.Stored.{complex-stored, stored-complex, stored-held}
use Rattle.mesh.specs.Reading.{reached, refusal_of, PartTaken, PartStopped, from, TakenUpTo, Refused}
use Rattle.mesh.proofs.Numbers.{stop-not_accepted}

-- n corners
abbrev corner_counts : ℕ → Counts
corner_counts n = record { n = n ∷ 0 ∷ 0 ∷ 0 ∷ [] }

module _ (s : List ℕ) where
  -- the corner count
  begins : {n : ℕ} → byte_at s 0 0 96 ≡ Ok n → read_mesh s ≡ from s 1 (corners n, 1)
  unfolding read_mesh from
  begins e = rw e

  -- they are taken into an empty pattern
  pub corners_read : {n : ℕ} {p : Pattern} → p ≡ stored empty → byte_at s 0 0 96 ≡ Ok n → TakenUpTo s 1 1 (pattern (corner_counts n) p.m1 p.m2 p.m3)
  corners_read {n} h e =
      let G = corners-good n (byte_says s 0 0 96 n e).most in
      rw h (record { held = stored-held G; goes = begins e ∙ ap (λ X. from s 1 (X, 1)) (sym (complex-stored G)) })

  corners-faulty : {f : Fault} → byte_at s 0 0 96 ≡ Err f → read_mesh s ≡ faulty f
  unfolding read_mesh
  corners-faulty e = rw e

  pub corners-refused : {f : Fault} {p : Pattern} → p ≡ stored empty → byte_at s 0 0 96 ≡ Err f → Refused s (Stop.Form f) p
  corners-refused h e = record { held = rw h (stored-held (corners-good 0 (omega arith))); refusal = ap refusal_of (corners-faulty e) }

  -- the next section, and what is left after it
  from_next : (k : ℕ) (x : Place) → 1 ≤ k → k ≤ 3 → from s k x ≡ read_section s k x (from s (k + 1))
  unfolding from
  from_next zero x l h = absurd (omega arith)
  from_next (suc zero) x l h = refl
  from_next (suc (suc zero)) x l h = refl
  from_next (suc (suc (suc zero))) x l h = refl
  from_next (suc (suc (suc (suc k)))) x l h = absurd (omega arith)

  module _ (k : ℕ) (l : 1 ≤ k) (h : k ≤ 3) {at : ℕ} {p : Pattern} (T : TakenUpTo s k at p) where
    so : read_mesh s ≡ read_section s k (reached p at) (from s (k + 1))
    so = T.goes ∙ from_next k (reached p at) l h

    pub section_taken : {next : ℕ} {q : Pattern} → PartTaken (read_section s k (reached p at)) next q → TakenUpTo s (k + 1) next q
    section_taken W = record { held = W.held; goes = so ∙ W.goes (from s (k + 1)) }

    pub section_stopped : {stop : Stop} {q : Pattern} → PartStopped (read_section s k (reached p at)) stop q → Refused s stop q
    section_stopped E = record { held = E.held; refusal = ap refusal_of (so ∙ E.is (from s (k + 1))) ∙ E.refusal }

-- what the call answers
module _ (s : List ℕ) (p : Pattern) where
  pub wrong_length_lem : sized p ≡ false → lent (no_mesh wrong_length no_place) p ≡ read_call s p
  unfolding read_call
  wrong_length_lem e = rw e

  module _ (long : sized p ≡ true) where
    pub reading_taken : {used : ℕ} {q : Pattern} → TakenUpTo s 4 used q
        → lent (record { counts = q.counts; used = used; refusal = accepted; place = no_place }) q ≡ read_call s p
    unfolding read_call from
    reading_taken {used} {q} T =
        let answer : Pattern → MeshRead = λ q. record { counts = q.counts; used = used; refusal = accepted; place = no_place } in
        rw (long, T.goes) (sym (ap (λ q. lent (answer q) q) (stored-complex q T.held.sized)))

    refused_as : {A : Type 0} (bad : ℕ → ℕ → A) (go : Complex → ℕ → A) (x : Reading) {r at : ℕ} → refusal_of x ≡ (r, at) → r ≢ accepted → bad r at ≡ after_reading x bad go
    refused_as bad go (faulty f) e n = sym (ap (λ (y : ℕ × ℕ). bad y.0 y.1) e)
    refused_as bad go (refused r) e n = sym (ap (λ (y : ℕ × ℕ). bad y.0 y.1) e)
    refused_as bad go (taken X used) e n = absurd (n (sym (ap (λ (y : ℕ × ℕ). y.0) e)))

    pub reading_refused : {stop : Stop} {q q' : Pattern} → Refused s stop q → q' ≡ stored empty
        → lent (record { counts = q'.counts; used = 0; refusal = stop_number stop; place = stop_place stop }) q' ≡ read_call s p
    unfolding read_call
    reading_refused {stop} S Z =
        rw (Z, long)
        (refused_as (λ r at. lent (no_mesh r at) (stored empty)) _ (read_mesh s) S.refusal (stop-not_accepted stop))
