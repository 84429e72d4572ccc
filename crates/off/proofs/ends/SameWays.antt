-- Ends that are the same below n give the same seams and ways among the first n.
use mathlib.Core.Path.{◌≡◌, refl}
use Prim.Native.Nat.{ℕ, zero, suc, ◌<◌, ◌≤◌}
use native.Mathlib.Omega.{arith}
use Rattle.rules.specs.Complex.{Chain}
use Rattle.off.specs.Sewing.{SeamEnds, goes_from, seam_among}
use Rattle.off.specs.Exporting.{leaves_by, next_among, is_alone}

-- two lists of ends that agree below n
pub record SameBelow (n : ℕ) (E F : SeamEnds) : Type 0 where
  pub tail : (j : ℕ) → j < n → E.tail j ≡ F.tail j
  pub head : (j : ℕ) → j < n → E.head j ≡ F.head j

pub fewer : {n : ℕ} {E F : SeamEnds} (m : ℕ) → m ≤ n → SameBelow n E F → SameBelow m E F
fewer m l s = record { tail = λ j h. s.tail j (omega arith); head = λ j h. s.head j (omega arith) }

pub same_seam : (n : ℕ) {E F : SeamEnds} → SameBelow n E F → (a b : ℕ) → seam_among E n a b ≡ seam_among F n a b
unfolding seam_among goes_from
same_seam zero s a b = refl
same_seam (suc j) s a b = rw (s.tail j (omega arith), s.head j (omega arith), same_seam j (fewer j (omega arith) s) a b)

pub same_next : (n : ℕ) {E F : SeamEnds} → SameBelow n E F → (v : Chain) (a : ℕ) → next_among E v n a ≡ next_among F v n a
unfolding next_among leaves_by
same_next zero s v a = refl
same_next (suc j) s v a = rw (s.tail j (omega arith), s.head j (omega arith), same_next j (fewer j (omega arith) s) v a)

pub same_alone : {n : ℕ} {E F : SeamEnds} → SameBelow n E F → (j : ℕ) → j < n → is_alone E j ≡ is_alone F j
unfolding is_alone
same_alone s j h = rw (s.tail j h, s.head j h, same_seam j (fewer j (omega arith) s))
