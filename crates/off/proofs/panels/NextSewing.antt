-- The ring that was read is sewn on: each way that `sew_next` goes is the one that sewing goes.
use mathlib.Core.Path.{◌≡◌, sym, ◌∙◌}
use mathlib.Core.Bool.{true, false}
use mathlib.Core.List.{List}
use Prim.Native.Nat.{ℕ, ◌<◌}
use native.Mathlib.Omega.{arith}
use Rattle.std.specs.Prelude.{Err}
use lib.IntN.{ℤ}
use lib.ListN.{length}
use Rattle.maths.proofs.Cases.{bool_or}
use Rattle.rules.specs.declared.counts.Counts.{Counts}
use Rattle.rules.specs.declared.refusals.Refusal.{Refusal}
use Rattle.off.specs.declared.lines.RingRead.{RingRead}
use Rattle.off.specs.Plain.{Ring}
use Rattle.off.specs.Rings.{is_ring}
use Rattle.off.specs.Sewing.{sew_ring}
use Rattle.off.specs.Lying.{NextRing, NextSewn}
use Rattle.off.proofs.sewing.RingSides.{ring-short}
use Rattle.off.proofs.sewing.SeamAdded.{drawn-sizes}

too_long : (r : Ring) → 96 < length r → is_ring r ≡ false
too_long r h = bool_or (is_ring r) (λ t. absurd (omega (arith, ring-short r t))) (λ t. t)

module _ {c : Counts} {read : RingRead} {bytes : List ℕ} {m1 m2 m3 : List ℤ} (N : NextRing c read bytes m1 m2 m3) where
  pub next_far : read.below ≡ false → NextSewn c read bytes m1 m2 (Err Refusal.NoSuchCell) m1 m2 m3
  unfolding sew_ring
  next_far e = record { stands = λ r R. record { sizes = drawn-sizes N.drawn; is = rw (sym R.low ∙ e) } }

  module _ (b : read.below ≡ true) where
    pub next-long : 96 < read.length → NextSewn c read bytes m1 m2 (Err Refusal.NotClosed) m1 m2 m3
    unfolding sew_ring
    next-long h = record { stands = λ r R. record { sizes = drawn-sizes N.drawn; is = rw (sym R.low ∙ b, too_long r (omega (arith, R.long))) } }
