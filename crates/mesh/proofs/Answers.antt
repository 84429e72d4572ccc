-- What the writer answers, case by case: refused by the pattern's test, refused by the buffer, written.
use mathlib.Core.Path.{◌≡◌}
use mathlib.Core.List.{List}
use Prim.Native.Nat.{ℕ, ◌<◌, ◌≤◌}
use native.Mathlib.Omega.{arith}
use lib.ListN.{length}
use borrow.Author.Tests.{le-leb, lt-leb}
use Rattle.maths.specs.Buffers.{Put}
use Rattle.maths.proofs.Buffers.{at_front}
use Rattle.rules.specs.declared.refusals.Refusal.{Refusal}
use Rattle.rules.specs.Refusals.{accepted, short_output}
use Rattle.rules.specs.Complex.{Pattern, complex}
use Rattle.rules.specs.Mesh.{write_mesh}
use Rattle.rules.specs.Calls.{Wrote, write_call}
use Rattle.rules.proofs.Branches.FirstTests.{both_passed, first-refused}
use Rattle.rules.specs.Told.{refusal_number}
use Rattle.good.specs.Tested.{tested}
use Rattle.rules.proofs.Branches.Refused.{not_accepted}

-- the writer refuses by r
abbrev refused_by : List ℕ → ℕ → Wrote
refused_by out r = record { answer = record { written = 0; refusal = r }; out = out }

module _ (p : Pattern) where
  module _ (out : List ℕ) where
    -- 1 or 2
    pub refused-pattern : (r : Refusal) → refusal_number r ≡ tested p → refused_by out (refusal_number r) ≡ write_call p out
    unfolding tested write_call
    refused-pattern r e = first-refused p (refused_by out) _ e (not_accepted r)

    -- 15
    pub refused_buffer : tested p ≡ accepted → length out < length (write_mesh (complex p)) → refused_by out short_output ≡ write_call p out
    unfolding tested write_call
    refused_buffer e h =
        let g = both_passed p e in
        rw (g.0, g.1, lt-leb (length (write_mesh (complex p))) (length out) h)

    -- none of them
    pub written : {next : ℕ} {after : List ℕ} → tested p ≡ accepted → length (write_mesh (complex p)) ≤ length out →
        Put out 0 (write_mesh (complex p)) next after →
        record { answer = record { written = next; refusal = accepted }; out = after } ≡ write_call p out
    unfolding tested write_call
    written {next} e h w =
        let g = both_passed p e in
        let q : next ≡ length (write_mesh (complex p)) = omega (arith, w.place) in
        rw (g.0, g.1, le-leb (length (write_mesh (complex p))) (length out) h, q, at_front w)
