-- Demand 2 of the calls of reading and writing, in the bytes: each undoes the other.
use mathlib.Core.Path.{◌≡◌, ap}
use mathlib.Core.Bool.{true}
use mathlib.Core.List.{List, ◌++◌}
use Prim.Native.Nat.{ℕ, ◌≤◌}
use native.Mathlib.Omega.{arith}
use borrow.Author.Tests.{le-leb}
use lib.Dec.{leb}
use lib.ListN.{length, take, drop}
use lib.Seq.{take-append_seam}
use Rattle.rules.specs.Answers.{MeshRead}
use Rattle.rules.specs.Refusals.{accepted, no_place}
use Rattle.rules.specs.Complex.{Pattern, Complex, complex, stored}
use Rattle.rules.specs.Good.{Good, Held}
use Rattle.rules.specs.Mesh.{read_mesh, taken, write_mesh}
use Rattle.rules.specs.Calls.{Lent, lent, sized, mesh_left, read_call, Wrote, write_call}
use Rattle.rules.proofs.Branches.Branches.{cond_each}
use Rattle.rules.proofs.Storage.Stored.{sized-is, stored-held, complex-stored, stored-complex}
use Rattle.rules.proofs.Storage.Tested.{good-is}
use Rattle.rules.proofs.Texts.ReadGood.{read_good, mesh_each}
use Rattle.rules.proofs.Texts.ReadWritten.{read_written}
use Rattle.rules.proofs.Texts.WrittenRead.{written_length, written_read}

-- "writing what was read gives the same bytes": those that an accepted read used, put over the front of the output
abbrev Rewritten : List ℕ → List ℕ → Lent MeshRead → Type 0
Rewritten s out l =
    l.answer.refusal ≡ accepted → l.answer.used ≤ length out →
    write_call (mesh_left l) out
    ≡ record { answer = record { written = l.answer.used; refusal = accepted }; out = take l.answer.used s ++ drop l.answer.used out }

taken-rewritten : (s out : List ℕ) (X : Complex) (used : ℕ) → read_mesh s ≡ taken X used → used ≤ length out →
    write_call (stored X) out ≡ record { answer = record { written = used; refusal = accepted }; out = take used s ++ drop used out }
unfolding write_call
taken-rewritten s out X used e room =
    let G : Good X = read_good s X used e in
    rw (sized-is (stored-held G).sized, complex-stored G, good-is G, written_length s e, (written_read s e).1, le-leb used (length out) room)

pub write_after_read : (s out : List ℕ) (p : Pattern) → Rewritten s out (read_call s p)
unfolding read_call
write_after_read s out p =
    cond_each (Rewritten s out) (sized p)
    (λ t. mesh_each (λ (l : Lent MeshRead) (x : Unit {0}). Rewritten s out l) {bad' = λ r at. tt} {go' = λ X used. tt} s
    (λ r at n l e. absurd (n.not_0 e)) (λ X used e a room. taken-rewritten s out X used e room))
    (λ t e. absurd (omega arith))

-- "reading what was written the same pattern": an accepted write, whose bytes are read into any matrices, with any bytes after them
abbrev Reread : Pattern → List ℕ → Pattern → Wrote → Type 0
Reread p rest q w =
    w.answer.refusal ≡ accepted →
    read_call (take w.answer.written w.out ++ rest) q ≡ lent (record { counts = p.counts; used = w.answer.written; refusal = accepted; place = no_place }) p

pub read_after_write : {p : Pattern} → Held p → (out rest : List ℕ) (q : Pattern) → sized q ≡ true → Reread p rest q (write_call p out)
unfolding write_call read_call
read_after_write {p} H out rest q long =
    let mesh = write_mesh (complex p) in
    rw (sized-is H.sized, good-is H.good)
    (cond_each (Reread p rest q) (leb (length mesh) (length out))
    (λ t e. rw (take-append_seam mesh (drop (length mesh) out), long, read_written H.good rest)
    (ap (λ (r : Pattern). lent (record { counts = r.counts; used = length mesh; refusal = accepted; place = no_place }) r) (stored-complex p H.sized)))
    (λ t e. absurd (omega arith)))
