-- `mbyasoka::mbyasoka_read_mesh` meets its contract: the place is a number of 32 bits.
use mathlib.Core.Path.{ap}
use native.Mathlib.Omega.{arith}
use borrow.Author.Rules.{rules}
use Rattle.rules.specs.Answers.{MeshRead}
use Rattle.rules.specs.Complex.{counts_of, empty, pattern}
use Rattle.rules.specs.Calls.{Lent}
use Rattle.mbyasoka.proofs.Places.{read_small}
use Rattle.mbyasoka.proofs.mbyasoka_read_mesh.Goals as goal

pub returns : goal.returns
returns c =
    let a = c.args in
    let p = pattern (counts_of empty) a.m1.now a.m2.now a.m3.now in
    let place = ap (λ (l : Lent MeshRead). l.answer.place) c.read_mesh-answer.ensures.does in
    rw (c.place_of.ensures (omega (arith, read_small a.s.now p, place))) (search rules)
