-- `mesh::writer::write_mesh` meets its contract: each return is one of the writer's answers.
use mathlib.Core.Path.{◌≡◌, sym}
use native.Mathlib.Omega.{arith}
use lib.ListN.{length}
use borrow.Author.Rules.{rules}
use Rattle.rules.specs.Lending.{seen_by}
use Rattle.rules.specs.Good.{Held}
use Rattle.good.proofs.Passing.{held}
use Rattle.rules.proofs.Branches.Refused.{handed_on}
use Rattle.mesh.proofs.Answers.{refused-pattern, refused_buffer, written}
use Rattle.mesh.proofs.writer.write_mesh.Goals as goal
use Rattle.mesh.proofs.writer.write_mesh.Goals.{In_ok-refusal_of_pattern}

-- the pattern passed its test
good : (c : In_ok-refusal_of_pattern) → Held (seen_by c.args.p)
good c =
    let entry = seen_by c.args.p in
    let four : length c.args.p.counts.n ≡ 4 = search rules in held entry four (sym c.in_ok-refusal_of_pattern.ensures)

pub returns-in_err-refusal_of_pattern : goal.returns-in_err-refusal_of_pattern
returns-in_err-refusal_of_pattern c =
    rw (handed_on c.from_residual.ensures) (refused-pattern _ _ _ c.in_err-refusal_of_pattern.ensures)

pub mesh_length-requires : goal.mesh_length-requires
mesh_length-requires c = good (goal.at.mesh_length-requires c).In_ok-refusal_of_pattern

pub returns-then-out-mesh_length : goal.returns-then-out-mesh_length
returns-then-out-mesh_length c = refused_buffer _ _ (sym c.in_ok-refusal_of_pattern.ensures) (omega arith)

pub put_mesh-written-requires : goal.put_mesh-written-requires
put_mesh-written-requires c = record { held = good (goal.at.put_mesh-written-requires c).In_ok-refusal_of_pattern; room = omega arith }

pub returns : goal.returns
returns c = written _ _ (sym c.in_ok-refusal_of_pattern.ensures) (omega arith) c.put_mesh-written.ensures
