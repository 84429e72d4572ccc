-- `mesh::writer::mesh_length` meets its contract: a mesh is the corner count and three sections.
use Rattle.rules.specs.Lending.{seen_by}
use Prim.Native.Nat.{◌+◌, ◌<◌}
use native.Mathlib.Omega.{arith}
use lib.ListN.{get_or}
use Rattle.mesh.proofs.Sections.{mesh-size, seam_columns, panel-columns, block_columns, section_most}
use Rattle.mesh.proofs.writer.mesh_length.Goals as goal
use Rattle.mesh.proofs.writer.mesh_length.Goals.{After-section_length-blocks}

-- the sum has room
small : (c : After-section_length-blocks) →
    1 + c.section_length-seams.result + c.section_length-panels.result + c.section_length-blocks.result < 60_000
small c =
    omega (
      arith,
      section_most 1 c.args.p.m1.now (get_or c.args.p.counts.n 1 0) (c.requires.good.few 1),
      section_most 2 c.args.p.m2.now (get_or c.args.p.counts.n 2 0) (c.requires.good.few 2),
      section_most 3 c.args.p.m3.now (get_or c.args.p.counts.n 3 0) (c.requires.good.few 3),
    )

pub returns : goal.returns
returns c = omega (arith, mesh-size (seen_by c.args.p))

pub section_length-seams-requires : goal.section_length-seams-requires
section_length-seams-requires c = seam_columns c.requires

pub section_length-panels-requires : goal.section_length-panels-requires
section_length-panels-requires c = panel-columns c.requires

pub section_length-blocks-requires : goal.section_length-blocks-requires
section_length-blocks-requires c = block_columns c.requires

pub overflow_add-result : goal.overflow_add-result
overflow_add-result c = omega (arith, small (goal.at.overflow_add-result c).After-section_length-blocks)

pub overflow_add-result-2 : goal.overflow_add-result-2
overflow_add-result-2 c = omega (arith, small (goal.at.overflow_add-result-2 c).After-section_length-blocks)

pub overflow_add-result-3 : goal.overflow_add-result-3
overflow_add-result-3 c = omega (arith, small (goal.at.overflow_add-result-3 c).After-section_length-blocks)
