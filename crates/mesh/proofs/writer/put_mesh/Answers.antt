-- `mesh::writer::put_mesh` meets its contract: the corner count and the three sections are put one after the other.
use Rattle.rules.specs.Lending.{seen_by}
use native.Mathlib.Omega.{arith}
use Rattle.maths.proofs.Buffers.{two_pieces}
use Rattle.mesh.proofs.Sections.{mesh-is, mesh-size, seam_columns, panel-columns, block_columns}
use Rattle.mesh.proofs.writer.put_mesh.Goals as goal

pub put_section-panels-requires : goal.put_section-panels-requires
put_section-panels-requires c =
    let entry = seen_by c.args.p in
    let size = mesh-size entry in
    record { columns = seam_columns c.requires.held; room = omega arith }

pub put_section-blocks-requires : goal.put_section-blocks-requires
put_section-blocks-requires c =
    let entry = seen_by c.args.p in
    let size = mesh-size entry in
    record { columns = panel-columns c.requires.held; room = omega arith }

pub put_section-requires : goal.put_section-requires
put_section-requires c =
    let entry = seen_by c.args.p in
    let size = mesh-size entry in
    record { columns = block_columns c.requires.held; room = omega arith }

pub returns : goal.returns
returns c =
    let entry = seen_by c.args.p in
    let upto-seams = two_pieces c.put-seams.ensures c.put_section-panels.ensures in
    let upto-panels = two_pieces upto-seams c.put_section-blocks.ensures in
    rw (← mesh-is entry) (two_pieces upto-panels c.put_section.ensures)

pub put-seams-requires : goal.put-seams-requires
put-seams-requires c =
    let entry = seen_by c.args.p in
    omega (arith, mesh-size entry)
