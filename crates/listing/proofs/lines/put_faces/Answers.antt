-- `listing::lines::put_faces` meets its contract: the faces below i are put, each in at most four bytes.
use native.Mathlib.Omega.{arith}
use Rattle.maths.proofs.Buffers.{pieces_none, pieces_more, pieces_all}
use Rattle.rules.proofs.Texts.FaceTexts.{faces_are}
use Rattle.listing.proofs.Faces.{face_texts_most, column_read}
use Rattle.listing.proofs.lines.put_faces.Goals as goal

pub put_face-next-requires : goal.put_face-next-requires
put_face-next-requires c = omega (arith, face_texts_most _ c.loop-i.invariant)

pub loop-i-preserved : goal.loop-i-preserved
loop-i-preserved c =
    let e = column_read c.args.m.now c.loop-i.i c.args.j (omega arith) c.requires.line.inside (omega arith) in
    pieces_more c.loop-i.invariant (omega arith) (rw e at c.put_face-next.ensures)

pub returns : goal.returns
returns c =
    let inv = c.loop-i.invariant in
    record { put = rw (← faces_are) (pieces_all inv (omega arith)); most = omega (arith, face_texts_most _ inv) }

pub loop-i-init : goal.loop-i-init
loop-i-init c = pieces_none _ _
