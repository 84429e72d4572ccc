-- `off::sewing::add_seam` meets its contract: two stores are the new column, and two the new entries of the table of ends.
use Rattle.off.proofs.sewing.SewnStored.{over-size}
use Rattle.off.proofs.sewing.SideNumbers.{plus-number, minus_number}
use Rattle.off.proofs.sewing.SeamAdded.{two_sizes, first-low, second-low, added}
use Rattle.off.proofs.sewing.add_seam.Goals as goal

pub set_entry-requires : goal.set_entry-requires
set_entry-requires c =
    let h = c.requires in
    record { size = (two_sizes h.corners).size1; first = first-low h.corners; second = h.room }

pub set_entry-requires-2 : goal.set_entry-requires-2
set_entry-requires-2 c =
    let h = c.requires in
    record { size = over-size _ _ c.set_entry.ensures; first = second-low h.corners; second = h.room }

pub set_entry-requires-3 : goal.set_entry-requires-3
set_entry-requires-3 c =
    let h = c.requires in
    record { size = (two_sizes h.corners).size3; first = first-low h.corners; second = second-low h.corners }

pub set_entry-requires-4 : goal.set_entry-requires-4
set_entry-requires-4 c =
    let h = c.requires in
    record { size = over-size _ _ c.set_entry-3.ensures; first = second-low h.corners; second = first-low h.corners }

pub returns : goal.returns
returns c =
    let h = c.requires in
    rw c.grown.ensures
    (added h c.set_entry.ensures c.set_entry-2.ensures
    (rw (plus-number h.room) at c.set_entry-3.ensures)
    (rw (minus_number h.room) at c.set_entry-4.ensures))
