-- `off::walks::fill_next` meets its contract: the list is that of the seams so far, and the next is put in.
use mathlib.Core.Path.{◌≡◌, sym, ap, ◌∙◌}
use mathlib.Core.List.{List}
use Prim.Native.Nat.{ℕ, ◌+◌, ◌-◌, ◌*◌, ◌<◌}
use native.Mathlib.Omega.{arith}
use lib.ListN.{length, take, drop, length-append}
use lib.IntN.{ℤ, pos}
use lib.Seq.{get_or-take, get_or-drop}
use mir.Syntax.{w8}
use mir.Val.{to_z, of_z}
use Rattle.std.proofs.lemmas.Slice.Zip.{zip_turn}
use Rattle.maths.specs.Tables.{column}
use Rattle.maths.proofs.Sizes.{back}
use Rattle.maths.proofs.Tables.{entries_in}
use Rattle.off.specs.Exporting.{next_among}
use Rattle.off.specs.Walking.{seam_at, ends_by}
use Rattle.off.proofs.walks.NextCorners.{seam_put, table-long}
use Rattle.off.proofs.walks.fill_next.Goals as goal
use Rattle.off.proofs.walks.fill_next.Goals.{In-Some}

pub loop-seam-init : goal.loop-seam-init
unfolding next_among
loop-seam-init c = c.requires.blank

-- n entries from a place on
entries_from : (m : List ℤ) (p n : ℕ) → take (p + n - p) (drop p m) ≡ take n (drop p m)
entries_from m p n = let many : p + n - p ≡ n = omega arith in rw many

-- which seam it is
turn : (c : In-Some) → let a = c.args in let i = length c.loop-seam.yielded in
    (i < length a.ends.now) × (c.in-Some.seam ≡ seam_at a.ends.now i) × (c.in-Some.z ≡ column a.m2.now a.j i)
turn c =
    let a = c.args in
    let t = zip_turn a.ends.now (take (length a.ends.now) (drop (96 * a.j) a.m2.now)) c.loop-seam.yielded
    c.into_iter-seam-iterator.result c.loop-seam.seam-iterator c.next.new.self c.next.result (cc)
    (ap (λ z. z.b.rest.now) c.into_iter-seam-iterator.ensures.into_iter_gives ∙ c.zip-seam-items.ensures.second.0 ∙ entries_from a.m2.now (96 * a.j) (length a.ends.now))
    c.loop-seam.yielded_by _ c.in-Some.is c.next.ensures.steps in (
      t.0,
      sym c.in-Some.seam-is ∙ t.2 _,
      sym c.in-Some.z-is ∙ t.3 (pos 0) ∙ get_or-take _ _ _ (pos 0) t.0 ∙ get_or-drop (96 * a.j) a.m2.now _ (pos 0)
          ∙ sym (entries_in a.m2.now _ a.j (omega (arith, t.0, c.requires.panel.seams.few)) c.requires.panel.line.inside),
    )

pub set_next-requires : goal.set_next-requires
set_next-requires c =
    let it = turn (goal.at.set_next-requires c).In-Some in
    let ends = c.requires.panel.seams in
    record {
      room = table-long _ c.loop-seam.invariant;
      low-tail = rw (c.in-Some.seam-is, it.1) (ends.tail _ it.0);
      low-head = rw (c.in-Some.seam-is, it.1) (ends.head _ it.0);
    }

pub loop-seam-preserved : goal.loop-seam-preserved
loop-seam-preserved c =
    let a = c.args in
    let it = turn (goal.at.loop-seam-preserved c).In-Some in
    let ends = c.requires.panel.seams in
    let i = length c.loop-seam.yielded in
    let read : to_z w8 (of_z w8 c.in-Some.field-0-1.now) ≡ c.in-Some.field-0-1.now = back w8 (omega arith) in
    simp length-append
    (seam_put (ends_by a.ends.now) (column a.m2.now a.j) i (ends.tail i it.0) (ends.head i it.0) c.loop-seam.invariant (c.in-Some.z-is ∙ it.2)
    (rw (read, c.in-Some.seam-is ∙ it.1) at c.set_next.ensures))
