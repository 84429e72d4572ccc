-- A walk of as many steps as a panel has seams: whether it closes up, and that its corners are the panel's ring.
use mathlib.Core.Path.{◌≡◌}
use mathlib.Core.Bool.{Bool, true, false}
use mathlib.Core.List.{List}
use Prim.Native.Nat.{ℕ}
use lib.IntN.{ℤ}
use lib.ListN.{length}
use Rattle.maths.specs.Tables.{column}
use Rattle.rules.specs.Mesh.{face_count}
use Rattle.off.specs.declared.ends.Ends.{Ends}
use Rattle.off.specs.Rings.{is_ring}
use Rattle.off.specs.RingBytes.{Corners}
use Rattle.off.specs.Walking.{next_by, PanelRoom, WentRound, panel_closes, panel_ring}
use Rattle.off.proofs.walks.Walked.{panel-steps, went_round, not_round, ring_tells, corners-low}
use Rattle.off.proofs.walks.Measuring.{few-seams}

module _ {m2 : List ℤ} {j : ℕ} {ends : List Ends} (P : PanelRoom m2 j ends) {r : Bool} {ring : List ℕ} (W : WentRound (next_by m2 j ends) r ring)
    (n : length ring ≡ face_count (column m2 j)) where
  pub panel-open : r ≡ false → panel_closes m2 ends j ≡ false
  panel-open q = rw (← n) (not_round W q)

  pub panel-went : panel_closes m2 ends j ≡ true → r ≡ true
  panel-went e = went_round W (rw (← n) at e)

  module _ (q : r ≡ true) where
    pub panel-tells : panel_closes m2 ends j ≡ is_ring ring
    panel-tells = rw (← n) (ring_tells W q)

    pub panel-corners : Corners ring
    panel-corners = corners-low W q (panel-steps P) (rw n (few-seams m2 j))

    pub panel-is : ring ≡ panel_ring m2 ends j
    panel-is = rw (← n) (W.corners q)
