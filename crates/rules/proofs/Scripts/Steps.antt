-- Good is kept: an accepted operator leaves a good pattern, moves the Euler number by its amount, and carries chains.
use mathlib.Core.Path.{◌≡◌}
use mathlib.Core.List.{List}
use Prim.Native.Nat.{ℕ, zero, suc}
use native.Mathlib.Omega.{arith}
use lib.IntN.{◌+ℤ◌}
use Rattle.rules.specs.declared.operator.Operator.{Operator}
use Rattle.rules.specs.declared.operator.Operator.TheVariants.{Make, Kill, Split, Merge, Flip}
use Rattle.rules.specs.Complex.{Complex, euler}
use Rattle.rules.specs.Good.{Good}
use Rattle.rules.specs.Edits.{Step, layers}
use Rattle.rules.specs.Operators.{amount_of, edited, removed, step}
use Rattle.rules.specs.Form.{faces_of}
use Rattle.rules.proofs.Layers.Frame.{frame_of}
use Rattle.rules.proofs.Edits.Carries.{Carries}
use Rattle.rules.proofs.Bytes.Decoded.{Formed}
use Rattle.rules.proofs.Accepting.Passed.{make_keeps, split_keeps, flip_keeps, kill_removes, merge_removes}
use Rattle.rules.proofs.Accepting.Accepted.{make-accepted, kill-accepted, split-accepted, merge_condition, flip-accepted}
use Rattle.rules.proofs.Edits.Makes.{make_carries}
use Rattle.rules.proofs.Edits.Splits.{split_carries}
use Rattle.rules.proofs.Edits.Flips.{flip_carries}
use Rattle.rules.proofs.Cells.MakeCells.{good_made}
use Rattle.rules.proofs.Cells.KillCells.{good_killed}
use Rattle.rules.proofs.Cells.SplitCells.{good-split}
use Rattle.rules.proofs.Cells.MergeCells.{good-merged}
use Rattle.rules.proofs.Cells.FlipCells.{good_flipped}
use Rattle.rules.proofs.Scripts.Eulers.{make-euler, kill-euler, split-euler, merge-euler, flip-euler}

-- what an accepted operator leaves
pub record Kept (o : Operator) (X Y : Complex) : Type 0 where
  pub good : Good Y
  pub moved : euler Y ≡ euler X +ℤ amount_of o

pub record Edit (o : Operator) (X : Complex) (S : ℕ → Step) : Type 0 where
  pub kept : Kept o X (layers S)
  pub carries : Carries X S

module _ {X : Complex} (G : Good X) (s : List ℕ) where
  pub edit_kept : (o : Operator) {S : ℕ → Step} → Formed s o → step o (faces_of s o) X ≡ edited S → Edit o X S
  unfolding step
  edit_kept (Make k list) h e =
      let a = make-accepted G k _ h.0 h.1 e in
      let C = a.0 in
      rw a.1 (record {
        kept = record { good = good_made G C; moved = make-euler _ _ X h.0 };
        carries = make_carries (frame_of G) C;
      })
  edit_kept (Kill k c) h e = absurd (kill_removes X k c e)
  edit_kept (Split zero c list) h e = absurd (omega arith)
  edit_kept (Split (suc m) c list) h e =
      let a = split-accepted G (suc m) c _ h.0 h.1 e in
      let C = a.0 in
      rw a.1 (record {
        kept = record { good = good-split G C; moved = split-euler m c _ X C.dim };
        carries = split_carries (frame_of G) C;
      })
  edit_kept (Merge k t) h e = absurd (merge_removes X k t e)
  edit_kept (Flip k c) h e =
      let a = flip-accepted k c X e in
      rw a.1 (record {
        kept = record { good = good_flipped k c G h.0; moved = flip-euler k c X h.1 };
        carries = flip_carries k c X;
      })

  pub removal_kept : (o : Operator) {Y : Complex} → Formed s o → step o (faces_of s o) X ≡ removed Y → Kept o X Y
  unfolding step
  removal_kept (Make k list) h e = absurd (make_keeps X k _ e)
  removal_kept (Kill k c) h e =
      let a = kill-accepted G k c h e in
      rw a.1 (record { good = good_killed G a.0; moved = kill-euler a.0 })
  removal_kept (Split k c list) h e = absurd (split_keeps X k c _ e)
  removal_kept (Merge k t) h e =
      let a = merge_condition G k t e in
      rw a.1 (record { good = good-merged G a.0; moved = merge-euler a.0 })
  removal_kept (Flip k c) h e = absurd (flip_keeps X k c e)
