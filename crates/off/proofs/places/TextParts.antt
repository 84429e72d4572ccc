-- A text by its parts: which test refuses it, how long it is, and what it tells of the panels.
use mathlib.Core.Path.{◌≡◌}
use mathlib.Core.Logic.{◌≢◌}
use mathlib.Core.Bool.{Bool, true, false, not, ◌&&◌, and-false}
use mathlib.Core.List.{List}
use Prim.Native.Nat.{ℕ, ◌+◌, ◌<◌}
use native.Mathlib.Omega.{arith}
use lib.Dec.{eqb}
use lib.IntN.{ℤ}
use lib.ListN.{length, length-append}
use borrow.Author.Tests.{eq-eqb, ne_eqb}
use Rattle.maths.specs.Tests.{is_zero, all}
use Rattle.maths.specs.Sums.{join}
use Rattle.maths.specs.Tables.{entries}
use Rattle.maths.proofs.Cases.{and_right, and_both}
use Rattle.maths.proofs.Tests.{all-at}
use Rattle.rules.specs.declared.counts.Counts.{Counts}
use Rattle.rules.specs.Counts.{count_of}
use Rattle.off.specs.declared.ends.Ends.{Ends}
use Rattle.off.specs.Exporting.{corner_line, head_lines, is_alone}
use Rattle.off.specs.Walking.{ends_by, panel_closes, ring_lines}
use Rattle.off.specs.Writing.{plain_by, text_by}

module _ (c : Counts) (m2 : List ℤ) (ends : List Ends) where
  -- the three tests after that of the blocks
  abbrev all_sewn : Bool
  all_sewn = all (count_of c 1) (λ i. not (all 96 (λ j. is_zero (entries m2 i j))))

  abbrev all_alone : Bool
  all_alone = all (count_of c 1) (is_alone (ends_by ends))

  abbrev all_close : Bool
  all_close = all (count_of c 2) (panel_closes m2 ends)

  pub some_block : count_of c 3 ≢ 0 → plain_by c m2 ends ≡ false
  unfolding plain_by
  some_block h = rw (ne_eqb (count_of c 3) 0 h)

  pub not-sewn : all_sewn ≡ false → plain_by c m2 ends ≡ false
  unfolding plain_by
  not-sewn e = rw (e, and-false)

  pub not_alone : all_alone ≡ false → plain_by c m2 ends ≡ false
  unfolding plain_by
  not_alone e = rw (e, and-false)

  pub not_closing : all_close ≡ false → plain_by c m2 ends ≡ false
  unfolding plain_by
  not_closing e = rw (e, and-false)

  pub all_plain : count_of c 3 ≡ 0 → all_sewn ≡ true → all_alone ≡ true → all_close ≡ true → plain_by c m2 ends ≡ true
  unfolding plain_by
  all_plain flat sewn alone close = and_both (and_both (and_both (eq-eqb (count_of c 3) 0 flat) sewn) alone) close

  pub plain-closes : plain_by c m2 ends ≡ true → (j : ℕ) → j < count_of c 2 → panel_closes m2 ends j ≡ true
  unfolding plain_by
  plain-closes e =
      let close = and_right (eqb (count_of c 3) 0 && all_sewn && all_alone) all_close e in
      all-at (count_of c 2) (panel_closes m2 ends) close

  module _ (list : List ℤ) where
    pub text-length-is :
        length (text_by c m2 list ends)
        ≡ length (head_lines (count_of c 0) (count_of c 2) (count_of c 1)) + length (join (count_of c 0) (corner_line list))
        + length (ring_lines m2 ends (count_of c 2))
    unfolding text_by
    text-length-is = simp length-append (omega arith)
