-- The listed faces of a column, marked one by one.
use mathlib.Core.Path.{◌≡◌, refl, sym, ap, ◌∙◌}
use mathlib.Core.Logic.{◌≢◌}
use mathlib.Core.Bool.{true, false, not, cond, ◌&&◌}
use mathlib.Core.List.{List}
use Prim.Native.Nat.{ℕ, ◌+◌, ◌<◌, ◌≤◌}
use native.Mathlib.Numerals.{add-one}
use native.Mathlib.Omega.{arith}
use borrow.Author.Tests.{ne_eqb}
use lib.IntN.{ℤ, pos}
use mir.Syntax.{w8}
use mir.Val.{to_z, bool_byte}
use lib.ListN.{length, get_or, set, length-set}
use lib.Seq.{get_or-set_same, get_or-set_other}
use Rattle.maths.specs.Tests.{eq_z, all}
use Rattle.maths.proofs.Cases.{eqb_same, eq_or, by_bool}
use Rattle.maths.proofs.Tables.{is-table}
use Rattle.maths.proofs.Tests.{eq_z-true}
use Rattle.grid.specs.Grid.{Blank}
use Rattle.rules.specs.Complex.{Chain}
use Rattle.rules.specs.Edits.{part}
use Rattle.rules.specs.Operators.{Faces, listed}
use Rattle.operators.specs.Part.{head, part_of}

-- the first l of the listed faces
abbrev pub first : ℕ → Faces → Faces
first l F = record { n = l; number = F.number; sign = F.sign }

none-chosen : (F : Faces) (i : ℕ) → listed (first 0 F) i ≡ false
unfolding listed all
none-chosen F i = refl

chosen-here : (F : Faces) (l : ℕ) → listed (first (l + 1) F) (F.number l) ≡ true
unfolding listed all
chosen-here F l = rw (add-one, eqb_same) (by_bool (all l _) (λ t. not (t && false) ≡ true) (λ _. refl) (λ _. refl))

chosen_other : (F : Faces) (l i : ℕ) → i ≢ F.number l → listed (first (l + 1) F) i ≡ listed (first l F) i
unfolding listed all
chosen_other F l i h = rw (add-one, ne_eqb i (F.number l) h) (by_bool (all l _) (λ t. not (t && true) ≡ not t) (λ _. refl) (λ _. refl))

-- the first l faces are marked
pub record Marked (F : Faces) (v : Chain) (l : ℕ) (taken : List ℤ) : Type 0 where
  pub upto : l ≤ F.n
  pub size : length taken ≡ 96
  pub is : (i : ℕ) → get_or taken i (pos 0) ≡ part (listed (first l F)) v i

module _ {F : Faces} {v : Chain} where
  pub mark_begin : {taken : List ℤ} → Blank taken → Marked F v 0 taken
  unfolding part
  mark_begin b = record { upto = omega arith; size = b.size; is = λ i. rw none-chosen (b.zero i) }

  pub mark_more : {l : ℕ} {taken : List ℤ} {i : ℕ} {z : ℤ} → Marked F v l taken → l < F.n → i ≡ F.number l → i < 96 → z ≡ v i
      → Marked F v (l + 1) (set taken i z)
  unfolding part
  mark_more {l} {taken} {i} {z} m h e b q = record {
    upto = omega arith;
    size = length-set taken i z ∙ m.size;
    is = λ j. eq_or j i
        (λ s. rw (s, get_or-set_same taken i z (pos 0) (omega (arith, m.size)), e, chosen-here F l) (q ∙ ap v e))
        (λ s. get_or-set_other taken i j z (pos 0) s ∙ m.is j ∙ rw (chosen_other F l j (λ t. s (t ∙ sym e))));
  }

  pub mark_end : {l : ℕ} {taken : List ℤ} → Marked F v l taken → F.n ≤ l → taken ≡ part_of (listed F) v
  mark_end {l} m h = let e : l ≡ F.n = omega (arith, m.upto) in is-table (pos 0) m.size (λ i _. rw e at (m.is i))

-- an entry of a head
pub head_entry : (v : Chain) (i : ℕ) → to_z w8 (bool_byte (eq_z (v i) (pos 1))) ≡ part (head v) v i
unfolding part
head_entry v i = by_bool (eq_z (v i) (pos 1)) (λ t. to_z w8 (bool_byte t) ≡ cond t (v i) (pos 0)) (λ e. sym (eq_z-true e)) (λ _. refl)
