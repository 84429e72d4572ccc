-- Coordinates in a list of 288, the rest of which is 0.
use mathlib.Core.Path.{◌≡◌, sym, ◌∙◌}
use mathlib.Core.List.{List, ◌++◌}
use Prim.Native.Nat.{ℕ, ◌+◌, ◌-◌, ◌*◌, ◌≤◌}
use native.Mathlib.Omega.{arith}
use lib.IntN.{ℤ, pos}
use lib.ListN.{length, take, drop, get_or, length-append, length-drop, get_or-append, get_or-eq_default}
use lib.Seq.{length-take-le, get_or-drop, get_or-append_right}
use Rattle.maths.specs.Tables.{table}
use Rattle.maths.proofs.Cases.{lt_or}
use Rattle.maths.proofs.Tables.{length-table, is-table, get_d_table}
use Rattle.off.specs.Calls.{laid}
use Rattle.off.specs.Wholes.{BodyRoom}

pub length-laid : (c : List ℤ) → length (laid c) ≡ 288
unfolding laid
length-laid c = length-table 0 288 (λ i. get_or c i (pos 0))

-- coordinates that were written over the first zeros
pub laid-over : (c list : List ℤ) {n : ℕ} → list ≡ table 288 (λ i. pos 0) → length c ≡ n → n ≤ 288 → c ++ drop n list ≡ laid c
unfolding laid
laid-over c list {n} z e h =
    let long : length list ≡ 288 = rw z (length-table 0 288 (λ i. pos 0)) in
    is-table (pos 0) (simp (length-append, length-drop) (omega arith)) λ i l. lt_or i n
    (λ less. get_or-append c (drop n list) (pos 0) i (omega arith))
    (λ past.
    get_or-append_right c (drop n list) i (pos 0) (omega arith)
    ∙ get_or-drop n list (i - length c) (pos 0)
    ∙ rw z (get_d_table 288 (n + (i - length c)) (λ i. pos 0) (pos 0) (omega arith))
    ∙ sym (get_or-eq_default c (pos 0) (omega arith)))

-- the places of the coordinates of n corners
pub as_many : (list : List ℤ) (n : ℕ) {panels : ℕ} {m1 m2 m3 : List ℤ} → BodyRoom n panels m1 m2 m3 list → length (take (3 * n) list) ≡ 3 * n
as_many list n R =
    let long : length list ≡ 288 = rw R.blanks.zeros (length-table 0 288 (λ i. pos 0)) in
    length-take-le (3 * n) list (omega (arith, R.few))
