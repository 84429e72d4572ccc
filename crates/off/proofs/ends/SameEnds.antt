-- A seam is alone where no seam before it has its two ends, in either order.
use mathlib.Core.Path.{◌≡◌, refl, sym, ◌∙◌}
use mathlib.Core.Bool.{Bool, not, cond, ◌&&◌, ◌||◌, and-true, and-false}
use mathlib.Core.List.{List}
use Prim.Native.Nat.{ℕ, zero, suc}
use native.Mathlib.Omega.{arith}
use borrow.Author.Tests.{ne_eqb}
use lib.IntN.{pos, negsuc}
use Rattle.maths.specs.Tests.{eq_z, is_zero, all}
use Rattle.maths.proofs.Cases.{by_bool}
use Rattle.off.specs.declared.ends.Ends.{Ends}
use Rattle.off.specs.Sewing.{goes_from, seam_among}
use Rattle.off.specs.Exporting.{is_alone}
use Rattle.off.specs.Walking.{seam_at, ends_by, same_ends}

-- seam i has other ends than s
abbrev pub differs : List Ends → Ends → ℕ → Bool
differs ends s i = not (same_ends (seam_at ends i) s)

none_between : (ends : List Ends) (n : ℕ) (s : Ends) → is_zero (seam_among (ends_by ends) n s.tail s.head) ≡ all n (differs ends s)
unfolding seam_among goes_from same_ends is_zero eq_z all
none_between ends zero s = refl
none_between ends (suc j) s =
    let E = ends_by ends in
    let fewer = all j (differs ends s) in
    let back = goes_from E s.head s.tail j in
    by_bool (goes_from E s.tail s.head j)
    (λ t. is_zero (cond t (pos (suc j)) (cond back (negsuc j) (seam_among E j s.tail s.head))) ≡ fewer && not (t || back))
    (λ _. ne_eqb (suc j) 0 (λ e. omega arith) ∙ sym (and-false fewer)) λ _.
    by_bool back (λ t. is_zero (cond t (negsuc j) (seam_among E j s.tail s.head)) ≡ fewer && not t)
    (λ _. sym (and-false fewer))
    (λ _. none_between ends j s ∙ sym (and-true fewer))

pub alone_is : (ends : List Ends) (j : ℕ) → is_alone (ends_by ends) j ≡ all j (differs ends (seam_at ends j))
unfolding is_alone
alone_is ends j = none_between ends j (seam_at ends j)
