-- `operators::faces::draw_seam` meets its contract: tail and head are added up one after the other.
use mathlib.Core.Path.{refl, ap, sym}
use mathlib.Core.Bool.{cond}
use mathlib.Core.List.{List}
use Prim.Native.Nat.{ℕ, ◌<◌, ◌≤◌}
use native.Mathlib.Omega.{arith}
use lib.Dec.{eqb}
use lib.IntN.{ℤ, pos, negsuc, nat_abs, ◌+ℤ◌}
use lib.ListN.{get_or, set, replicate}
use mir.Syntax.{w8}
use Rattle.maths.proofs.Cases.{by_bool}
use Rattle.maths.proofs.Sizes.{plus_fits, plus-is}
use Rattle.grid.proofs.Summing.{blank}
use Rattle.operators.specs.Column.{ends}
use Rattle.operators.proofs.make.Columns.{Summed, summed_none, summed_more, summed_small, drawn_all, drawn_none}
use Rattle.operators.proofs.faces.draw_seam.Goals as goal

pub returns-then-n-tail : goal.returns-then-n-tail
returns-then-n-tail c = drawn_none (ends c.args.tail c.args.head) c.args.n {l = 0} (omega arith) c.if-n-tail.true

pub returns-then-n-head : goal.returns-then-n-head
returns-then-n-head c = drawn_none (ends c.args.tail c.args.head) c.args.n {l = 1} (omega arith) c.if-n-head.true

-- the column with its tail
abbrev tailed : ℕ → List ℤ
tailed t = set (replicate 96 (pos 0)) t (negsuc 0)

unit : (l : ℕ) → nat_abs (cond (eqb l 0) (negsuc 0) (pos 1)) ≤ 1
unit l = by_bool (eqb l 0) (λ t. nat_abs (cond t (negsuc 0) (pos 1)) ≤ 1) (λ _. omega arith) (λ _. omega arith)

tail_summed : (n t h : ℕ) → n ≤ 96 → t < n → Summed (ends t h) n 1 (tailed t)
tail_summed n t h few low =
    summed_more (ends t h) n (summed_none (ends t h) n blank) (omega arith) few low refl refl
    (ap (λ z. set (replicate 96 (pos 0)) t (z +ℤ negsuc 0)) (sym (blank.zero t)))

small : (n t h : ℕ) → n ≤ 96 → t < n → nat_abs (get_or (tailed t) h (pos 0)) ≤ 96
small n t h few low = summed_small (ends t h) n (tail_summed n t h few low) (omega arith) unit h

pub overflow_add-column : goal.overflow_add-column
overflow_add-column c =
    let a = c.args in
    plus_fits w8 {x = get_or (tailed a.tail) a.head (pos 0)} {y = pos 1} refl refl (omega (arith, small a.n a.tail a.head c.requires c.if-n-tail.false))

pub returns : goal.returns
returns c =
    let a = c.args in
    drawn_all (ends a.tail a.head) a.n
    (summed_more (ends a.tail a.head) a.n (tail_summed a.n a.tail a.head c.requires c.if-n-tail.false) (omega arith) c.requires c.if-n-head.false refl refl
    (ap (set (tailed a.tail) a.head) (plus-is w8 {x = get_or (tailed a.tail) a.head (pos 0)} {y = pos 1} refl refl
    (omega (arith, small a.n a.tail a.head c.requires c.if-n-tail.false)))))
    (omega arith)
