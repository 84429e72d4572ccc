-- `grid::sums::add_times` meets its contract: what is neither 1 nor -1 is 0.
use mathlib.Core.Path.{◌≡◌, refl}
use lib.IntN.{pos}
use mir.Syntax.{w8}
use mir.Val.{of_z}
use Rattle.maths.proofs.Tests.{by_sign}
use Rattle.grid.specs.Grid.{nth}
use Rattle.grid.proofs.Adding.{plus_none}
use Rattle.grid.proofs.sums.add_times.Goals as goal

pub returns-else-s-eqminus1 : goal.returns-else-s-eqminus1
returns-else-s-eqminus1 c =
    let rest : c.args.s ≡ pos 0 = by_sign (λ s. (of_z w8 s ≡ 255 → ⊥) → (of_z w8 s ≡ 1 → ⊥) → s ≡ pos 0)
    (λ p q. absurd (p refl)) (λ p q. refl) (λ p q. absurd (q refl)) c.args.s c.requires.s_bound c.if-s-eqminus1.false c.if-s-eq1.false in
    rw rest (plus_none c.args.sums.now (nth c.args.column.now) c.requires.addable.size)
