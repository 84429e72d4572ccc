-- `counts_form` turns as `repeat` does: what is left to read, from where it stands, is always the four counts.
use mathlib.Core.Path.{◌≡◌}
use Prim.Native.Nat.{◌-◌}
use Rattle.rules.specs.Form.{counts_at}
use Rattle.form.proofs.script.counts_form.Given as goal

abbrev pub invariant-loop-at : goal.invariant-loop-at
invariant-loop-at l = counts_at l.s (5 - l.at) l.at ≡ counts_at l.s 4 1
