-- `operators_form` turns as `repeat` does: what is left to read, from where it stands, is always the whole list of operators.
use mathlib.Core.Path.{◌≡◌}
use Prim.Native.Nat.{◌-◌}
use Rattle.rules.specs.Form.{operators_at}
use Rattle.form.proofs.script.operators_form.Given as goal

abbrev pub invariant-loop : goal.invariant-loop
invariant-loop l = operators_at l.s l.count (l.count - l.counter) l.at ≡ operators_at l.s l.count l.count 7
