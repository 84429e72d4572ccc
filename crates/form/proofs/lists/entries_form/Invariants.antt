-- `entries_form` turns as `repeat` does: what is left to read, from where it stands, is always the whole list.
use mathlib.Core.Path.{◌≡◌}
use Prim.Native.Nat.{◌-◌}
use Rattle.rules.specs.Form.{entries_at}
use Rattle.form.proofs.Turns.{entries_from}
use Rattle.form.proofs.lists.entries_form.Given as goal

abbrev pub invariant-loop : goal.invariant-loop
invariant-loop l = entries_from l.signed l.s (l.n - l.counter) l.place l.low ≡ entries_at l.signed l.s l.n l.at
