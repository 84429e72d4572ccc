-- Where an operator comes from: the bytes that it was read from.
use Rattle.std.specs.Prelude.{◌≡◌, List, ℕ, Ok}
use Rattle.rules.specs.declared.operator.Operator.{Operator}
use Rattle.rules.specs.Form.{operator_at}

-- o stands in the bytes, from `at` up to `next`
pub record ReadFrom (s : List ℕ) (o : Operator) : Type 0 where
  pub at : ℕ
  pub next : ℕ
  pub form : operator_at s at ≡ Ok (o, next)
