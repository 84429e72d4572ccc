-- What the public calls answer beside what they leave in the lent lists: a refusal by its number, `accepted` where there is none; and where the form of
-- the bytes went wrong, `no_place` where it did not.
use Rattle.std.specs.Prelude.{ℕ, ℤ}
use Rattle.rules.specs.declared.counts.Counts.{Counts}

-- reading a mesh: the counts, and how many bytes it took
pub record MeshRead : Type 0 where
  pub counts : Counts
  pub used : ℕ
  pub refusal : ℕ
  pub place : ℕ

-- writing a mesh: how many bytes were written
pub record MeshWritten : Type 0 where
  pub written : ℕ
  pub refusal : ℕ

-- the Euler number
pub record EulerNumber : Type 0 where
  pub number : ℤ
  pub refusal : ℕ

-- an operator that was read: the counts after it
pub record Applied : Type 0 where
  pub counts : Counts
  pub refusal : ℕ

-- the bytes of one operator: the counts after it
pub record OperatorApplied : Type 0 where
  pub counts : Counts
  pub refusal : ℕ
  pub place : ℕ

-- a script: the counts after it, and how many operators were accepted
pub record ScriptRun : Type 0 where
  pub counts : Counts
  pub ran : ℕ
  pub refusal : ℕ
  pub place : ℕ
