-- What the two calls answer beside what they leave in the lent lists: a refusal by its number, `accepted` where there is none.
use Rattle.std.specs.Prelude.{Result, Ok, Err, ℕ}
use Rattle.rules.specs.declared.counts.Counts.{Counts}
use Rattle.rules.specs.declared.refusals.Refusal.{Refusal}
use Rattle.rules.specs.Told.{refusal_number}
use Rattle.rules.specs.Refusals.{accepted}

-- importing: the counts
pub record Imported : Type 0 where
  pub counts : Counts
  pub refusal : ℕ

-- exporting: how many bytes were written
pub record Exported : Type 0 where
  pub written : ℕ
  pub refusal : ℕ

-- how the code's answer is told
abbrev pub exported_told : Result ℕ Refusal → Exported
exported_told (Ok n) = record { written = n; refusal = accepted }
exported_told (Err r) = record { written = 0; refusal = refusal_number r }
