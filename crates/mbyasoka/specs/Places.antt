-- A pattern as it is lent for C: its counts stand behind a reference too. Words for clauses.
use Rattle.std.specs.Prelude.{List, ℕ, ℤ}
use Rattle.rules.specs.declared.counts.Counts.{Counts}
use Rattle.rules.specs.Complex.{Pattern, pattern}

-- the pattern at entry
abbrev pub pattern_lent : List ℕ → List ℤ → List ℤ → List ℤ → Pattern
pattern_lent counts m1 m2 m3 = pattern (record { n = counts }) m1 m2 m3

-- the counts at exit
abbrev pub counts_left : List ℕ → Counts
counts_left counts = record { n = counts }
