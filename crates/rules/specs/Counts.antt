-- "They live together in one record of four numbers."
use Rattle.std.specs.Prelude.{ℕ, ◌+◌, ◌-◌, get_or, set}
use Rattle.rules.specs.declared.counts.Counts.{Counts}

-- the count of dimension k
abbrev pub count_of : Counts → ℕ → ℕ
count_of c k = get_or c.n k 0

-- one cell more, and one fewer, of dimension k
abbrev pub grown_at : Counts → ℕ → Counts
grown_at c k = record { n = set c.n k (count_of c k + 1) }

abbrev pub shrunk_at : Counts → ℕ → Counts
shrunk_at c k = record { n = set c.n k (count_of c k - 1) }
