-- A pattern as it is lent to a function, its counts by value and its matrices behind references. Words for clauses.
use Rattle.std.specs.Prelude.{◌≡◌, Result, List, ℕ, ℤ}
use Rattle.rules.specs.declared.answers.ScriptRun.{ScriptRun as Run}
use Rattle.rules.specs.declared.pattern.Pattern.{Pattern as LentPattern}
use Rattle.rules.specs.declared.pattern.View.{View}
use Rattle.rules.specs.declared.refusals.Refusal.{Refusal}
use Rattle.rules.specs.declared.refusals.Stop.{Stop}
use Rattle.rules.specs.Answers.{MeshRead, Applied, OperatorApplied, ScriptRun}
use Rattle.rules.specs.Complex.{Pattern, pattern}
use Rattle.rules.specs.Calls.{Lent, lent}
use Rattle.rules.specs.Told.{number_told, stopped_number, stopped_place, used_of}

-- the pattern that lies behind the references
abbrev pub lent_by : LentPattern → Pattern
lent_by p = pattern p.counts p.m1.now p.m2.now p.m3.now

abbrev pub seen_by : View → Pattern
seen_by p = pattern p.counts p.m1.now p.m2.now p.m3.now

-- the three references are those that they were: what is told of them is told of the buffers of the caller
pub record SameLoans (p q : LentPattern) : Type 0 where
  pub same1 : q.m1.ghost_name ≡ p.m1.ghost_name
  pub same2 : q.m2.ghost_name ≡ p.m2.ghost_name
  pub same3 : q.m3.ghost_name ≡ p.m3.ghost_name

-- an answer, and the pattern at exit: of an operator that was read, and of the bytes of one
abbrev pub answered : {A : Type 0} → A → LentPattern → Lent A
answered a p = lent a (lent_by p)

abbrev pub applied_to : {A : Type 0} → Result A Refusal → LentPattern → Lent Applied
applied_to r p = answered (record { counts = p.counts; refusal = number_told r }) p

abbrev pub operated_on : {A : Type 0} → Result A Stop → LentPattern → Lent OperatorApplied
operated_on r p = answered (record { counts = p.counts; refusal = stopped_number r; place = stopped_place r }) p

-- of a mesh that is read, and of a script
abbrev pub mesh_read : Result ℕ Stop → LentPattern → Lent MeshRead
mesh_read r p = answered (record { counts = p.counts; used = used_of r; refusal = stopped_number r; place = stopped_place r }) p

abbrev pub script_run : Run → LentPattern → Lent ScriptRun
script_run r p = answered (record { counts = p.counts; ran = r.ran; refusal = stopped_number r.ended; place = stopped_place r.ended }) p

-- an answer, and the matrices at exit
abbrev pub left : {A : Type 0} → A → List ℤ → List ℤ → List ℤ → Lent A
left r m1 m2 m3 = record { answer = r; m1 = m1; m2 = m2; m3 = m3 }
