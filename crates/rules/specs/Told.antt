-- How the code's answers, which are Results, are told by the numbers of the calls.
use Rattle.std.specs.Prelude.{Option, Some, None, Result, Ok, Err, ℕ, ◌<◌, ℤ, pos}
use Rattle.rules.specs.declared.refusals.Refusal.{Refusal}
use Rattle.rules.specs.declared.refusals.Stop.{Stop}
use Rattle.rules.specs.Answers.{MeshWritten, EulerNumber}
use Rattle.rules.specs.Refusals.{accepted, wrong_length, not_good, wrong_form, no_such_cell, no_room, not_closed, in_use, wrong_part, wrong_divider, not_between, stale, short_output, wrong_chain, not_carried, wrong_off, not_plain, shared_face, no_place}
use Rattle.rules.specs.Form.{fault_number, fault_place}

-- a refusal's number
abbrev pub refusal_number : Refusal → ℕ
refusal_number Refusal.WrongLength = wrong_length
refusal_number Refusal.NotGood = not_good
refusal_number Refusal.WrongDimension = wrong_form
refusal_number Refusal.NoSuchCell = no_such_cell
refusal_number Refusal.NoRoom = no_room
refusal_number Refusal.NotClosed = not_closed
refusal_number Refusal.InUse = in_use
refusal_number Refusal.WrongPart = wrong_part
refusal_number Refusal.WrongDivider = wrong_divider
refusal_number Refusal.NotBetween = not_between
refusal_number Refusal.Stale = stale
refusal_number Refusal.ShortOutput = short_output
refusal_number Refusal.WrongChain = wrong_chain
refusal_number Refusal.NotCarried = not_carried
refusal_number Refusal.WrongOff = wrong_off
refusal_number Refusal.NotPlain = not_plain
refusal_number Refusal.SharedFace = shared_face

-- the number and the place of what stops a call
abbrev pub stop_number : Stop → ℕ
stop_number (Stop.Form f) = fault_number f
stop_number (Stop.Meaning r) = refusal_number r

abbrev pub stop_place : Stop → ℕ
stop_place (Stop.Form f) = fault_place f
stop_place (Stop.Meaning r) = no_place

-- the same place, where there is one
abbrev pub place_found : Stop → Option ℕ
place_found (Stop.Form f) = Some (fault_place f)
place_found (Stop.Meaning r) = None

-- the number that a result is told by, and the same where bytes were taken, with the place
abbrev pub number_told : {A : Type 0} → Result A Refusal → ℕ
number_told (Ok x) = accepted
number_told (Err r) = refusal_number r

abbrev pub stopped_number : {A : Type 0} → Result A Stop → ℕ
stopped_number (Ok x) = accepted
stopped_number (Err stop) = stop_number stop

abbrev pub stopped_place : {A : Type 0} → Result A Stop → ℕ
stopped_place (Ok x) = no_place
stopped_place (Err stop) = stop_place stop

-- a fault of the form has a place, so it is told otherwise than a refusal of the same number that has none
abbrev pub Placed : {A : Type 0} → Result A Stop → Type 0
Placed (Ok x) = Unit
Placed (Err (Stop.Form f)) = fault_place f < no_place
Placed (Err (Stop.Meaning r)) = Unit

-- how many bytes a mesh that was read took, and one that was written
abbrev pub used_of : Result ℕ Stop → ℕ
used_of (Ok n) = n
used_of (Err stop) = 0

abbrev pub written_told : Result ℕ Refusal → MeshWritten
written_told (Ok n) = record { written = n; refusal = accepted }
written_told (Err r) = record { written = 0; refusal = refusal_number r }

-- the Euler number
abbrev pub euler_told : Result ℤ Refusal → EulerNumber
euler_told (Ok z) = record { number = z; refusal = accepted }
euler_told (Err r) = record { number = pos 0; refusal = refusal_number r }
