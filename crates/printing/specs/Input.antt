-- What the program makes of its input, and the texts of the three pieces that it prints.
use Rattle.std.specs.Prelude.{Result, Ok, Err, cond, List, [], ◌∷◌, ℕ, eqb, ℤ, pos, drop}
use Rattle.rules.specs.declared.counts.Counts.{Counts}
use Rattle.rules.specs.declared.pattern.Pattern.{Pattern as LentPattern}
use Rattle.rules.specs.declared.refusals.Stop.{Stop}
use Rattle.rules.specs.Refusals.{accepted}
use Rattle.rules.specs.Counts.{count_of}
use Rattle.rules.specs.Complex.{Complex, empty, counts_of, stored, euler}
use Rattle.rules.specs.Mesh.{read_mesh, after_reading}
use Rattle.rules.specs.Script.{Ended, ended, run_script}
use Rattle.rules.specs.Calls.{Lent, lent, on_good, sized_script}
use Rattle.rules.specs.Lending.{answered}
use Rattle.rules.specs.Told.{stop_number, stop_place, stopped_number, stopped_place}
use Rattle.rules.specs.Printed.{cell_line, printed_mesh}
use Rattle.listing.specs.Lines.{PlaceSmall}
use Rattle.listing.specs.Pieces.{column_lines, run_text, LinesRoom}
use Rattle.printing.specs.declared.run.InputRun.{InputRun}

-- the refusal of the mesh; then how its script ended, the place of a fault in either, the counts and the Euler number
pub record Run : Type 0 where
  pub mesh : ℕ
  pub ran : ℕ
  pub refusal : ℕ
  pub place : ℕ
  pub counts : Counts
  pub euler : ℤ

-- a refused mesh: nothing runs
abbrev pub not_run : ℕ → ℕ → Run
not_run r at = record { mesh = r; ran = 0; refusal = accepted; place = at; counts = counts_of empty; euler = pos 0 }

abbrev pub no_run : ℕ → ℕ → Lent Run
no_run r at = lent (not_run r at) (stored empty)

-- how the code's answer is told, the counts of which are in the pattern, and the pattern at exit
abbrev pub run_told : Result InputRun Stop → Counts → Run
run_told (Ok r) c =
    let s = r.script in
    record { mesh = accepted; ran = s.ran; refusal = stopped_number s.ended; place = stopped_place s.ended; counts = c; euler = r.euler }
run_told (Err stop) c = record { mesh = stop_number stop; ran = 0; refusal = accepted; place = stop_place stop; counts = c; euler = pos 0 }

abbrev pub run_left : Result InputRun Stop → LentPattern → Lent Run
run_left r p = answered (run_told r p.counts) p

-- how a script on a pattern that was read ends
unfoldable pub end_of : List ℕ → Complex → Ended
end_of script X = on_good (sized_script script) X (λ r. ended X 0 r) (run_script script)

abbrev pub ran_to : Ended → Lent Run
ran_to e = lent (record { mesh = accepted; ran = e.ran; refusal = e.refusal; place = e.place; counts = counts_of e.now; euler = euler e.now }) (stored e.now)

-- the mesh at the front of the bytes, and the script after it
unfoldable pub run_input : List ℕ → Lent Run
run_input s = after_reading (read_mesh s) no_run λ X used. ran_to (end_of (drop used s) X)

-- the refusal of a mesh, or else all that comes before the panels
unfoldable pub head_text : Run → List ℤ → List ℕ
head_text r m1 = cond (eqb r.mesh accepted) (run_text r.ran r.refusal r.place r.counts r.euler m1) (printed_mesh r.mesh r.place)

-- what putting it needs: places that can be printed, and room
pub record HeadRoom (r : Run) (m1 : List ℤ) (out : List ℕ) : Type 0 where
  pub seams : LinesRoom 32 m1 (count_of r.counts 1) out 104
  pub mesh-place : PlaceSmall r.mesh r.place
  pub script-place : PlaceSmall r.refusal r.place

-- f, the letter of a panel, where k is 2, and else s
abbrev pub letter_of : ℕ → ℕ
letter_of k = cond (eqb k 2) 0x66 0x73

-- the panels, where k is 2, and else the blocks
abbrev pub cells_text : ℕ → Counts → List ℤ → List ℕ
cells_text k c m = column_lines (cell_line (letter_of k ∷ [])) (count_of c k) m

abbrev pub panel_text : Run → List ℤ → List ℕ
panel_text r m2 = cells_text 2 r.counts m2

abbrev pub block_text : Run → List ℤ → List ℕ
block_text r m3 = cells_text 3 r.counts m3
