-- The table of cases, proved by computing the definitions.
use mathlib.Core.Path.{◌≡◌, refl}
use mathlib.Core.List.{map}
use Rattle.maths.specs.Tests.{eq_z, is_zero, is_unit, all, count, last}
use Rattle.maths.specs.Sums.{sum, dot, δ, up, join}
use Rattle.maths.specs.Repeat.{repeat}
use Rattle.rules.specs.Complex.{euler}
use Rattle.rules.specs.Good.{one_each, all_zero, in_place, closes, is_good}
use Rattle.rules.specs.Edits.{at3, put, boundary, make, without_column, without_row, kill, part, rest, divider, halves, repeated, split, merged, merge, negated, flip}
use Rattle.rules.specs.Operators.{chain_of, listed, all_below, closed, make_step, kill_step, chosen, is_part, proper, divides, split_step, share_only, merge_step, flip_step, step}
use Rattle.rules.specs.Form.{byte_at, word_at, code_of, entry_at, entries_at, list_at, make_at, split_at, cell_at, operator_at, made_of, chosen_of, counts_at, operators_at, script_form}
use Rattle.rules.specs.Mesh.{read_cell, read_section, read_mesh, one_face, each_face}
use Rattle.rules.specs.Script.{run_one, run_from, same_base, run_script}
use Rattle.rules.specs.Printed.{decimal, whole, seam_line, cell_line, cell_lines, listing, place_text, printed_run, printed_mesh, printed}
use Rattle.rules.specs.Cases.{Case, input_of, output_of, case_table}

-- what the program prints for each row's input is the row's lines
pub cases_hold : map (λ (c : Case). printed (input_of c)) case_table ≡ map output_of case_table
unfolding eq_z is_zero is_unit all count last sum dot δ up join repeat euler one_each all_zero in_place closes is_good at3 put boundary make without_column without_row kill part rest divider halves repeated split merged merge negated flip chain_of listed all_below closed make_step kill_step chosen is_part proper divides split_step share_only merge_step flip_step step byte_at word_at code_of entry_at entries_at list_at make_at split_at cell_at operator_at made_of chosen_of counts_at operators_at script_form read_cell read_section read_mesh one_face each_face run_one run_from same_base run_script decimal whole seam_line cell_line cell_lines listing place_text printed_run printed_mesh printed
cases_hold = refl
