-- Texts, and what is exported of what they mean, computed by the definitions.
use mathlib.Core.Path.{◌≡◌, refl}
use mathlib.Core.List.{List, [], ◌∷◌, map}
use Prim.Native.Nat.{ℕ}
use Prim.Native.String.{String}
use Rattle.maths.specs.Tests.{eq_z, is_zero, is_unit, all, count, last}
use Rattle.maths.specs.Sums.{sum, dot, δ, join}
use Rattle.maths.specs.Repeat.{repeat}
use Rattle.rules.specs.Refusals.{wrong_off}
use Rattle.rules.specs.Good.{all_zero, closes}
use Rattle.rules.specs.Edits.{at3, put, make}
use Rattle.rules.specs.Operators.{chain_of, all_below, closed, make_step}
use Rattle.rules.specs.Printed.{text}
use Rattle.off.specs.Words.{after_found, is_blank, skipped, word_ends, is_digit, digits_from, number_here, natural, coordinate_here, coordinate, keyword_here, keyword}
use Rattle.off.specs.Plain.{one_more, several, ring, cell_count, is_over, read_off}
use Rattle.off.specs.Rings.{next_at, corners_below, distinct, is_ring}
use Rattle.off.specs.Sewing.{after_sewn, goes_from, seam_among, meet, meet_side, make_panel, sew_panel, sew_ring, sew_all, sew}
use Rattle.off.specs.Exporting.{leaves_by, next_among, lowest_from, start_of, steps_from, walked, number, signed, corner_line, ring_line, head_lines, export_text}

-- the text of what a text means, or the number of its refusal
abbrev again : String → List ℕ
again s = after_found (read_off (text s)) (number wrong_off) λ P _. after_sewn (sew P) number λ X. export_text X P.coordinates

-- a text, and what is exported or the number of the refusal
abbrev off_table : List (String × String)
off_table =
    -- a triangle, its ring from another corner
    ("OFF 3 1 0  0 0 0  120 0 -4  60 104 0  3 1 2 0", "OFF\n3 1 3\n0 0 0\n120 0 -4\n60 104 0\n3 0 1 2\n")
    -- two triangles that share a seam, which the second goes against
    ∷ ("OFF 4 2 0  0 0 0 1 0 0 1 1 0 0 1 0  3 0 1 2  3 3 0 2", "OFF\n4 2 5\n0 0 0\n1 0 0\n1 1 0\n0 1 0\n3 0 1 2\n3 0 2 3\n")
    -- no corner; a corner in no panel, with -0 and leading zeros
    ∷ ("OFF 0 0 0", "OFF\n0 0 0\n")
    ∷ ("\t OFF\r\n001 0 9999999 -0 0000012 -7 ", "OFF\n1 0 0\n0 12 -7\n")
    -- 18: another keyword, text that ends or is left over, a word that is no number, eight digits, a coordinate out of range, 97 corners
    ∷ ("COFF 0 0 0", "18") ∷ ("OFF 0 0", "18") ∷ ("OFF 0 0 0 0", "18") ∷ ("OFF 0 0 x", "18") ∷ ("OFF 00000000 0 0", "18")
    ∷ ("OFF 1 0 0 0 0 1048577", "18") ∷ ("OFF 97 0 0", "18")
    -- 5 before 7 in one ring, and 7 for a ring of two corners, or of three with one twice
    ∷ ("OFF 1 1 0 0 0 0 2 0 1", "5") ∷ ("OFF 2 1 0 0 0 0 0 0 0 2 0 1", "7") ∷ ("OFF 2 1 0 0 0 0 0 0 0 3 0 1 0", "7")
    ∷ []

pub off_cases_hold : map (λ (c : String × String). again c.0) off_table ≡ map (λ (c : String × String). text c.1) off_table
unfolding eq_z is_zero is_unit all count last sum dot δ join repeat all_zero closes at3 put make chain_of all_below closed make_step is_blank skipped word_ends is_digit digits_from number_here natural coordinate_here coordinate keyword_here keyword one_more several ring cell_count is_over read_off next_at corners_below distinct is_ring goes_from seam_among meet meet_side make_panel sew_panel sew_ring sew_all sew leaves_by next_among lowest_from start_of steps_from walked number signed corner_line ring_line head_lines export_text
off_cases_hold = refl
