-- The printed result by its lines.
use mathlib.Core.Path.{◌≡◌}
use mathlib.Core.List.{◌++◌, append_assoc}
use Rattle.rules.specs.Complex.{Complex, counts_of, euler}
use Rattle.rules.specs.Script.{Ended}
use Rattle.rules.specs.Printed.{text, seam_line, cell_line, cell_lines, listing, printed_run}
use Rattle.listing.specs.Lines.{ran_line, cells_line, euler_line}

-- the first line of a run, and the pattern after it
pub printed-run : (e : Ended) → printed_run e ≡ ran_line e.ran e.refusal e.place ++ listing e.now
unfolding printed_run ran_line
printed-run e = simp append_assoc

-- the counts, the Euler number, and a line for each seam, panel and block
pub printed-listing : (X : Complex) → listing X ≡
    cells_line (counts_of X) ++ (euler_line (euler X)
    ++ (cell_lines seam_line 1 X ++ (cell_lines (cell_line (text "f")) 2 X ++ cell_lines (cell_line (text "s")) 3 X)))
unfolding listing cells_line euler_line
printed-listing X = simp append_assoc
