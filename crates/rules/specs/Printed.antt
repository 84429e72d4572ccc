-- "The printed result", as bytes.
use Rattle.std.specs.Prelude.{cond, List, [], ◌∷◌, ◌++◌, ℕ, zero, suc, ◌+◌, ◌/◌, ◌%◌, ltb, ℤ, pos, negsuc, take, drop}
use Prim.Native.Char.{code}
use Prim.Native.String.{String, [] as none, ◌∷◌ as letter}
use Rattle.maths.specs.Sums.{join}
use Rattle.rules.specs.Complex.{Complex, Chain, euler}
use Rattle.rules.specs.Form.{is_fault}
use Rattle.rules.specs.Mesh.{tail_of, head_of, each_face, read_mesh, after_reading}
use Rattle.rules.specs.Script.{Ended, ended, run_script}
use Rattle.rules.specs.Calls.{on_good, sized_script}

-- the bytes of a text
abbrev pub text : String → List ℕ
text none = []
text (letter c rest) = code c ∷ text rest

abbrev pub line : List ℕ
line = text "\n"

-- a number below 100,000 in decimal; `most` is how many digits may follow the last
abbrev pub digits : ℕ → ℕ → List ℕ
digits zero n = (48 + n % 10) ∷ []
digits (suc most) n = cond (ltb n 10) ((48 + n) ∷ []) (digits most (n / 10) ++ ((48 + n % 10) ∷ []))

unfoldable pub decimal : ℕ → List ℕ
decimal n = digits 4 n

unfoldable pub whole : ℤ → List ℕ
whole (pos n) = decimal n
whole (negsuc n) = text "-" ++ decimal (suc n)

-- "each seam (number, tail, head)"
unfoldable pub seam_line : ℕ → Chain → List ℕ
seam_line j v = text "e " ++ (decimal j ++ (text " " ++ (decimal (tail_of v) ++ (text " " ++ (decimal (head_of v) ++ line)))))

-- "panel and block (number, signed faces rising)"
abbrev pub signed_face : ℕ → ℤ → List ℕ
signed_face i (pos n) = text " +" ++ decimal i
signed_face i (negsuc n) = text " -" ++ decimal i

unfoldable pub cell_line : List ℕ → ℕ → Chain → List ℕ
cell_line kind j v = kind ++ (text " " ++ (decimal j ++ (each_face signed_face v ++ line)))

-- a line for each cell of dimension k
unfoldable pub cell_lines : (ℕ → Chain → List ℕ) → ℕ → Complex → List ℕ
cell_lines f k X = join (X k).n (λ j. f j (λ i. (X k).d i j))

unfoldable pub listing : Complex → List ℕ
listing X =
    text "cells " ++ (decimal (X 0).n ++ (text " " ++ (decimal (X 1).n ++ (text " " ++ (decimal (X 2).n ++ (text " " ++ (decimal (X 3).n ++ (line
    ++ (text "euler " ++ (whole (euler X) ++ (line
    ++ (cell_lines seam_line 1 X ++ (cell_lines (cell_line (text "f")) 2 X ++ cell_lines (cell_line (text "s")) 3 X)))))))))))))

-- "A printed 3, 4 or 14 gains ` at P`."
unfoldable pub place_text : ℕ → ℕ → List ℕ
place_text r at = cond (is_fault r) (text " at " ++ decimal at) []

unfoldable pub printed_run : Ended → List ℕ
printed_run e =
    text "ran " ++ (decimal e.ran ++ (text " refusal " ++ (decimal e.refusal ++ (place_text e.refusal e.place ++ (line ++ listing e.now)))))

-- "A refused mesh prints one line, `mesh refusal R`."
unfoldable pub printed_mesh : ℕ → ℕ → List ℕ
printed_mesh r at = text "mesh refusal " ++ (decimal r ++ (place_text r at ++ line))

-- "reads a mesh followed directly by a script from standard input. It takes the first 65,536 bytes and no more"
unfoldable pub printed : List ℕ → List ℕ
printed input =
    let s = take 65536 input in
    after_reading (read_mesh s) printed_mesh λ X used.
    let script = drop used s in
    printed_run (on_good (sized_script script) X (λ r. ended X 0 r) (run_script script))
