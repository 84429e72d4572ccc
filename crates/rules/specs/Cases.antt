-- "Table of proved cases": a mesh, a script, and the lines that the program prints.
use Rattle.std.specs.Prelude.{true, false, List, [], ◌∷◌, ◌++◌, ℕ, ◌+◌, ◌-◌, ◌*◌, eqb, ltb}
use Prim.Native.Char.{code}
use Prim.Native.String.{String, [] as none, ◌∷◌ as letter}
use Rattle.rules.specs.Printed.{text, line}

pub record Case : Type 0 where
  pub mesh : String
  pub script : String
  pub lines : List String

abbrev pub row : String → String → List String → Case
row m s l = record { mesh = m; script = s; lines = l }

-- the bytes that a text has in hexadecimal, a blank after each but the last; x is what was read of the present one
abbrev digit : ℕ → ℕ
digit c = elim (ltb c 0x61) [ true ↦ c - 0x30 | false ↦ c - 0x57 ]

abbrev bytes_after : ℕ → String → List ℕ
bytes_after x none = x ∷ []
bytes_after x (letter c rest) = elim (eqb (code c) 0x20) [ true ↦ x ∷ bytes_after 0 rest | false ↦ bytes_after (16 * x + digit (code c)) rest ]

abbrev pub input_of : Case → List ℕ
input_of c = bytes_after 0 c.mesh ++ bytes_after 0 c.script

abbrev pub lines_of : List String → List ℕ
lines_of [] = []
lines_of (l ∷ rest) = text l ++ (line ++ lines_of rest)

abbrev pub output_of : Case → List ℕ
output_of c = lines_of c.lines

-- "T is the mesh above before its script."
abbrev T : String
T = "03 03 00 02 00 01 01 02 01 03 00 02 01 01 02 01 00"

abbrev pub case_table : List Case
case_table =
    -- 1. Empty pattern: bytes 00 00 00 00, Euler 0.
    row "00 00 00 00" "04 00 00 00 00 00 00" ("ran 0 refusal 0" ∷ "cells 0 0 0 0" ∷ "euler 0" ∷ [])
    -- 2. T is good, Euler 1.
    ∷ row T "04 03 03 01 00 00 00" ("ran 0 refusal 0" ∷ "cells 3 3 1 0" ∷ "euler 1" ∷ "e 0 0 2" ∷ "e 1 0 1" ∷ "e 2 1 2" ∷ "f 0 -0 +1 +2" ∷ [])
    -- 3. T, split seam 0: seam 0 is 0 to 3, seam 3 is 3 to 2.
    ∷ row T "04 03 03 01 00 01 00 31 00" ("ran 1 refusal 0" ∷ "cells 4 4 1 0" ∷ "euler 1" ∷ "e 0 0 3" ∷ "e 1 0 1" ∷ "e 2 1 2" ∷ "e 3 3 2" ∷ "f 0 -0 +1 +2 -3" ∷ [])
    -- 4. The listing above.
    ∷ row T "04 03 03 01 00 02 00 31 00 32 00 02 02 03" ("ran 2 refusal 0" ∷ "cells 4 5 2 0" ∷ "euler 1" ∷ "e 0 0 3" ∷ "e 1 0 1" ∷ "e 2 1 2" ∷ "e 3 3 2" ∷ "e 4 1 3" ∷ "f 0 -0 +1 +4" ∷ "f 1 +2 -3 -4" ∷ [])
    -- 5. T, split panel 0 by all three seams: 9; by none: 9.
    ∷ row T "04 03 03 01 00 01 00 32 00 03 00 01 02" ("ran 0 refusal 9" ∷ "cells 3 3 1 0" ∷ "euler 1" ∷ "e 0 0 2" ∷ "e 1 0 1" ∷ "e 2 1 2" ∷ "f 0 -0 +1 +2" ∷ [])
    ∷ row T "04 03 03 01 00 01 00 32 00 00" ("ran 0 refusal 9" ∷ "cells 3 3 1 0" ∷ "euler 1" ∷ "e 0 0 2" ∷ "e 1 0 1" ∷ "e 2 1 2" ∷ "f 0 -0 +1 +2" ∷ [])
    -- 6. T, kill seam 0: 8; kill panel 0: accepted, Euler 0.
    ∷ row T "04 03 03 01 00 01 00 21 00" ("ran 0 refusal 8" ∷ "cells 3 3 1 0" ∷ "euler 1" ∷ "e 0 0 2" ∷ "e 1 0 1" ∷ "e 2 1 2" ∷ "f 0 -0 +1 +2" ∷ [])
    ∷ row T "04 03 03 01 00 01 00 22 00" ("ran 1 refusal 0" ∷ "cells 3 3 0 0" ∷ "euler 0" ∷ "e 0 0 2" ∷ "e 1 0 1" ∷ "e 2 1 2" ∷ [])
    -- 7. T, make seam 1 to 1: 7; make seam 0 to 3: 5.
    ∷ row T "04 03 03 01 00 01 00 11 01 01" ("ran 0 refusal 7" ∷ "cells 3 3 1 0" ∷ "euler 1" ∷ "e 0 0 2" ∷ "e 1 0 1" ∷ "e 2 1 2" ∷ "f 0 -0 +1 +2" ∷ [])
    ∷ row T "04 03 03 01 00 01 00 11 00 03" ("ran 0 refusal 5" ∷ "cells 3 3 1 0" ∷ "euler 1" ∷ "e 0 0 2" ∷ "e 1 0 1" ∷ "e 2 1 2" ∷ "f 0 -0 +1 +2" ∷ [])
    -- 8. Two corners, seams 0 to 1 and 1 to 0, merge at corner 1: 20.
    ∷ row "02 02 00 01 01 00 00 00" "04 02 02 00 00 01 00 40 01" ("ran 0 refusal 20" ∷ "cells 2 2 0 0" ∷ "euler 0" ∷ "e 0 0 1" ∷ "e 1 1 0" ∷ [])
    -- 9. T, merge at corner 1: accepted; at corner 0: 11, both seams leave it.
    ∷ row T "04 03 03 01 00 01 00 40 01" ("ran 1 refusal 0" ∷ "cells 2 2 1 0" ∷ "euler 1" ∷ "e 0 0 1" ∷ "e 1 0 1" ∷ "f 0 -0 +1" ∷ [])
    ∷ row T "04 03 03 01 00 01 00 40 00" ("ran 0 refusal 11" ∷ "cells 3 3 1 0" ∷ "euler 1" ∷ "e 0 0 2" ∷ "e 1 0 1" ∷ "e 2 1 2" ∷ "f 0 -0 +1 +2" ∷ [])
    -- 10. 96 corners, make corner: 6; 95: accepted.
    ∷ row "60 00 00 00" "04 60 00 00 00 01 00 10" ("ran 0 refusal 6" ∷ "cells 96 0 0 0" ∷ "euler 96" ∷ [])
    ∷ row "5f 00 00 00" "04 5f 00 00 00 01 00 10" ("ran 1 refusal 0" ∷ "cells 96 0 0 0" ∷ "euler 96" ∷ [])
    -- 11. T, flip panel 0: +0 -1 -2.
    ∷ row T "04 03 03 01 00 01 00 52 00" ("ran 1 refusal 0" ∷ "cells 3 3 1 0" ∷ "euler 1" ∷ "e 0 0 2" ∷ "e 1 0 1" ∷ "e 2 1 2" ∷ "f 0 +0 -1 -2" ∷ [])
    -- 12. T, script base 03 03 02 00: 13.
    ∷ row T "04 03 03 02 00 00 00" ("ran 0 refusal 13" ∷ "cells 3 3 1 0" ∷ "euler 1" ∷ "e 0 0 2" ∷ "e 1 0 1" ∷ "e 2 1 2" ∷ "f 0 -0 +1 +2" ∷ [])
    ∷ []
