-- What the two calls answer, and what they leave in every lent list, for all inputs.
use Rattle.std.specs.Prelude.{Bool, cond, ◌&&◌, List, ◌++◌, ℕ, eqb, leb, ℤ, pos, length, get_or, drop}
use Rattle.maths.specs.Tables.{table}
use Rattle.rules.specs.Refusals.{accepted, wrong_length, short_output, wrong_off, not_plain}
use Rattle.rules.specs.Complex.{Pattern, Complex, complex, empty, stored}
use Rattle.rules.specs.Calls.{sized, on_good}
use Rattle.off.specs.Answers.{Imported, Exported}
use Rattle.off.specs.Words.{after_found}
use Rattle.off.specs.Plain.{read_off}
use Rattle.off.specs.Sewing.{sew, after_sewn}
use Rattle.off.specs.Exporting.{coordinates_near, is_plain, export_text}

-- "a lent list of 288 signed 32-bit x, y, z"
abbrev pub sized_list : List ℤ → Bool
sized_list c = eqb (length c) 288

-- "the rest 0"
unfoldable pub laid : List ℤ → List ℤ
laid c = table 288 (λ i. get_or c i (pos 0))

-- an answer, and the matrices and coordinates at exit
pub record ImportLeft : Type 0 where
  pub answer : Imported
  pub m1 : List ℤ
  pub m2 : List ℤ
  pub m3 : List ℤ
  pub coordinates : List ℤ

abbrev pub import_left : ℕ → Pattern → List ℤ → ImportLeft
import_left r p c = record { answer = record { counts = p.counts; refusal = r }; m1 = p.m1; m2 = p.m2; m3 = p.m3; coordinates = c }

-- "A refused import leaves the pattern empty and the coordinates 0 (after 1 the buffers unchanged)". p has counts 0.
unfoldable pub import_call : List ℕ → Pattern → List ℤ → ImportLeft
import_call s p c =
    let refuse : ℕ → ImportLeft = λ r. import_left r (stored empty) (table 288 (λ i. pos 0)) in
    cond (sized p && sized_list c)
    (after_found (read_off s) (refuse wrong_off) λ P _.
    after_sewn (sew P) refuse λ X. import_left accepted (stored X) (laid P.coordinates))
    (import_left wrong_length p c)

pub record ExportLeft : Type 0 where
  pub answer : Exported
  pub out : List ℕ

abbrev pub not_exported : List ℕ → ℕ → ExportLeft
not_exported out r = record { answer = record { written = 0; refusal = r }; out = out }

-- the text of a good pattern: "18 for such a coordinate below the count, 19 .., then 15"
unfoldable pub export_good : Complex → List ℤ → List ℕ → ExportLeft
export_good X c out =
    cond (coordinates_near (X 0).n c)
    (cond (is_plain X)
    (let t = export_text X c in
    cond (leb (length t) (length out))
    (record { answer = record { written = length t; refusal = accepted }; out = t ++ drop (length t) out })
    (not_exported out short_output))
    (not_exported out not_plain))
    (not_exported out wrong_off)

-- "a refused export changes nothing"
unfoldable pub export_call : Pattern → List ℤ → List ℕ → ExportLeft
export_call p c out = on_good (sized p && sized_list c) (complex p) (not_exported out) λ X. export_good X c out
