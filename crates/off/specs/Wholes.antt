-- The parts of an OFF text from its end to its front, and what reading each leaves.
use Rattle.std.specs.Prelude.{◌≡◌, cond, List, [], ℕ, ◌*◌, ◌≤◌, ℤ, pos, length, Option, None, Some, Result, Err}
use Rattle.std.specs.Borrow.{Bor}
use Rattle.maths.specs.Tables.{table}
use Rattle.rules.specs.declared.counts.Counts.{Counts}
use Rattle.rules.specs.declared.refusals.Refusal.{Refusal}
use Rattle.rules.specs.declared.pattern.Pattern.{Pattern as LentPattern}
use Rattle.rules.specs.Told.{number_told}
use Rattle.rules.specs.Complex.{Pattern, pattern, counts_of, empty}
use Rattle.off.specs.Answers.{Imported}
use Rattle.off.specs.Words.{Text, Found, none, found, after_found, coordinate}
use Rattle.off.specs.Plain.{Ring, Plain, plain, several, ring, is_over, read_off}
use Rattle.off.specs.Sewing.{Sewn, sew_all, sew}
use Rattle.off.specs.Calls.{ImportLeft, laid}
use Rattle.off.specs.Lying.{no_block, Matrices, Stands}

-- the rings, and nothing after them
unfoldable pub panels_then : ℕ → Text → Found (List Ring)
panels_then panels t = after_found (several ring panels t) none λ rings u. cond (is_over u) (found rings []) none

-- what follows the three counts
unfoldable pub body_then : ℕ → ℕ → Text → Found Plain
body_then corners panels t =
    after_found (several coordinate (3 * corners) t) none λ coordinates u.
    after_found (panels_then panels u) none λ rings _. found (plain corners coordinates rings) []

-- matrices and a list of zeros
pub record Blanks (m1 m2 m3 list : List ℤ) : Type 0 where
  pub none1 : m1 ≡ no_block
  pub none2 : m2 ≡ no_block
  pub none3 : m3 ≡ no_block
  pub zeros : list ≡ table 288 (λ i. pos 0)

pub record BodyRoom (corners panels : ℕ) (m1 m2 m3 list : List ℤ) : Type 0 where
  pub blanks : Blanks m1 m2 m3 list
  pub few : corners ≤ 96
  pub few-panels : panels ≤ 96

-- the counts that were read: what the text says is what the rest says after them
pub record CountsHere (s : Text) (corners panels : ℕ) (rest : Text) : Type 0 where
  pub is : read_off s ≡ body_then corners panels rest
  pub few : corners ≤ 96
  pub few-panels : panels ≤ 96

abbrev pub CountsTaken : Text → Option (ℕ × ℕ × Bor Text) → Type 0
CountsTaken s None = read_off s ≡ none
CountsTaken s (Some (corners, panels, rest)) = CountsHere s corners panels rest.now

-- an answer to rings that are sewn on to `start`, or to none
pub record EndTaken (x : Found (List Ring)) (start : Sewn) (a : Result Counts Refusal) (m1 m2 m3 : List ℤ) : Type 0 where
  pub sizes : Matrices m1 m2 m3
  pub goes : (rings : List Ring) (u : Text) → x ≡ found rings u → Stands (sew_all start rings) a m1 m2 m3
  pub ends : x ≡ none → a ≡ Err Refusal.WrongOff

-- an answer to a text
pub record TextTaken (x : Found Plain) (a : Result Counts Refusal) (m1 m2 m3 list : List ℤ) : Type 0 where
  pub sizes : Matrices m1 m2 m3
  pub size : length list ≡ 288
  pub stands : (P : Plain) (u : Text) → x ≡ found P u → Stands (sew P) a m1 m2 m3
  pub lie : (P : Plain) (u : Text) → x ≡ found P u → list ≡ laid P.coordinates
  pub ends : x ≡ none → a ≡ Err Refusal.WrongOff

-- an answer, and the matrices and the list at exit
abbrev pub imported : Imported → List ℤ → List ℤ → List ℤ → List ℤ → ImportLeft
imported r m1 m2 m3 list = record { answer = r; m1 = m1; m2 = m2; m3 = m3; coordinates = list }

-- the pattern that is lent to the call, the counts of which don't matter
abbrev pub uncounted : LentPattern → Pattern
uncounted p = pattern (counts_of empty) p.m1.now p.m2.now p.m3.now

-- how the code's answer is told, the counts of which are in the pattern
abbrev pub import_told : {A : Type 0} → Result A Refusal → LentPattern → List ℤ → ImportLeft
import_told r p list = imported (record { counts = p.counts; refusal = number_told r }) p.m1.now p.m2.now p.m3.now list
