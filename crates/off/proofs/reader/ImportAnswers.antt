-- What the whole text comes to, and what the import call answers of it.
use mathlib.Core.Path.{◌≡◌, refl, sym, ap}
use mathlib.Core.Bool.{true, false, cond, ◌&&◌}
use mathlib.Core.List.{List, []}
use Prim.Native.Nat.{ℕ, ◌*◌}
use lib.IntN.{ℤ, pos}
use Rattle.std.specs.Prelude.{Result, Ok, Err}
use Rattle.std.specs.Result.{is_err, result_unwrap_or, result_and}
use Rattle.maths.specs.Tables.{table}
use Rattle.maths.proofs.Cases.{by_bool, no_eq}
use Rattle.rules.specs.declared.counts.Counts.{Counts}
use Rattle.rules.specs.declared.refusals.Refusal.{Refusal}
use Rattle.rules.specs.Told.{refusal_number, number_told}
use Rattle.rules.specs.Refusals.{accepted, wrong_length, wrong_off}
use Rattle.rules.specs.Complex.{Pattern, pattern, empty, counts_of, stored}
use Rattle.rules.specs.Calls.{sized}
use Rattle.rules.proofs.Storage.Stored.{stored-complex}
use Rattle.off.specs.Words.{Text, Found, none, found, after_found, natural, coordinate, keyword}
use Rattle.off.specs.Plain.{Ring, Plain, plain, several, ring, cell_count, is_over, read_off}
use Rattle.off.specs.Answers.{Imported}
use Rattle.off.specs.Sewing.{after_sewn, sew}
use Rattle.off.specs.Calls.{sized_list, laid, import_left, import_call}
use Rattle.off.specs.Lying.{no_block}
use Rattle.off.specs.Wholes.{panels_then, body_then, CountsHere, Blanks, TextTaken, imported}
use Rattle.off.proofs.Laws.TextSays.{count_says}

-- what goes on alike comes to the same
after_same : {A B : Type 0} (w : Found A) {go go' : A → Text → Found B} → ((x : A) (t : Text) → go x t ≡ go' x t) → after_found w none go ≡ after_found w none go'
after_same none h = refl
after_same (found x t) h = h x t

rings-then : (w : Found (List Ring)) (P : List Ring → Plain) →
    after_found (after_found w none (λ r u. cond (is_over u) (found r []) none)) none (λ r _. found (P r) []) ≡ after_found w none (λ r u. cond (is_over u) (found (P r) []) none)
rings-then none P = refl
rings-then (found r u) P = by_bool (is_over u)
    (λ t. after_found (cond t (found r []) none) none (λ r _. found (P r) []) ≡ cond t (found (P r) []) none) (λ _. refl) (λ _. refl)

-- the keyword and the counts, of which any may not be there
module _ (s : Text) where
  pub no_keyword : keyword s ≡ none → read_off s ≡ none
  unfolding read_off
  no_keyword e = rw e

  module _ {k : ℕ} {a : Text} (word : keyword s ≡ found k a) where
    pub no_corner-count : cell_count a ≡ none → read_off s ≡ none
    unfolding read_off
    no_corner-count e = rw (word, e)

    module _ {corners : ℕ} {b : Text} (first : cell_count a ≡ found corners b) where
      pub no_panel-count : cell_count b ≡ none → read_off s ≡ none
      unfolding read_off
      no_panel-count e = rw (word, first, e)

      module _ {panels : ℕ} {d : Text} (second : cell_count b ≡ found panels d) where
        pub no_seam_count : natural d ≡ none → read_off s ≡ none
        unfolding read_off
        no_seam_count e = rw (word, first, second, e)

        pub counts_read : {seams : ℕ} {t : Text} → natural d ≡ found seams t → CountsHere s corners panels t
        unfolding read_off body_then panels_then
        counts_read {t} third = record {
          is = rw (word, first, second, third)
              (after_same (several coordinate (3 * corners) t) (λ c u. sym (rings-then (several ring panels u) (λ r. plain corners c r))));
          few = count_says a first;
          few-panels = count_says b second;
        }

-- what `read_text` answers, without the counts, which go to the pattern
abbrev pub done : Result Counts Refusal → Result (Unit {0}) Refusal
done a = result_and a (Ok tt)

abbrev pub told : Result Counts Refusal → Imported
told a = record { counts = result_unwrap_or a (counts_of empty); refusal = number_told (done a) }

-- the call: 1, and then by what the text says
module _ (s : List ℕ) (p : Pattern) (c : List ℤ) where
  pub wrong_lengths : sized p && sized_list c ≡ false → import_left wrong_length p c ≡ import_call s p c
  unfolding import_call
  wrong_lengths e = rw e

  module _ (right : sized p && sized_list c ≡ true) {m1 m2 m3 now : List ℤ} where
    -- what is left where all is cleared again
    pub refused-left : (a : Result Counts Refusal) {m1' m2' m3' now' : List ℤ} → true ≡ is_err (done a) → TextTaken (read_off s) a m1 m2 m3 now →
        Blanks m1' m2' m3' now' → imported (told a) m1' m2' m3' now' ≡ import_call s p c
    unfolding import_call
    refused-left (Ok d) f T B = no_eq (sym f)
    refused-left (Err r) f T B = rw (B.none1, B.none2, B.none3, B.zeros, right) (refuses (read_off s) T)
      where
        refuses : (x : Found Plain) → TextTaken x (Err r) m1 m2 m3 now → import_left (refusal_number r) (stored empty) (table 288 (λ i. pos 0)) ≡
            after_found x (import_left wrong_off (stored empty) (table 288 (λ i. pos 0))) (λ P _.
            after_sewn (sew P) (λ r. import_left r (stored empty) (table 288 (λ i. pos 0))) (λ X. import_left accepted (stored X) (laid P.coordinates)))
        refuses none T = let q : ◌≡◌ {A = Result Counts Refusal} (Err r) (Err Refusal.WrongOff) = T.ends refl in let w : r ≡ Refusal.WrongOff = cc in rw w
        refuses (found P u) T = rw (T.stands P u refl).is

    -- and where the third matrix alone is
    pub taken-left : (a : Result Counts Refusal) {m3' : List ℤ} → false ≡ is_err (done a) → TextTaken (read_off s) a m1 m2 m3 now → m3' ≡ no_block →
        imported (told a) m1 m2 m3' now ≡ import_call s p c
    unfolding import_call
    taken-left (Err r) f T e = no_eq f
    taken-left (Ok d) f T e = rw (e, right) (accepts (read_off s) T)
      where
        accepts : (x : Found Plain) → TextTaken x (Ok d) m1 m2 m3 now → import_left accepted (pattern d m1 m2 no_block) now ≡
            after_found x (import_left wrong_off (stored empty) (table 288 (λ i. pos 0))) (λ P _.
            after_sewn (sew P) (λ r. import_left r (stored empty) (table 288 (λ i. pos 0))) (λ X. import_left accepted (stored X) (laid P.coordinates)))
        accepts none T = let q : ◌≡◌ {A = Result Counts Refusal} (Ok d) (Err Refusal.WrongOff) = T.ends refl in cc
        accepts (found P u) T =
            let S = (T.stands P u refl).is in
            rw (S.0, T.lie P u refl)
            (ap (λ q. import_left accepted q (laid P.coordinates)) (sym (stored-complex (pattern d m1 m2 no_block) S.1.held.sized)))
