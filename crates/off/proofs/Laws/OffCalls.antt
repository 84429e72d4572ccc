-- The laws of the two calls, on bytes and lent lists: import leaves a good pattern or refuses, and each call undoes the other.
use mathlib.Core.Path.{◌≡◌, refl, sym, fun_ext, ◌∙◌}
use mathlib.Core.Logic.{◌≢◌}
use mathlib.Core.Bool.{true, false, ◌&&◌}
use mathlib.Core.List.{List, [], ◌∷◌, ◌++◌}
use Prim.Native.Nat.{ℕ, zero, suc, ◌+◌, ◌≤◌}
use native.Mathlib.Omega.{arith}
use borrow.Author.Tests.{le-leb, eq-eqb}
use lib.Dec.{leb}
use lib.IntN.{ℤ, pos}
use lib.ListN.{length, get_or, take, drop}
use lib.Seq.{take-append_seam}
use Rattle.maths.specs.Tables.{table}
use Rattle.maths.proofs.Cases.{no_eq}
use Rattle.maths.proofs.Tables.{length-table}
use Rattle.rules.specs.Refusals.{accepted, wrong_length, no_such_cell, no_room, not_closed, wrong_sum, wrong_off}
use Rattle.rules.specs.Complex.{Pattern, pattern, Complex, complex, stored, empty}
use Rattle.rules.specs.Good.{Good, Held, is_good}
use Rattle.rules.specs.Mesh.{corners}
use Rattle.rules.specs.Calls.{sized}
use Rattle.rules.proofs.Branches.Branches.{cond_each, good_each}
use Rattle.rules.proofs.Storage.Stored.{complex-stored, stored-held, sized-is}
use Rattle.rules.proofs.Storage.Tested.{complex_bounded, good-true, good-is}
use Rattle.rules.proofs.Texts.ReadGood.{corners-good}
use Rattle.off.specs.Words.{Text, Found, none, found, after_found}
use Rattle.off.specs.Plain.{Ring, Plain, read_off}
use Rattle.off.specs.Sewing.{Sewn, refused, sewn, after_sewn, sew_all, sew}
use Rattle.off.specs.Exporting.{is_plain, coordinates_near, plain_of, export_text}
use Rattle.off.specs.Calls.{sized_list, laid, ImportLeft, import_left, import_call, ExportLeft, export_good, export_call}
use Rattle.off.proofs.sewing.RingsSewn.{ring_each, sew-refused, sew-good}
use Rattle.off.proofs.Rounds.RoundTrip.{import_again, rings_again}
use Rattle.off.proofs.Rounds.Listed.{same_list}
use Rattle.off.proofs.Laws.TextSays.{SaidPlain, text_says}
use Rattle.off.proofs.Laws.OffLaws.{rings-listed, ring_said, exported_says, SameSaid, TextAgain, text_again}

-- a refusal by sewing is 5, 6 or 7
abbrev ByPanel : Sewn → Type 0
ByPanel (refused r) = (no_such_cell ≤ r) × (r ≤ not_closed)
ByPanel (sewn X) = Unit {0}

panels-numbered : (rings : List Ring) {X : Complex} → Good X → (X 2).n + length rings ≤ 96 → ByPanel (sew_all (sewn X) rings)
unfolding sew_all
panels-numbered [] G few = tt
panels-numbered (r ∷ rings) G few =
    ring_each r G (omega arith) (λ s. ByPanel (sew_all s rings))
    (λ _. rw (sew-refused no_such_cell rings) (omega arith, omega arith))
    (λ _. rw (sew-refused not_closed rings) (omega arith, omega arith))
    (λ _ _ _ _ _. rw (sew-refused no_room rings) (omega arith, omega arith))
    (λ Y O. panels-numbered rings O.good (omega (arith, O.panels)))

pub sew-numbered : (P : Plain) (r : ℕ) → SaidPlain P → sew P ≡ refused r → (no_such_cell ≤ r) × (r ≤ not_closed)
unfolding sew
sew-numbered P r S e = rw e at (panels-numbered P.rings (corners-good P.corners S.few) (omega (arith, S.few-rings)))

-- what a refusal other than 1 leaves
abbrev pub nothing_left : ℕ → ImportLeft
nothing_left r = import_left r (stored empty) (table 288 (λ i. pos 0))

-- an import is refused by 1; by 18; by 5, 6 or 7; or leaves what its text says
module _ (Q : ImportLeft → Type 0) (s : List ℕ) (p : Pattern) (c : List ℤ) where
  found_each : (x : Found Plain) → read_off s ≡ x → (x ≡ none → Q (nothing_left wrong_off)) →
      ((P : Plain) (u : Text) (r : ℕ) → read_off s ≡ found P u → sew P ≡ refused r → Q (nothing_left r)) →
      ((P : Plain) (u : Text) (X : Complex) → read_off s ≡ found P u → sew P ≡ sewn X → Q (import_left accepted (stored X) (laid P.coordinates))) →
      Q (after_found x (nothing_left wrong_off) λ P _. after_sewn (sew P) nothing_left λ X. import_left accepted (stored X) (laid P.coordinates))
  found_each none e bad stop go = bad refl
  found_each (found P u) e bad stop go = sewn_each (sew P) refl
    where
      sewn_each : (x : Sewn) → sew P ≡ x → Q (after_sewn x nothing_left λ X. import_left accepted (stored X) (laid P.coordinates))
      sewn_each (refused r) q = stop P u r e q
      sewn_each (sewn X) q = go P u X e q

  pub import_each : (sized p && sized_list c ≡ false → Q (import_left wrong_length p c)) → (sized p && sized_list c ≡ true → read_off s ≡ none → Q (nothing_left wrong_off)) →
      (sized p && sized_list c ≡ true → (P : Plain) (u : Text) (r : ℕ) → read_off s ≡ found P u → sew P ≡ refused r → Q (nothing_left r)) →
      (sized p && sized_list c ≡ true → (P : Plain) (u : Text) (X : Complex) → read_off s ≡ found P u → sew P ≡ sewn X →
      Q (import_left accepted (stored X) (laid P.coordinates))) → Q (import_call s p c)
  unfolding import_call
  import_each short bad stop go = cond_each Q (sized p && sized_list c) (λ t. found_each (read_off s) refl (bad t) (stop t) (go t)) short

empty-good : Good empty
empty-good = rw (← fun_ext same) (corners-good 0 (omega arith))
  where
    same : (k : ℕ) → corners 0 k ≡ empty k
    same zero = refl
    same (suc k) = refl

-- the pattern that import leaves
abbrev pub pattern_left : ImportLeft → Pattern
pattern_left l = pattern l.answer.counts l.m1 l.m2 l.m3

-- "import leaves a good pattern or refuses", and a refused import leaves the empty pattern
pub import_good : (s : List ℕ) (p : Pattern) (c : List ℤ) → sized p && sized_list c ≡ true → Held (pattern_left (import_call s p c))
import_good s p c t =
    let none-held : Held (stored empty) = stored-held empty-good in
    import_each (λ l. Held (pattern_left l)) s p c
    (λ f. no_eq (sym f ∙ t))
    (λ _ _. none-held)
    (λ _ P u r _ _. none-held)
    (λ _ P u X e q. let S = text_says s e in stored-held (sew-good {P = P} S.few S.few-rings q).good)

-- what an accepted import of the text s leaves
pub record Accepted (s : List ℕ) (l : ImportLeft) : Type 0 where
  pub said : Plain
  pub rest : Text
  pub now : Complex
  pub reads : read_off s ≡ found said rest
  pub sews : sew said ≡ sewn now
  pub is : l ≡ import_left accepted (stored now) (laid said.coordinates)
  pub again : TextAgain said now

pub import_accepted : (s : List ℕ) (p : Pattern) (c : List ℤ) → (import_call s p c).answer.refusal ≡ accepted → Accepted s (import_call s p c)
import_accepted s p c = import_each (λ l. l.answer.refusal ≡ accepted → Accepted s l) s p c
    (λ _ e. absurd (omega arith))
    (λ _ _ e. absurd (omega arith))
    (λ _ P u r q f e. absurd (omega (arith, (sew-numbered P r (text_says s q) f).0)))
    (λ _ P u X q f e. record { said = P; rest = u; now = X; reads = q; sews = f; is = refl; again = text_again P X (text_says s q) f })

-- a text that was written to the front of a buffer
abbrev written : List ℕ → List ℕ → ExportLeft
written t out = record { answer = record { written = length t; refusal = accepted }; out = t ++ drop (length t) out }

laid-sized : (c : List ℤ) → sized_list (laid c) ≡ true
unfolding laid
laid-sized c = eq-eqb (length (laid c)) 288 (length-table 0 288 (λ i. get_or c i (pos 0)))

-- a good pattern that has a text is exported
stored_exported : {X : Complex} (c : List ℤ) (out : List ℕ) → Good X → sized_list c ≡ true → coordinates_near (X 0).n c ≡ true → is_plain X ≡ true →
    length (export_text X c) ≤ length out → export_call (stored X) c out ≡ written (export_text X c) out
unfolding export_call export_good
stored_exported {X} c out G long near plain room =
    rw (sized-is (stored-held G).sized, long, complex-stored G, good-is G, near, plain, le-leb (length (export_text X c)) (length out) room)

-- "exporting what was imported gives, for each panel, the same ring up to its starting corner, and the same coordinates"
pub record ExportedAgain (P : Plain) (e : ExportLeft) : Type 0 where
  pub text : List ℕ
  pub says : Plain
  pub front : take e.answer.written e.out ≡ text
  pub accepts : e.answer.refusal ≡ accepted
  pub reads : read_off text ≡ found says []
  pub same : SameSaid P says

pub export_after_import : (s out : List ℕ) (p : Pattern) (c : List ℤ) (e : (import_call s p c).answer.refusal ≡ accepted) →
    let l = import_call s p c in let A = import_accepted s p c e in
    length (export_text A.now l.coordinates) ≤ length out → ExportedAgain A.said (export_call (pattern_left l) l.coordinates out)
export_after_import s out p c e room =
    let l = import_call s p c in
    let A = import_accepted s p c e in
    let X = A.now in
    let list = laid A.said.coordinates in
    let T = A.again in
    let t = export_text X list in
    let room' : length t ≤ length out = rw A.is at room in
    rw (A.is, stored_exported list out T.good (laid-sized _) T.near T.plain room') (record {
      text = t;
      says = plain_of X list;
      front = take-append_seam t (drop (length t) out);
      accepts = refl;
      reads = exported_says T.good list T.plain T.near;
      same = T.same;
    })

-- what an accepted export is
pub record Exports (p : Pattern) (c : List ℤ) (out : List ℕ) (e : ExportLeft) : Type 0 where
  pub good : Good (complex p)
  pub near : coordinates_near (complex p 0).n c ≡ true
  pub plain : is_plain (complex p) ≡ true
  pub is : e ≡ written (export_text (complex p) c) out

pub export_accepted : (p : Pattern) (c : List ℤ) (out : List ℕ) → (export_call p c out).answer.refusal ≡ accepted → Exports p c out (export_call p c out)
unfolding export_call export_good
export_accepted p c out =
    let X = complex p in
    let Q : ExportLeft → Type 0 = λ l. l.answer.refusal ≡ accepted → Exports p c out l in
    cond_each Q (sized p && sized_list c) (λ long.
    cond_each Q (is_good X) (λ good.
    cond_each Q (coordinates_near (X 0).n c) (λ near.
    cond_each Q (is_plain X) (λ plain.
    cond_each Q (leb (length (export_text X c)) (length out)) (λ room _.
    record { good = good-true (complex_bounded p) good; near = near; plain = plain; is = refl })
    (λ _ e. absurd (omega arith)))
    (λ _ e. absurd (omega arith)))
    (λ _ e. absurd (omega arith)))
    (λ _ e. absurd (omega arith)))
    (λ _ e. absurd (omega arith))

-- "importing what was exported is accepted and its rings are those of the pattern": what it leaves exports the same corners, coordinates and rings
pub record ImportedAgain (P : Plain) (l : ImportLeft) : Type 0 where
  pub now : Complex
  pub is : l ≡ import_left accepted (stored now) (laid P.coordinates)
  pub good : Good now
  pub says : plain_of now (laid P.coordinates) ≡ P

said_again : {X Y : Complex} (c : List ℤ) → Good X → is_plain X ≡ true → SaidPlain (plain_of X c) → sew (plain_of X c) ≡ sewn Y →
    plain_of Y (laid (plain_of X c).coordinates) ≡ plain_of X c
said_again {X} {Y} c G plain S e =
    let P = plain_of X c in
    let list = laid P.coordinates in
    let T = text_again P Y S e in
    let panels : length (plain_of Y list).rings ≡ length P.rings = T.same.panels in
    let here = rings-listed T.good list in
    let there = rings-listed G c in
    let rings : (plain_of Y list).rings ≡ P.rings = same_list (plain_of Y list).rings P.rings [] panels (λ k h.
    ring_said T.good list k (omega arith) ∙ rings_again G plain c e k (omega arith) ∙ sym (ring_said G c k (omega arith))) in
    λ i. record { corners = T.same.corners i; coordinates = T.same.coordinates i; rings = rings i }

pub import_after_export : (p : Pattern) (c : List ℤ) (out : List ℕ) → (export_call p c out).answer.refusal ≡ accepted →
    (q : Pattern) (d : List ℤ) → sized q && sized_list d ≡ true →
    let e = export_call p c out in ImportedAgain (plain_of (complex p) c) (import_call (take e.answer.written e.out) q d)
unfolding import_call
import_after_export p c out e q d long =
    let X = complex p in
    let E = export_accepted p c out e in
    let t = export_text X c in
    let front : take (length t) (t ++ drop (length t) out) ≡ t = take-append_seam t (drop (length t) out) in
    let reads = exported_says E.good c E.plain E.near in
    let S = text_says t reads in
    let again = import_again E.good E.plain c in
    let T = text_again (plain_of X c) again.0 S again.1 in
    rw (E.is, front, long, reads, again.1) (record {
      now = again.0;
      is = refl;
      good = T.good;
      says = said_again c E.good E.plain S again.1;
    })

-- neither call answers 12
pub import_never_12 : (s : List ℕ) (p : Pattern) (c : List ℤ) → (import_call s p c).answer.refusal ≢ wrong_sum
import_never_12 s p c = import_each (λ l. l.answer.refusal ≢ wrong_sum) s p c
    (λ _. omega arith)
    (λ _ _. omega arith)
    (λ _ P u r q f e. omega (arith, (sew-numbered P r (text_says s q) f).1))
    (λ _ P u X q f. omega arith)

pub export_never_12 : (p : Pattern) (c : List ℤ) (out : List ℕ) → (export_call p c out).answer.refusal ≢ wrong_sum
unfolding export_call export_good
export_never_12 p c out =
    let X = complex p in
    let Q : ExportLeft → Type 0 = λ l. l.answer.refusal ≢ wrong_sum in
    good_each Q (sized p && sized_list c) (is_good X) (λ _ _.
    cond_each Q (coordinates_near (X 0).n c) (λ _.
    cond_each Q (is_plain X) (λ _.
    cond_each Q (leb (length (export_text X c)) (length out)) (λ _. omega arith) (λ _. omega arith)) (λ _. omega arith)) (λ _. omega arith))
    (omega arith) (omega arith)
