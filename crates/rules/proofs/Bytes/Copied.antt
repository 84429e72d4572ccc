-- What stands in a list is read again in a part of it: a byte, an entry, a list, an operator.
use Rattle.std.specs.Prelude.{Option, Some, Ok, Err, None}
use mathlib.Core.Path.{◌≡◌, refl, sym, ap, ◌∙◌}
use mathlib.Core.Bool.{Bool, true, false}
use mathlib.Core.List.{List}
use Prim.Native.Nat.{ℕ, zero, suc, ◌+◌, ◌*◌, ◌<◌, ◌≤◌}
use native.Mathlib.Nat.{suc-mul}
use native.Mathlib.Omega.{arith}
use borrow.Author.Tests.{ne_eqb, eqb-true}
use lib.Dec.{eqb}
use lib.ListN.{length, get_or}
use Rattle.maths.specs.Repeat.{repeat}
use Rattle.maths.proofs.Cases.{bool_or}
use Rattle.rules.specs.declared.form.Fault.{Fault}
use Rattle.rules.specs.declared.form.Code.{Code}
use Rattle.rules.specs.declared.operator.Operator.{Operator}
use Rattle.rules.specs.declared.operator.Operator.TheVariants.{Make, Kill, Split, Merge, Flip}
use Rattle.rules.specs.Form.{byte_at, after, after_entry, code_of, entry_at, entries_at, list_at, make_at, split_at, cell_at, operands_at, operator_at, sign_of, made_of, chosen_of, faces_of, Field, OperatorForm}
use Rattle.rules.proofs.Bytes.Fields.{Byte, byte_got, byte_after, after_got, after_entry_lem, bad_field, bad_entry, bad_operator, same_operator, same_entry}
use Rattle.rules.proofs.Bytes.Listed.{list_says, width}
use Rattle.rules.proofs.Bytes.Decoded.{decoded, seam_bytes}
use Rattle.rules.proofs.Bytes.Alike.{SameFaces, same_none, Alike, makes, splits, others}

-- what stands in the whole from p up to `next` stands in its part u, which starts at `at`, from q up to `next'`
pub record Stretch (u : List ℕ) (at p q next next' : ℕ) : Type 0 where
  pub start : p ≡ at + q
  pub stop : next ≡ at + next'
  pub inside : next' ≤ length u

-- the same without the first byte
later : {u : List ℕ} {at p q next next' : ℕ} → Stretch u at p q next next' → Stretch u at (p + 1) (q + 1) next next'
later H = record { start = omega (arith, H.start); stop = H.stop; inside = H.inside }

-- the operator o of s, read again as `form` in u, up to `next`
pub record Again (u s : List ℕ) (o : Operator) (form : OperatorForm) (next : ℕ) : Type 0 where
  pub own : Operator
  pub reads : form ≡ Ok (own, next)
  pub is : Alike u s own o

-- n entries, from a place and a least number on
abbrev entries_from : Bool → List ℕ → ℕ → ℕ × ℕ → Field
entries_from signed s n x =
    repeat {S = ℕ × ℕ} (λ x go. after_entry (entry_at signed s x.0 x.1) Err λ low next. go (next, low)) (λ x. Ok x.0) n x

-- u is the part of s from `at` on; a place is p in s and q in u
module _ (u s : List ℕ) (at : ℕ) (copied : (p q : ℕ) → p ≡ at + q → q < length u → get_or u q 0 ≡ get_or s p 0) where
  byte_again : (p q low high : ℕ) → p ≡ at + q → q < length u → Byte s p low high (get_or s p 0) → byte_at u q low high ≡ Ok (get_or s p 0)
  byte_again p q low high h k b =
      byte_got u q low high (get_or s p 0) (record { there = k; is = sym (copied p q h k); least = b.least; most = b.most })

  entry_again : (signed : Bool) (p q low : ℕ) {low' next : ℕ} → p ≡ at + q → q + width signed ≤ length u → entry_at signed s p low ≡ Ok (low', next) →
      (next ≡ p + width signed) × (entry_at signed u q low ≡ Ok (low', q + width signed))
  unfolding entry_at
  entry_again true p q low h k e =
      let a = byte_after s p low 255 _ bad_entry e in
      let b = byte_after s (p + 1) 1 2 _ bad_entry a.1 in
      let same = same_entry b.1 in
      (sym same.1, rw (byte_again p q low 255 h (omega arith) a.0, byte_again (p + 1) (q + 1) 1 2 (omega arith) (omega arith) b.0) (ap (λ l. Ok (l, q + 2)) same.0))
  entry_again false p q low h k e =
      let a = byte_after s p low 255 _ bad_entry e in
      let same = same_entry a.1 in
      (sym same.1, rw (byte_again p q low 255 h (omega arith) a.0) (ap (λ l. Ok (l, q + 1)) same.0))

  entries_again : (signed : Bool) (n p q low : ℕ) {next : ℕ} → p ≡ at + q → q + n * width signed ≤ length u →
      entries_from signed s n (p, low) ≡ Ok next → entries_from signed u n (q, low) ≡ Ok (q + n * width signed)
  unfolding repeat
  entries_again signed zero p q low h k e = ap Ok (omega arith)
  entries_again signed (suc n) p q low h k e =
      let w : suc n * width signed ≡ n * width signed + width signed = suc-mul n (width signed) in
      let a = after_entry_lem (entry_at signed s p low) bad_field e in
      let b = entry_again signed p q low h (omega arith) a.2 in
      rw b.1 (entries_again signed n a.1 (q + width signed) a.0 (omega (arith, b.0)) (omega arith) a.3 ∙ ap Ok (omega arith))

  -- a list, and the faces that it has
  module _ {p q next next' : ℕ} (H : Stretch u at p q next next') where
    list_again : (signed : Bool) → list_at signed s p ≡ Ok next → list_at signed u q ≡ Ok next'
    unfolding list_at entries_at
    list_again signed e =
        let L = list_says signed s p next e in
        let a = byte_after s p 0 96 _ bad_field e in
        let w : next' ≡ q + 1 + get_or s p 0 * width signed = omega (arith, L.next-is) in
        rw (byte_again p q 0 96 H.start (omega arith) a.0, w)
        (entries_again signed (get_or s p 0) (p + 1) (q + 1) 0 (omega arith) (omega arith) a.1)

    made_again : (d : ℕ) → list_at true s p ≡ Ok next → SameFaces (made_of u (suc (suc d)) q) (made_of s (suc (suc d)) p)
    unfolding made_of
    made_again d e =
        let L = list_says true s p next e in
        let c : get_or u q 0 ≡ get_or s p 0 = copied p q H.start (omega (arith, L.next-is)) in
        record {
          count = c;
          numbers = λ l h. copied (p + 1 + 2 * l) (q + 1 + 2 * l) (omega arith) (omega (arith, L.next-is));
          signs = λ l h. ap sign_of (copied (p + 2 + 2 * l) (q + 2 + 2 * l) (omega arith) (omega (arith, L.next-is)));
        }

    chosen_again : (d : ℕ) → list_at false s p ≡ Ok next → SameFaces (chosen_of u d q) (chosen_of s d p)
    unfolding chosen_of
    chosen_again zero e = same_none
    chosen_again (suc zero) e = same_none
    chosen_again (suc (suc d)) e =
        let L = list_says false s p next e in
        let c : get_or u q 0 ≡ get_or s p 0 = copied p q H.start (omega (arith, L.next-is)) in
        record { count = c; numbers = λ l h. copied (p + 1 + l) (q + 1 + l) (omega arith) (omega (arith, L.next-is)); signs = λ l h. refl }

  -- an operator whose operands start at p
  module _ {o : Operator} {p q next next' : ℕ} (H : Stretch u at p q next next') where
    -- s has `was` up to `end`, and u has `own` up to `end'`
    again : {form : OperatorForm} {own was : Operator} (end end' : ℕ) → ◌≡◌ {A = OperatorForm} (Ok (was, end)) (Ok (o, next)) → end ≡ at + end' →
        form ≡ Ok (own, end') → Alike u s own was → Again u s o form next'
    again {own = own} {was = was} end end' e n r i =
        let same = same_operator e in
        let place' : next' ≡ end' = omega (arith, same.1) in
        rw (← same.0, place') (record { own = own; reads = r; is = i })

    -- an operator that ends with a list
    list_last : (signed : Bool) (p : ℕ) (was : Operator) → after {A = OperatorForm} (list_at signed s p) Err (λ end. Ok (was, end)) ≡ Ok (o, next) →
        (◌≡◌ {A = OperatorForm} (Ok (was, next)) (Ok (o, next))) × (list_at signed s p ≡ Ok next)
    list_last signed p was e =
        let a = after_got (list_at signed s p) bad_operator e in
        let n = (same_operator a.2).1 in
        (rw n at a.2, rw (← n) a.1)

    make_again : (d : ℕ) → make_at s d p ≡ Ok (o, next) → Again u s o (make_at u d q) next'
    unfolding make_at made_of
    make_again zero e = again p q e H.start refl (makes same_none)
    make_again (suc zero) e =
        let n = (seam_bytes s p e).1 in
        let a = byte_after s p 0 255 _ bad_operator e in
        let b = byte_after s (p + 1) 0 255 _ bad_operator a.1 in
        let r : make_at u 1 q ≡ Ok (Make 1 q, q + 2) =
        rw (byte_again p q 0 255 H.start (omega (arith, n)) a.0, byte_again (p + 1) (q + 1) 0 255 (omega arith) (omega (arith, n)) b.0) in
        let f : SameFaces (made_of u 1 q) (made_of s 1 p) =
        record { count = refl; numbers = λ l h. copied (p + l) (q + l) (omega arith) (omega (arith, n)); signs = λ l h. refl } in
        again (p + 2) (q + 2) b.1 (omega arith) r (makes f)
    make_again (suc (suc d)) e =
        let not_0 : eqb (suc (suc d)) 0 ≡ false = ne_eqb (suc (suc d)) 0 (omega arith) in
        let not-1 : eqb (suc (suc d)) 1 ≡ false = ne_eqb (suc (suc d)) 1 (omega arith) in
        let a = list_last true p (Make (suc (suc d)) p) (rw (not_0, not-1) at e) in
        again next next' a.0 H.stop (rw (not_0, not-1, list_again H true a.1)) (makes (made_again H d a.1))

    split_again : (d : ℕ) → split_at s d p ≡ Ok (o, next) → Again u s o (split_at u d q) next'
    unfolding split_at chosen_of
    split_again d e =
        let a = byte_after s p 0 255 _ bad_operator e in
        bool_or (eqb d 1)
        (λ t.
        let n : p + 1 ≡ next = (same_operator (rw t at a.1)).1 in
        let b = byte_again p q 0 255 H.start (omega arith) a.0 in
        let f : SameFaces (chosen_of u d (q + 1)) (chosen_of s d (p + 1)) = rw (eqb-true d 1 t) same_none in
        again (p + 1) (q + 1) (rw t at a.1) (omega arith) (rw (b, t)) (splits f))
        (λ t.
        let l = list_last false (p + 1) (Split d (get_or s p 0) (p + 1)) (rw t at a.1) in
        let b = byte_again p q 0 255 H.start (omega (arith, (list_says false s (p + 1) next l.1).next-is)) a.0 in
        again next next' l.0 H.stop (rw (b, t, list_again (later H) false l.1)) (splits (chosen_again (later H) d l.1)))

    cell_again : (f : ℕ → Operator) → ((c : ℕ) → faces_of u (f c) ≡ faces_of s (f c)) → cell_at s f p ≡ Ok (o, next) → Again u s o (cell_at u f q) next'
    unfolding cell_at
    cell_again f same e =
        let a = byte_after s p 0 255 _ bad_operator e in
        let n : p + 1 ≡ next = (same_operator a.1).1 in
        let b = byte_again p q 0 255 H.start (omega arith) a.0 in
        again (p + 1) (q + 1) a.1 (omega arith) (rw b) (others (f (get_or s p 0)) (same (get_or s p 0)))

  operands_again : {o : Operator} (p q : ℕ) {next next' : ℕ} → Stretch u at (p + 1) (q + 1) next next' → (c : Option Code) →
      operands_at s p c ≡ Ok (o, next) → Again u s o (operands_at u q c) next'
  operands_again p q H (Some (Code.Make d)) e = make_again H d e
  operands_again p q H (Some (Code.Kill d)) e = cell_again H (Kill d) (λ c. refl) e
  operands_again p q H (Some (Code.Split d)) e = split_again H d e
  operands_again p q H (Some (Code.Merge d)) e = cell_again H (Merge d) (λ c. refl) e
  operands_again p q H (Some (Code.Flip d)) e = cell_again H (Flip d) (λ c. refl) e
  operands_again p q H None e = absurd (bad_operator (Fault.Wrong p) e)

  pub operator_again : {o : Operator} {p q next next' : ℕ} → Stretch u at p q next next' → operator_at s p ≡ Ok (o, next) →
      Again u s o (operator_at u q) next'
  unfolding operator_at
  operator_again {p = p} {q = q} H e =
      let a = byte_after s p 0 255 _ bad_operator e in
      rw (byte_again p q 0 255 H.start (omega (arith, (decoded s p e).1)) a.0) (operands_again p q (later H) (code_of (get_or s p 0)) a.1)
