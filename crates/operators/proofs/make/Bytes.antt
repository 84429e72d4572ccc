-- What the bytes of a cell to be made say: how many faces it lists, where they stand, and that a sign is a unit.
use Rattle.std.specs.Prelude.{Ok, Some}
use mathlib.Core.Path.{◌≡◌, refl, ap, ◌∙◌}
use mathlib.Core.Bool.{true, cond}
use mathlib.Core.List.{List}
use Prim.Native.Nat.{ℕ, zero, suc, ◌+◌, ◌*◌, ◌/◌, ◌<◌, ◌≤◌}
use native.Mathlib.Omega.{arith}
use borrow.Author.Tests.{ne_eqb}
use lib.Dec.{eqb}
use lib.IntN.{pos, negsuc, nat_abs}
use lib.ListN.{length, get_or, replicate}
use Rattle.maths.proofs.Cases.{by_bool}
use Rattle.rules.specs.declared.operator.Operator.{Operator}
use Rattle.rules.specs.Form.{byte_at, list_at, make_at, made_of, sign_of, none}
use Rattle.rules.proofs.Bytes.Fields.{byte_says, bad_operator, after_got}
use Rattle.rules.proofs.Bytes.Decoded.{Formed, made}
use Rattle.rules.proofs.Bytes.Listed.{Listed, list_says}
use Rattle.std.specs.List.{between}
use Rattle.std.proofs.lemmas.List.Edits.{get_or-between, length-between}
use Rattle.grid.proofs.Summing.{blank}
use Rattle.operators.specs.Column.{MakeForm, ends, pairs_of, drawn}
use Rattle.operators.proofs.make.Columns.{summed_none, drawn_all, drawn_same}

-- head is there, after tail
seam_inside : (s : List ℕ) (list : ℕ) {o : Operator} {next : ℕ} → make_at s 1 list ≡ Ok (o, next) → list + 1 < length s
unfolding make_at
seam_inside s list e =
    let a = after_got (byte_at s list 0 255) bad_operator e in
    let b = after_got (byte_at s (list + 1) 0 255) bad_operator a.2 in
    (byte_says s (list + 1) 0 255 b.0 b.1).there

-- a list with signs is there
list_inside : (s : List ℕ) (k list : ℕ) {o : Operator} {next : ℕ} → 2 ≤ k → make_at s k list ≡ Ok (o, next)
    → (end : ℕ) × Listed true s list end
unfolding make_at
list_inside s k list h e =
    let a = after_got (list_at true s list) bad_operator (rw (ne_eqb k 0 (omega arith), ne_eqb k 1 (omega arith)) at e) in
    (a.0, list_says true s list a.0 a.1)

module _ {s : List ℕ} {dim list : ℕ} (M : MakeForm s dim list) where
  pub make-formed : Formed s (Operator.Make dim list)
  make-formed = (made s list dim M.most M.form).1

  pub seam_there : dim ≡ 1 → list + 1 < length s
  seam_there e = seam_inside s list (rw e at M.form)

  -- the pairs are there
  pub pairs-there : 2 ≤ dim → list + 1 + 2 * get_or s list 0 ≤ length s
  pairs-there h = let L = (list_inside s dim list h M.form).1 in omega (arith, L.inside, L.next-is)

  pub count-there : 2 ≤ dim → list < length s
  count-there h = (list_inside s dim list h M.form).1.there

  pub count-few : 2 ≤ dim → get_or s list 0 ≤ 96
  count-few h = (list_inside s dim list h M.form).1.few

-- the column of the faces, by the dimension
module _ (s : List ℕ) (list n : ℕ) where
  pub corner_drawn : (k : ℕ) → k ≡ 0 → Some (replicate 96 (pos 0)) ≡ drawn n (made_of s k list)
  unfolding made_of
  corner_drawn k e = rw e (drawn_all none n (summed_none none n blank) (omega arith))

  pub seam_drawn : (k : ℕ) → k ≡ 1 → drawn n (ends (get_or s list 0) (get_or s (list + 1) 0)) ≡ drawn n (made_of s k list)
  unfolding made_of
  seam_drawn k e = rw e (drawn_same n _ _ refl end)
    where
      end : (l : ℕ) → l < 2
          → (cond (eqb l 0) (get_or s list 0) (get_or s (list + 1) 0) ≡ get_or s (list + l) 0) × (cond (eqb l 0) (negsuc 0) (pos 1) ≡ cond (eqb l 0) (negsuc 0) (pos 1))
      end zero h = let e : list ≡ list + 0 = omega arith in (ap (λ p. get_or s p 0) e, refl)
      end (suc zero) h = (refl, refl)
      end (suc (suc l)) h = absurd (omega arith)

  pub pairs_drawn : (k : ℕ) → 2 ≤ k → list + 1 + 2 * get_or s list 0 ≤ length s
      → drawn n (pairs_of (between (list + 1) (list + 1 + 2 * get_or s list 0) s)) ≡ drawn n (made_of s k list)
  unfolding made_of
  pairs_drawn zero h there = absurd (omega arith)
  pairs_drawn (suc zero) h there = absurd (omega arith)
  pairs_drawn (suc (suc k)) h there =
      let c = get_or s list 0 in
      let pairs = between (list + 1) (list + 1 + 2 * c) s in
      let long : length pairs ≡ 2 * c = length-between s (list + 1) (list + 1 + 2 * c) there ∙ omega arith in
      let half : length pairs / 2 ≡ c = omega arith in
      drawn_same n _ _ half (λ l h.
      let place : list + 1 + (2 * l + 1) ≡ list + 2 + 2 * l = omega arith in (
        get_or-between s (list + 1) (list + 1 + 2 * c) (2 * l) 0 (omega arith),
        ap sign_of (get_or-between s (list + 1) (list + 1 + 2 * c) (2 * l + 1) 0 (omega arith) ∙ ap (λ p. get_or s p 0) place),
      ))

-- a sign is a unit
pub sign-unit : (b : ℕ) → nat_abs (sign_of b) ≤ 1
sign-unit b = by_bool (eqb b 1) (λ t. nat_abs (cond t (pos 1) (negsuc 0)) ≤ 1) (λ _. omega arith) (λ _. omega arith)
