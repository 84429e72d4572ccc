-- Where a panel goes from each corner, as a list of 97 bytes: one seam more, and what is read of it.
use mathlib.Core.Path.{◌≡◌, refl, sym, ap, ◌∙◌}
use mathlib.Core.Bool.{not, cond, ◌&&◌}
use mathlib.Core.List.{List}
use Prim.Native.Nat.{ℕ, ◌+◌, ◌<◌}
use native.Mathlib.Numerals.{add-one}
use native.Mathlib.Omega.{arith}
use borrow.Author.Tests.{eq-eqb, ne_eqb}
use lib.Dec.{eqb}
use lib.IntN.{ℤ, pos}
use lib.ListN.{length, set, length-set}
use lib.Seq.{get_or-set_same, get_or-set_other}
use Rattle.maths.specs.Tests.{eq_z, is_zero}
use Rattle.maths.specs.Tables.{table}
use Rattle.maths.proofs.Cases.{by_bool, eq_or}
use Rattle.maths.proofs.Tables.{length-table, get_d_table, is-table}
use Rattle.rules.specs.Complex.{Chain}
use Rattle.off.specs.Sewing.{SeamEnds}
use Rattle.off.specs.Exporting.{leaves_by, next_among}

-- a value is stored in a table
set-table : (n : ℕ) (f : ℕ → ℕ) (a v : ℕ) → a < n → set (table n f) a v ≡ table n (λ b. cond (eqb a b) v (f b))
set-table n f a v h =
    let long = length-table 0 n f in
    is-table 0 (length-set (table n f) a v ∙ long) λ b below.
    eq_or b a
    (λ e. rw (e, eq-eqb a a refl) (get_or-set_same (table n f) a v 0 (omega arith)))
    (λ e. rw (ne_eqb a b (λ q. e (sym q))) (get_or-set_other (table n f) a b v 0 e ∙ get_d_table n b f 0 below))

-- the list after one seam more
seam_more : (E : SeamEnds) (v : Chain) (i : ℕ) → E.tail i < 96 → E.head i < 96 → {next : List ℕ} → next ≡ table 97 (next_among E v i) →
    cond (is_zero (v i)) next (cond (eq_z (v i) (pos 1)) (set next (E.tail i) (E.head i)) (set next (E.head i) (E.tail i)))
    ≡ table 97 (next_among E v (i + 1))
unfolding next_among leaves_by
seam_more E v i low-tail low-head {next} e =
    let f = next_among E v i in
    let a = E.tail i in
    let b = E.head i in
    rw (e, add-one)
    (by_bool (is_zero (v i))
    (λ t. cond t (table 97 f) (cond (eq_z (v i) (pos 1)) (set (table 97 f) a b) (set (table 97 f) b a))
    ≡ table 97 (λ c. cond (not t && eqb (cond (eq_z (v i) (pos 1)) a b) c) (cond (eq_z (v i) (pos 1)) b a) (f c)))
    (λ _. refl) λ _.
    by_bool (eq_z (v i) (pos 1))
    (λ t. cond t (set (table 97 f) a b) (set (table 97 f) b a) ≡ table 97 (λ c. cond (eqb (cond t a b) c) (cond t b a) (f c)))
    (λ _. set-table 97 f a b (omega arith))
    (λ _. set-table 97 f b a (omega arith)))

-- the entry z was read, and `after` was made of it
pub seam_put : (E : SeamEnds) (v : Chain) (i : ℕ) → E.tail i < 96 → E.head i < 96 → {next after : List ℕ} {z : ℤ} →
    next ≡ table 97 (next_among E v i) → z ≡ v i →
    after ≡ cond (is_zero z) next (cond (eq_z z (pos 1)) (set next (E.tail i) (E.head i)) (set next (E.head i) (E.tail i))) →
    after ≡ table 97 (next_among E v (i + 1))
seam_put E v i low-tail low-head e read put = put ∙ rw read (seam_more E v i low-tail low-head e)

pub table-long : {next : List ℕ} (f : ℕ → ℕ) → next ≡ table 97 f → length next ≡ 97
table-long f e = ap length e ∙ length-table 0 97 f
