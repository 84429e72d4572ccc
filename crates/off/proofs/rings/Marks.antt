-- The corners of a ring, one after the other: marks for those that were met.
use mathlib.Core.Path.{◌≡◌, refl, sym, ◌∙◌}
use mathlib.Core.Bool.{Bool, true, false, not, ◌&&◌, and-false, and-true}
use mathlib.Core.List.{List}
use Prim.Native.Nat.{ℕ, ◌+◌, ◌<◌}
use native.Mathlib.Numerals.{add-one}
use native.Mathlib.Omega.{arith}
use lib.Dec.{eqb}
use lib.ListN.{length, get_or, set, length-set}
use lib.Seq.{get_or-set_same, get_or-set_other}
use borrow.Author.Tests.{ne_eqb, not-true, not-false}
use Rattle.maths.specs.Tests.{all}
use Rattle.maths.proofs.Cases.{eq_or, eqb_same}
use Rattle.maths.proofs.Tests.{all-not, all_more}
use Rattle.off.specs.Plain.{Ring}
use Rattle.off.specs.Rings.{corner_at, distinct}

-- c is none of the first l corners
unfoldable pub is_new : Ring → ℕ → ℕ → Bool
is_new r l c = all l (λ k. not (eqb (corner_at r k) c))

-- the first l corners are distinct, and marked, and no other number is
pub record Marked (r : Ring) (seen : List Bool) (l : ℕ) : Type 0 where
  pub size : length seen ≡ 96
  pub apart : all l (λ l. is_new r l (corner_at r l)) ≡ true
  pub marks : (c : ℕ) → c < 96 → get_or seen c false ≡ not (is_new r l c)

pub marked_none : (r : Ring) (seen : List Bool) → length seen ≡ 96 → ((c : ℕ) → c < 96 → get_or seen c false ≡ false) → Marked r seen 0
unfolding is_new all
marked_none r seen e h = record { size = e; apart = refl; marks = h }

module _ {r : Ring} {seen : List Bool} {l : ℕ} (p : Marked r seen l) (low : corner_at r l < 96) where
  pub marked_again : l < length r → get_or seen (corner_at r l) false ≡ true → false ≡ distinct r
  unfolding distinct is_new
  marked_again h e = sym (all-not (length r) (λ l. is_new r l (corner_at r l)) l h (not-true _ (sym (p.marks (corner_at r l) low) ∙ e)))

  new_more : (c : ℕ) → is_new r (l + 1) c ≡ is_new r l c && not (eqb (corner_at r l) c)
  unfolding is_new all
  new_more c = rw (add-one l)

  pub marked_more : get_or seen (corner_at r l) false ≡ false → Marked r (set seen (corner_at r l) true) (l + 1)
  marked_more e =
      let b = corner_at r l in
      record {
        size = length-set seen b true ∙ p.size;
        apart = all_more l (λ l. is_new r l (corner_at r l)) p.apart (not-false _ (sym (p.marks b low) ∙ e));
        marks = λ c k. eq_or c b
            (λ q. rw (q, get_or-set_same seen b true false (omega (arith, p.size)), new_more b, eqb_same b, and-false))
            (λ q. rw (get_or-set_other seen b c true false q, new_more c, ne_eqb b c (λ r. q (sym r)), and-true) (p.marks c k));
      }

pub marked_all : {r : Ring} {seen : List Bool} {l : ℕ} → Marked r seen l → l ≡ length r → true ≡ distinct r
unfolding distinct is_new
marked_all p e = sym (rw e at p.apart)
