-- The sides of a ring as the code goes along them: from each corner to the one after it, and from the last to the first.
use Rattle.std.proofs.Common.{◌≡◌, ℕ, suc, ◌+◌, ◌-◌, ◌<◌, ◌≤◌, List, length, get_or, take, drop, sym, ap, ◌∙◌, arith}
use Rattle.std.proofs.lemmas.List.{get_or-drop, get_or-take, length-drop}
use Rattle.off.specs.Plain.{Ring}
use Rattle.off.specs.Rings.{corner_at, next_at}
use Rattle.off.proofs.sewing.RingSides.{next_or}

pub from_first : (r : Ring) {first : List ℕ} → first ≡ take 1 r → get_or first 0 0 ≡ corner_at r 0
from_first r e = rw e (get_or-take 1 r 0 0 (omega arith))

-- the first corner of a ring, and the others
pub record Split (r : Ring) (first others : List ℕ) : Type 0 where
  pub some : 1 ≤ length r
  pub front : first ≡ take 1 r
  pub back : others ≡ drop 1 r

module _ {r : Ring} {first others : List ℕ} (S : Split r first others) where
  others-length : length others ≡ length r - 1
  others-length = ap length S.back ∙ length-drop 1 r

  -- a side to one of the others
  module _ {l : ℕ} (h : l < length others) where
    pub inside : suc l < length r
    inside = omega (arith, others-length)

    pub to_other : get_or others l 0 ≡ corner_at r (l + 1)
    to_other = let next : 1 + l ≡ l + 1 = omega arith in rw S.back (get_or-drop 1 r l 0 ∙ ap (corner_at r) next)

    pub to_next : get_or others l 0 ≡ next_at r l
    to_next = let next : l + 1 ≡ suc l = omega arith in
        next_or r l (λ e _. absurd (omega (arith, inside))) (λ _ e. to_other ∙ ap (corner_at r) next ∙ sym e)

  -- the last side
  module _ {l : ℕ} (e : l ≡ length others) where
    pub closing : suc l ≡ length r
    closing = let some = S.some in omega (arith, others-length)

    pub to_first : get_or first 0 0 ≡ next_at r l
    to_first = next_or r l (λ _ q. from_first r S.front ∙ sym q) (λ n _. absurd (n closing))
