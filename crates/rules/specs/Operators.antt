-- "Operators": when each is refused, in the order 5, 6, then 7 to 11, 20 and 12, and what it then does.
use Rattle.std.specs.Prelude.{Bool, true, not, cond, ◌&&◌, ◌||◌, List, [], ◌∷◌, ℕ, zero, suc, pred, eqb, ltb, get_or, ℤ, pos, negsuc, ◌+ℤ◌, ◌*ℤ◌}
use Rattle.maths.specs.Tests.{eq_z, is_zero, is_unit, all, last}
use Rattle.maths.specs.Sums.{sum, δ}
use Rattle.rules.specs.declared.operator.Operator.{Operator}
use Rattle.rules.specs.declared.operator.Operator.TheVariants.{Make, Kill, Split, Merge, Flip}
use Rattle.rules.specs.Refusals.{no_such_cell, no_room, not_closed, in_use, wrong_part, wrong_divider, not_between, shared_face, wrong_sum}
use Rattle.rules.specs.Complex.{Complex, Chain}
use Rattle.rules.specs.Good.{one_each, all_zero, closes}
use Rattle.rules.specs.Edits.{Step, layers, boundary, make, kill, part, split, merge, flip}

-- "An accepted operator adds the amount from this table to the Euler number." Rows: make, kill, split, merge, flip; 0 where the table has none.
abbrev pub amounts : List (List ℤ)
amounts =
    (pos 1 ∷ negsuc 0 ∷ pos 1 ∷ negsuc 0 ∷ [])
    ∷ (negsuc 0 ∷ pos 1 ∷ negsuc 0 ∷ pos 1 ∷ [])
    ∷ (pos 0 ∷ pos 0 ∷ pos 0 ∷ pos 0 ∷ [])
    ∷ (pos 0 ∷ pos 0 ∷ pos 0 ∷ pos 0 ∷ [])
    ∷ (pos 0 ∷ pos 0 ∷ pos 0 ∷ pos 0 ∷ [])
    ∷ []

abbrev pub amount_at : ℕ → ℕ → ℤ
amount_at kind k = get_or (get_or amounts kind []) k (pos 0)

abbrev pub dimension_of : Operator → ℕ
dimension_of (Make k list) = k
dimension_of (Kill k c) = k
dimension_of (Split k s list) = k
dimension_of (Merge k t) = k
dimension_of (Flip k c) = k

abbrev pub amount_of : Operator → ℤ
amount_of (Make k list) = amount_at 0 k
amount_of (Kill k c) = amount_at 1 k
amount_of (Split k s list) = amount_at 2 k
amount_of (Merge k t) = amount_at 3 k
amount_of (Flip k c) = amount_at 4 k

-- the faces that an operator lists: how many, and number and sign of each
pub record Faces : Type 0 where
  pub n : ℕ
  pub number : ℕ → ℕ
  pub sign : ℕ → ℤ

-- their chain: head minus tail for a seam, "signed faces" for a panel or block
unfoldable pub chain_of : Faces → Chain
chain_of F i = sum F.n (λ l. F.sign l *ℤ δ (F.number l) i)

unfoldable pub listed : Faces → ℕ → Bool
listed F i = not (all F.n (λ l. not (eqb i (F.number l))))

-- "a number is not below its count"
unfoldable pub all_below : ℕ → Faces → Bool
all_below n F = all F.n (λ l. ltb (F.number l) n)

-- What an operator does: it is refused by a number; or layers and chains change; or cells go, and chains are not carried.
pub data Outcome : Type 0 where
  refused : ℕ → Outcome
  edited : (ℕ → Step) → Outcome
  removed : Complex → Outcome

-- the outcome, or the refusal where the test fails
abbrev pub unless : Bool → ℕ → Outcome → Outcome
unless test r o = cond test o (refused r)

-- Make: "not empty, with boundary zero (refusal 7 otherwise)"; 7 also for tail equal to head, whose chain is empty. A corner has no faces.
unfoldable pub closed : ℕ → Chain → Complex → Bool
closed k v X = eqb k 0 || (not (all_zero v) && closes (X (pred (pred k))).n (X (pred k)) v)

unfoldable pub make_step : ℕ → Faces → Complex → Outcome
make_step k F X =
    unless (all_below (X (pred k)).n F) no_such_cell
    (unless (ltb (X k).n 96) no_room
    (unless (closed k (chain_of F) X) not_closed (edited (make k (chain_of F) X))))

-- Kill: "a cell whose row in matrix k+1 is zero (else 8; a block is never in use)"
unfoldable pub kill_step : ℕ → ℕ → Complex → Outcome
kill_step k c X =
    unless (ltb c (X k).n) no_such_cell
    (unless (all_zero (λ j. (X (suc k)).d c j)) in_use (removed (kill k c X)))

-- Split: "For a seam, the chosen part is its head. For a panel or block the script lists faces of s"
unfoldable pub chosen : ℕ → Faces → Chain → ℕ → Bool
chosen k F v i = cond (eqb k 1) (eq_z (v i) (pos 1)) (listed F i)

-- "at least one, not all, each with a non-zero entry in s (else 9)"
unfoldable pub is_part : (ℕ → Bool) → Chain → Bool
is_part p v = not (all 96 (λ i. not (p i))) && not (all 96 (λ i. p i || is_zero (v i))) && all 96 (λ i. not (p i) || not (is_zero (v i)))

-- "entries within -1 to 1, not all 0"
unfoldable pub proper : Chain → Bool
proper v = all 96 (λ i. is_unit (v i)) && not (all_zero v)

-- "A new seam must have one -1 and one +1; a new panel must have entries within -1 to 1, not all 0 (else 10)." A seam's other entries are 0; a new
-- corner has no boundary.
unfoldable pub divides : ℕ → Chain → Bool
divides zero v = true
divides (suc zero) v = proper v && one_each v
divides (suc (suc m)) v = proper v

unfoldable pub split_step : ℕ → ℕ → Faces → Complex → Outcome
split_step k s F X =
    let m = pred k in
    let v : Chain = λ i. (X k).d i s in
    let p = chosen k F v in
    unless (ltb s (X k).n && all_below (X m).n F) no_such_cell
    (unless (ltb (X m).n 96 && ltb (X k).n 96) no_room
    (unless (is_part p v) wrong_part
    (unless (divides m (boundary (X m) (part p v))) wrong_divider (edited (split m s p X)))))

-- the last two places where v is not 0
abbrev pub higher : Chain → ℕ
higher v = last 96 (λ j. not (is_zero (v j)))

abbrev pub lower : Chain → ℕ
lower v = last (higher v) (λ j. not (is_zero (v j)))

-- v and w share no face besides t: no other row has both not 0, whatever the signs
unfoldable pub share_only : ℕ → Chain → Chain → Bool
share_only t v w = all 96 (λ i. eqb i t || is_zero (v i) || is_zero (w i))

-- Merge: "exactly two non-zero entries in its row of matrix k+1, of opposite sign (else 11)"; "where the two cells share any face besides the named one"
-- 20; "A sum that leaves -1 to 1, or is all 0, is refused (12)."
unfoldable pub merge_step : ℕ → ℕ → Complex → Outcome
merge_step k t X =
    let D = (X (suc k)).d in
    let a = lower (D t) in
    let b = higher (D t) in
    unless (ltb t (X k).n) no_such_cell
    (unless (one_each (λ j. D t j)) not_between
    (unless (share_only t (λ i. D i a) (λ i. D i b)) shared_face
    (unless (proper (λ i. D i a +ℤ D i b)) wrong_sum (removed (merge k t a b X)))))

unfoldable pub flip_step : ℕ → ℕ → Complex → Outcome
flip_step k c X = unless (ltb c (X k).n) no_such_cell (edited (flip k c X))

unfoldable pub step : Operator → Faces → Complex → Outcome
step (Make k list) F X = make_step k F X
step (Kill k c) F X = kill_step k c X
step (Split k s list) F X = split_step k s F X
step (Merge k t) F X = merge_step k t X
step (Flip k c) F X = flip_step k c X

-- what follows an operator: `bad` of the refusal, or `go` of the new pattern
abbrev pub after_step : {A : Type 0} → Outcome → (ℕ → A) → (Complex → A) → A
after_step (refused r) bad go = bad r
after_step (edited S) bad go = go (layers S)
after_step (removed X) bad go = go X
