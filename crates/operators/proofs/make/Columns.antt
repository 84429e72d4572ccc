-- Faces are added up in a column, one a turn: after l turns it is the sum of the first l.
use Rattle.std.specs.Prelude.{Some, None}
use mathlib.Core.Path.{◌≡◌, sym, ap, ap₂, ◌∙◌, fun_ext}
use mathlib.Core.Bool.{true, false, cond}
use mathlib.Core.List.{List, ◌++◌}
use Prim.Native.Nat.{ℕ, ◌+◌, ◌*◌, ◌/◌, ◌<◌, ◌≤◌}
use native.Mathlib.Omega.{arith}
use borrow.Author.Tests.{lt-ltb, le-ltb}
use lib.Dec.{ltb}
use lib.IntN.{ℤ, pos, nat_abs, ◌+ℤ◌, ◌*ℤ◌, +ℤ_idr, *ℤ-zero}
use lib.ListN.{length, get_or, set, drop, length-set, length-drop, length-append, get_or-eq_default}
use lib.Seq.{get_or-set_same, get_or-set_other}
use Rattle.std.proofs.lemmas.List.{get_or_append_left, get_or-drop, drop_at, drop-drop}
use Rattle.maths.specs.Tests.{all}
use Rattle.maths.specs.Sums.{sum, δ}
use Rattle.maths.proofs.Cases.{eq_or, bool_or, lt_or}
use Rattle.maths.proofs.Integers.{*ℤ_1}
use Rattle.maths.specs.Tables.{table}
use Rattle.maths.proofs.Tables.{is-table, length-table}
use Rattle.maths.proofs.Tests.{all_none, all_more, all_same, all-not}
use Rattle.maths.proofs.Sums.{sum-zero, sum-next, sum_same, δ_same, δ_no}
use Rattle.maths.proofs.Sizes.{mul_bound, sum-size}
use Rattle.grid.specs.Grid.{Blank}
use Rattle.rules.specs.Complex.{Chain}
use Rattle.rules.specs.Operators.{Faces, chain_of, all_below}
use Rattle.rules.specs.Calls.{coefficients}
use Rattle.rules.proofs.Bytes.Faces.{faces-within}
use Rattle.operators.specs.Column.{drawn}
use Rattle.operators.proofs.chosen.Lists.{holds}

-- the sum of the first l faces
abbrev chain_to : Faces → ℕ → Chain
chain_to F l i = sum l (λ l. F.sign l *ℤ δ (F.number l) i)

-- the column after l faces, which are all below n
pub record Summed (F : Faces) (n l : ℕ) (column : List ℤ) : Type 0 where
  pub size : length column ≡ 96
  pub upto : l ≤ F.n
  pub below : all l (λ l. ltb (F.number l) n) ≡ true
  pub sums : (i : ℕ) → get_or column i (pos 0) ≡ chain_to F l i

δ-size : (t i : ℕ) → nat_abs (δ t i) ≤ 1
δ-size t i = eq_or i t (λ e. rw (e, δ_same) (omega arith)) (λ e. rw (δ_no t i e) (omega arith))

module _ (F : Faces) (n : ℕ) where
  pub summed_none : {column : List ℤ} → Blank column → Summed F n 0 column
  summed_none b = record {
    size = b.size;
    upto = omega arith;
    below = all_none (λ l. ltb (F.number l) n);
    sums = λ i. b.zero i ∙ sym (sum-zero (λ l. F.sign l *ℤ δ (F.number l) i));
  }

  module _ {l : ℕ} {column : List ℤ} (S : Summed F n l column) where
    -- a turn that adds face l
    pub summed_more : {column' : List ℤ} {i : ℕ} {z : ℤ} → l < F.n → n ≤ 96 → i < n → i ≡ F.number l → z ≡ F.sign l
        → column' ≡ set column i (get_or column i (pos 0) +ℤ z) → Summed F n (l + 1) column'
    summed_more h few low p q e = rw (e, p, q) (record {
      size = length-set column f _ ∙ S.size;
      upto = omega arith;
      below = all_more l (λ l. ltb (F.number l) n) S.below (lt-ltb f n (rw p at low));
      sums = λ i. at i ∙ sym (sum-next l (λ l. F.sign l *ℤ δ (F.number l) i));
    })
      where
        f : ℕ
        f = F.number l

        at : (i : ℕ) → get_or (set column f (get_or column f (pos 0) +ℤ F.sign l)) i (pos 0) ≡ chain_to F l i +ℤ F.sign l *ℤ δ f i
        at i = eq_or i f
            (λ e. rw (e, δ_same, *ℤ_1, ← S.sums f) (get_or-set_same column f _ (pos 0) (omega (arith, S.size, rw p at low))))
            (λ e. rw (δ_no f i e, *ℤ-zero, +ℤ_idr) (get_or-set_other column f i _ (pos 0) e ∙ S.sums i))

    -- units that are added up at most 96 times
    pub summed_small : F.n ≤ 96 → ((l : ℕ) → nat_abs (F.sign l) ≤ 1) → (i : ℕ) → nat_abs (get_or column i (pos 0)) ≤ 96
    summed_small few unit i =
        let term : ℕ → ℤ = λ l. F.sign l *ℤ δ (F.number l) i in
        let b : nat_abs (sum l term) ≤ l * 1 = sum-size l 1 term (λ l _. mul_bound (F.sign l) (δ (F.number l) i) (unit l) (δ-size (F.number l) i)) in
        rw (S.sums i) (omega (arith, S.upto))

    pub drawn_all : F.n ≤ l → Some column ≡ drawn n F
    unfolding chain_of all_below drawn
    drawn_all h =
        let e : l ≡ F.n = omega (arith, S.upto) in
        rw (rw e at S.below) (ap Some (is-table (pos 0) S.size (λ i _. S.sums i ∙ ap (λ l. chain_to F l i) e)))

  -- a face that is no cell
  pub drawn_none : {l : ℕ} → l < F.n → n ≤ F.number l → None ≡ drawn n F
  unfolding all_below drawn
  drawn_none {l} h high = rw (all-not F.n (λ l. ltb (F.number l) n) l h (le-ltb (F.number l) n high))

-- faces that are the same as far as they are listed
pub drawn_same : (n : ℕ) (F G : Faces) → F.n ≡ G.n
    → ((l : ℕ) → l < G.n → (F.number l ≡ G.number l) × (F.sign l ≡ G.sign l)) → drawn n F ≡ drawn n G
unfolding drawn all_below chain_of
drawn_same n F G e same = rw e
    (ap₂ (λ a (w : Chain). cond a (Some (table 96 w)) None)
    (all_same G.n (λ l h. ap (λ i. ltb i n) (same l h).0))
    (fun_ext (λ i. sum_same G.n (λ l h. ap₂ (λ z k. z *ℤ δ k i) (same l h).1 (same l h).0))))

-- pair k of the bytes, and the bytes after it
pub record Turn (pairs left pair : List ℕ) (k : ℕ) : Type 0 where
  pub number : get_or pair 0 0 ≡ get_or pairs (2 * k) 0
  pub sign : get_or pair 1 0 ≡ get_or pairs (2 * k + 1) 0
  pub less : k < length pairs / 2
  pub rest : left ≡ drop (2 * (k + 1)) pairs

-- a pair that is taken from what is left after k pairs
pub pair_turn : {pairs left pair : List ℕ} {k : ℕ} → drop (2 * k) pairs ≡ pair ++ left → length pair ≡ 2 → Turn pairs left pair k
pair_turn {pairs} {left} {pair} {k} e two =
    let read : (i : ℕ) → i < 2 → get_or pair i 0 ≡ get_or pairs (2 * k + i) 0 = λ i h.
    sym (get_or_append_left pair left 0 i (omega arith)) ∙ rw (← e) (get_or-drop (2 * k) pairs i 0) in
    let here : 2 * k + 0 ≡ 2 * k = omega arith in
    let next : 2 * k + 2 ≡ 2 * (k + 1) = omega arith in
    record {
      number = read 0 (omega arith) ∙ ap (λ i. get_or pairs i 0) here;
      sign = read 1 (omega arith);
      less = omega (arith, simp (length-drop, length-append) at (ap length e));
      rest = sym (drop_at pair left 2 two) ∙ rw (← e) (drop-drop 2 (2 * k) pairs) ∙ ap (λ i. drop i pairs) next;
    }

-- the column that was drawn
pub record Drawn (n : ℕ) (F : Faces) (column : List ℤ) : Type 0 where
  pub below : all_below n F ≡ true
  pub size : length column ≡ 96
  pub chain : coefficients column ≡ chain_of F

module _ (n : ℕ) (F : Faces) where
  pub got_drawn : {column : List ℤ} → n ≤ 96 → Some column ≡ drawn n F → Drawn n F column
  unfolding drawn
  got_drawn {column} few e = bool_or (all_below n F)
      (λ b.
      let q : column ≡ table 96 (chain_of F) = cc (rw b at e) in
      record {
        below = b;
        size = ap length q ∙ length-table 0 96 _;
        chain = fun_ext (λ i. lt_or i 96
            (λ h. holds (chain_of F) q i h)
            (λ h. get_or-eq_default column (pos 0) {n = i} (omega (arith, ap length q, length-table 0 96 (chain_of F))) ∙ sym (faces-within F n b i (omega arith))));
      })
      (λ b. absurd (cc (rw b at e)))

  pub not-drawn : None ≡ drawn n F → all_below n F ≡ false
  unfolding drawn
  not-drawn e = bool_or (all_below n F) (λ b. absurd (cc (rw b at e))) (λ b. b)
