-- What each operator does to the layers and to a chain, once over the dimension.
use Rattle.std.specs.Prelude.{Bool, cond, ℕ, suc, pred, eqb, ℤ, pos, negsuc, neg_ℤ, ◌+ℤ◌}
use Rattle.maths.specs.Sums.{dot, up}
use Rattle.rules.specs.Complex.{Layer, Complex, Chain}

-- what becomes of one dimension: its layer, and a chain of it
pub record Step : Type 0 where
  pub layer : Layer
  pub carried : Chain → Chain

abbrev pub kept : Layer → Step
kept A = record { layer = A; carried = λ c. c }

abbrev pub layers : (ℕ → Step) → Complex
layers S q = (S q).layer

-- the sequence f with x, y and z at m, m + 1 and m + 2
unfoldable pub at3 : {A : Type 0} → ℕ → (ℕ → A) → A → A → A → ℕ → A
at3 m f x y z q = cond (eqb q m) x (cond (eqb q (suc m)) y (cond (eqb q (suc (suc m))) z (f q)))

-- the chain c with z at t
unfoldable pub put : ℕ → ℤ → Chain → Chain
put t z c i = cond (eqb i t) z (c i)

-- "The boundary matrix": a chain's boundary is the matrix product
unfoldable pub boundary : Layer → Chain → Chain
boundary A c r = dot 96 (λ j. A.d r j) (λ j. c j)

-- Make k. "Appends a cell with the given column; its own row above is zero." "The new cell gets 0."
unfoldable pub make : ℕ → Chain → Complex → ℕ → Step
make k v X =
    let s = (X k).n in
    at3 k (λ q. kept (X q))
    (record { layer = record { n = suc s; d = λ i. put s (v i) ((X k).d i) }; carried = put s (pos 0) })
    (kept (X (suc k)))
    (kept (X (suc (suc k))))

-- Kill k. "Removes a cell. Higher numbers of that dimension drop by one."
unfoldable pub without_column : ℕ → Layer → Layer
without_column c A = record { n = pred A.n; d = λ i j. A.d i (up c j) }

unfoldable pub without_row : ℕ → Layer → Layer
without_row c A = record { n = A.n; d = λ i j. A.d (up c i) j }

unfoldable pub kill : ℕ → ℕ → Complex → Complex
kill k c X = at3 k X (without_column c (X k)) (without_row c (X (suc k))) (X (suc (suc k)))

-- Split. Cell s of dimension m + 1 "has its boundary divided into a chosen part and the rest".
unfoldable pub part : (ℕ → Bool) → Chain → Chain
part chosen v i = cond (chosen i) (v i) (pos 0)

unfoldable pub rest : (ℕ → Bool) → Chain → Chain
rest chosen v i = cond (chosen i) (pos 0) (v i)

-- "Boundary of t: the boundary of the chosen part with its signs"
unfoldable pub divider : ℕ → (ℕ → Bool) → Layer → Layer → Layer
divider s chosen L D =
    let t = L.n in
    record { n = suc t; d = λ i. put t (boundary L (part chosen (λ f. D.d f s)) i) (L.d i) }

-- "Boundary of s': chosen part minus t. Boundary of s: rest plus t." "The row of t is +1 at s, -1 at s', 0 elsewhere."
unfoldable pub halves : ℕ → (ℕ → Bool) → Layer → Layer → Layer
halves s chosen L D =
    let t = L.n in
    let s' = D.n in
    let v : Chain = λ i. D.d i s in
    record {
      n = suc s';
      d = λ i. cond (eqb i t)
          (put s (pos 1) (put s' (negsuc 0) (λ j. pos 0)))
          (put s (rest chosen v i) (put s' (part chosen v i) (D.d i)));
    }

-- "The row of s' in matrix k+1 repeats the row of s"
unfoldable pub repeated : ℕ → Layer → Layer → Layer
repeated s D U = record { n = U.n; d = λ i j. put D.n (U.d s j) (λ i. U.d i j) i }

-- "s' gets the coefficient of s, t gets 0."
unfoldable pub split : ℕ → ℕ → (ℕ → Bool) → Complex → ℕ → Step
split m s chosen X =
    let L = X m in
    let D = X (suc m) in
    at3 m (λ q. kept (X q))
    (record { layer = divider s chosen L D; carried = put L.n (pos 0) })
    (record { layer = halves s chosen L D; carried = λ c. put D.n (c s) c })
    (kept (repeated s D (X (suc (suc m)))))

-- Merge at k. "The lower numbered of the two cells" (a) "gets the sum of both columns. The higher one" (b) "and t are removed, and numbers close up."
unfoldable pub merged : ℕ → ℕ → ℕ → Layer → Layer
merged t a b D = record { n = pred D.n; d = λ i j. put a (D.d (up t i) a +ℤ D.d (up t i) b) (λ j. D.d (up t i) (up b j)) j }

unfoldable pub merge : ℕ → ℕ → ℕ → ℕ → Complex → Complex
merge k t a b X = at3 k X (without_column t (X k)) (merged t a b (X (suc k))) (without_row b (X (suc (suc k))))

-- Flip k. "Negates the cell's column in matrix k and its row in matrix k+1." "The flipped cell's coefficient is negated."
unfoldable pub negated : ℕ → Chain → Chain
negated c v = put c (neg_ℤ (v c)) v

unfoldable pub flip : ℕ → ℕ → Complex → ℕ → Step
flip k c X =
    at3 k (λ q. kept (X q))
    (record { layer = record { n = (X k).n; d = λ i. negated c ((X k).d i) }; carried = negated c })
    (kept (record { n = (X (suc k)).n; d = λ i j. negated c (λ i. (X (suc k)).d i j) i }))
    (kept (X (suc (suc k))))
