-- Split: the layers of the divided cell and of the cells above it, each as the old layer and a column times a row.
use mathlib.Core.Path.{◌≡◌, refl, ◌∙◌, ap, fun_ext}
use mathlib.Core.Logic.{◌≢◌}
use mathlib.Core.Bool.{Bool}
use Prim.Native.Nat.{ℕ, suc}
use borrow.Author.Tests.{ne_eqb}
use lib.IntN.{ℤ, pos, negsuc, neg_ℤ, ◌+ℤ◌, ◌-ℤ◌, ◌*ℤ◌, +ℤ_idl, *ℤ_comm}
use Rattle.maths.specs.Sums.{δ}
use Rattle.maths.proofs.Integers.{ints}
use Rattle.maths.proofs.Cases.{eqb_same, eq_or}
use Rattle.maths.proofs.Sums.{δ_same, δ_no}
use Rattle.rules.specs.Complex.{Layer, Chain}
use Rattle.rules.specs.Edits.{put, part, halves, repeated}
use Rattle.rules.proofs.Layers.Changes.{put_same, put_no, put_is, part-zero, rest-is}
use Rattle.rules.proofs.Layers.Frame.{same_layer}

-- `put_is` with the factors in the other order
pub put_front : (t : ℕ) (z : ℤ) (c : Chain) → c t ≡ pos 0 → put t z c ≡ (λ i. c i +ℤ δ t i *ℤ z)
put_front t z c h = put_is t z c h ∙ fun_ext λ i. rw (*ℤ_comm z (δ t i))

-- z more at a and w more at b is a sum
put_two : (a b : ℕ) (c : Chain) (z w : ℤ) {x y : ℤ} → a ≢ b → x ≡ c a +ℤ z → y ≡ c b +ℤ w → (j : ℕ) →
    put a x (put b y c) j ≡ c j +ℤ (z *ℤ δ a j +ℤ w *ℤ δ b j)
put_two a b c z w ne p q j = eq_or j a
    (λ e. rw (e, put_same, p, δ_same, δ_no b a ne) (simp ints))
    (λ e. rw (put_no a _ (put b _ c) j e, δ_no a j e)
    (eq_or j b
    (λ f. rw (f, put_same, q, δ_same) (simp ints))
    (λ f. rw (put_no b _ c j f, δ_no b j f) (simp ints))))

pub halves_are : (s : ℕ) (p : ℕ → Bool) (L D : Layer) → ((j : ℕ) → D.d L.n j ≡ pos 0) → ((i : ℕ) → D.d i D.n ≡ pos 0) → s ≢ D.n →
    halves s p L D ≡ record { n = suc D.n; d = λ i j. D.d i j +ℤ ((δ L.n i -ℤ part p (λ i. D.d i s) i) *ℤ δ s j +ℤ (neg_ℤ (δ L.n i) +ℤ part p (λ i. D.d i s) i) *ℤ δ D.n j) }
unfolding halves
halves_are s p L D row column other = same_layer refl λ i j.
    let v : Chain = λ i. D.d i s in
    eq_or i L.n
    (λ e. rw (e, eqb_same, δ_same, part-zero p v L.n (row s), row j) (put_two s D.n (λ j. pos 0) (pos 1) (negsuc 0) other refl refl j))
    (λ e. rw (ne_eqb i L.n e, δ_no L.n i e, +ℤ_idl, +ℤ_idl) (put_two s D.n (D.d i) (neg_ℤ (part p v i)) (part p v i) other (rest-is p v i) (rw column (simp ints)) j))

pub repeated_is : (s : ℕ) (D U : Layer) → ((j : ℕ) → U.d D.n j ≡ pos 0) →
    repeated s D U ≡ record { n = U.n; d = λ i j. U.d i j +ℤ δ D.n i *ℤ U.d s j }
unfolding repeated
repeated_is s D U above = same_layer refl λ i j. ap (λ f. f i) (put_front D.n (U.d s j) (λ i. U.d i j) (above j))
