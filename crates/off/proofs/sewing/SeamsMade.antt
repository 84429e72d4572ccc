-- A seam that is made between two corners: it is accepted while there is room, and is the one then found between them.
use mathlib.Core.Path.{◌≡◌, refl, ◌∙◌, ap, fun_ext}
use mathlib.Core.Logic.{◌≢◌}
use mathlib.Core.Bool.{true, false, cond, ◌&&◌}
use Prim.Native.Nat.{ℕ, suc, ◌<◌, ◌≤◌}
use native.Mathlib.Omega.{arith}
use borrow.Author.Tests.{lt-ltb, le-ltb, ne_eqb}
use lib.Dec.{eqb}
use lib.IntN.{pos, negsuc}
use Rattle.maths.proofs.Cases.{eq_or, eqb_same}
use Rattle.maths.proofs.Tests.{all_of}
use Rattle.maths.proofs.Dots.{dot_0_l}
use Rattle.rules.specs.Refusals.{no_room}
use Rattle.rules.specs.Complex.{Layer, Complex, Chain}
use Rattle.rules.specs.Good.{Good}
use Rattle.rules.specs.Edits.{layers, put, make}
use Rattle.rules.specs.Operators.{refused, edited, chain_of, all_below, closed, make_step}
use Rattle.rules.specs.Mesh.{tail_of, head_of}
use Rattle.rules.proofs.Layers.Changes.{put_same, put_no}
use Rattle.rules.proofs.Layers.Judged.{has_face, closes-is}
use Rattle.rules.proofs.Layers.Seams.{Ends as EndsAt, tail-is, head-is, minus-not-zero}
use Rattle.rules.proofs.Bytes.Faces.{TailHead, faces-within, seam_ends}
use Rattle.rules.proofs.Accepting.Accepted.{make-accepted}
use Rattle.rules.proofs.Cells.MakeCells.{good_made}
use Rattle.rules.proofs.Edits.Makes.{make-here}
use Rattle.off.specs.Sewing.{ends_of, goes_from, seam_among, seam_of, tail_head}
use Rattle.off.proofs.ends.SameWays.{SameBelow, same_seam}

pub some_seam : (n : ℕ) → pos (suc n) ≢ pos 0
some_seam n e = let z : suc n ≡ 0 = cc in omega arith

pub minus_seam : (n : ℕ) → negsuc n ≢ pos 0
minus_seam n e = let z : ◌≡◌ {A = ℕ} 0 1 = cc in omega arith

-- the faces of a seam from a to b
pub two_faces : (a b : ℕ) → TailHead (tail_head a b)
two_faces a b = record { two = refl; tail = refl; head = refl }

pub two_ends : (a b : ℕ) → a ≢ b → a < 96 → b < 96 → EndsAt (chain_of (tail_head a b)) a b
two_ends a b e h l = seam_ends (tail_head a b) (two_faces a b) e h l

-- the seams A, and one more, of the chain v
abbrev pub grown_by : Chain → Layer → Layer
grown_by v A = record { n = suc A.n; d = λ i. put A.n (v i) (A.d i) }

module _ (A : Layer) {v : Chain} {a b : ℕ} (E : EndsAt v a b) where
  old_column : (j : ℕ) → j < A.n → ◌≡◌ {A = Chain} (λ i. (grown_by v A).d i j) (λ i. A.d i j)
  old_column j h = fun_ext λ i. put_no A.n (v i) (A.d i) j (omega arith)

  new_column : ◌≡◌ {A = Chain} (λ i. (grown_by v A).d i A.n) v
  new_column = fun_ext λ i. put_same A.n (v i) (A.d i)

  -- the older seams keep their ends, and the new one has a and b
  pub grown_ends : SameBelow A.n (ends_of (grown_by v A)) (ends_of A)
  grown_ends = record { tail = λ j h. ap tail_of (old_column j h); head = λ j h. ap head_of (old_column j h) }

  pub grown_tail : (ends_of (grown_by v A)).tail A.n ≡ a
  grown_tail = ap tail_of new_column ∙ tail-is E

  pub grown_head : (ends_of (grown_by v A)).head A.n ≡ b
  grown_head = ap head_of new_column ∙ head-is E

  grown_seam : (x y : ℕ) → seam_of (grown_by v A) x y ≡
      cond (eqb a x && eqb b y) (pos (suc A.n)) (cond (eqb a y && eqb b x) (negsuc A.n) (seam_of A x y))
  unfolding seam_among goes_from
  grown_seam x y = rw (grown_tail, grown_head, same_seam A.n grown_ends x y)

  -- the new seam is found between its ends, and every other where it was
  pub grown_along : seam_of (grown_by v A) a b ≡ pos (suc A.n)
  grown_along = rw (grown_seam a b, eqb_same a, eqb_same b)

  pub grown_against : seam_of (grown_by v A) b a ≡ negsuc A.n
  grown_against = rw (grown_seam b a, ne_eqb a b E.apart, eqb_same a, eqb_same b)

  pub grown_other : (x y : ℕ) → (a ≡ x → b ≢ y) → (a ≡ y → b ≢ x) → seam_of (grown_by v A) x y ≡ seam_of A x y
  grown_other x y f g = rw (grown_seam x y, apart x y f, apart y x g)
    where
      apart : (x y : ℕ) → (a ≡ x → b ≢ y) → eqb a x && eqb b y ≡ false
      apart x y f = eq_or a x (λ e. rw (e, eqb_same x, ne_eqb b y (f e))) (λ e. rw (ne_eqb a x e))

module _ {X : Complex} (G : Good X) (a b : ℕ) (apart : a ≢ b) (first : a < (X 0).n) (second : b < (X 0).n) where
  abbrev v : Chain
  v = chain_of (tail_head a b)

  pub new_ends : EndsAt v a b
  new_ends = two_ends a b apart (omega (arith, G.few 0)) (omega (arith, G.few 0))

  ends-below : all_below (X 0).n (tail_head a b) ≡ true
  unfolding all_below
  ends-below = all_of 2 (λ l h. eq_or l 0
      (λ e. rw (e) (lt-ltb a (X 0).n first))
      (λ e. rw (ne_eqb l 0 e) (lt-ltb b (X 0).n second)))

  seam_closed : closed 1 v X ≡ true
  unfolding closed
  seam_closed = rw (
    has_face v a new_ends.low (minus-not-zero new_ends.tail),
    closes-is v (X 0).n (X 0) (G.few 0) (faces-within (tail_head a b) (X 0).n ends-below) (λ r. dot_0_l 96 _ (λ i h. G.ground r i)),
  )

  pub seam_made : (X 1).n < 96 → make_step 1 (tail_head a b) X ≡ edited (make 1 v X)
  unfolding make_step
  seam_made h = rw (ends-below, lt-ltb (X 1).n 96 h, seam_closed)

  pub seam_full : 96 ≤ (X 1).n → make_step 1 (tail_head a b) X ≡ refused no_room
  unfolding make_step
  seam_full h = rw (ends-below, le-ltb (X 1).n 96 h)

  pub seam_good : (X 1).n < 96 → Good (layers (make 1 v X))
  seam_good h = good_made G (make-accepted G 1 (tail_head a b) (omega arith)
      (record { corner = λ e. absurd (omega arith); seam = λ _. two_faces a b; signed = λ l. absurd (omega arith) }) (seam_made h)).0

  pub made_layer : layers (make 1 v X) 1 ≡ grown_by v (X 1)
  made_layer = make-here 1 v X
