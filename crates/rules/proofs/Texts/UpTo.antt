-- A pattern of which the cells up to a place are there: how it grows by a cell, and that each next cell can be made.
use mathlib.Core.Path.{◌≡◌, refl, sym, ◌∙◌, fun_ext}
use mathlib.Core.Logic.{◌≢◌}
use mathlib.Core.Bool.{cond}
use Prim.Native.Nat.{ℕ, zero, suc, ◌<◌, ◌≤◌}
use native.Mathlib.Omega.{arith}
use borrow.Author.Tests.{lt-ltb, le-ltb, ne_eqb}
use lib.Dec.{eqb, ltb}
use lib.IntN.{pos}
use Rattle.maths.proofs.Cases.{eqb_same, eq_or, lt_or}
use Rattle.rules.specs.Complex.{Layer, Complex, bare}
use Rattle.rules.specs.Good.{Good}
use Rattle.rules.specs.Edits.{layers, put, make}
use Rattle.rules.specs.Mesh.{corners}
use Rattle.rules.proofs.Layers.Changes.{put_each}
use Rattle.rules.proofs.Layers.Frame.{same_layer, frame_of}
use Rattle.rules.proofs.Edits.Makes.{make-here, make_other}
use Rattle.rules.proofs.Accepting.Allowed.{CanMake}
use Rattle.rules.proofs.Layers.Seams.{one_each_of}
use Rattle.rules.proofs.Cells.Columns.{sound-at}

-- the first j cells of a layer
cut : ℕ → Layer → Layer
cut j A = record { n = j; d = λ i c. cond (ltb c j) (A.d i c) (pos 0) }

-- the layers of X below k, and the first j cells of layer k
pub up_to : Complex → ℕ → ℕ → Complex
up_to X k j q = cond (ltb q k) (X q) (cond (eqb q k) (cut j (X q)) (bare 0))

cut_none : (A : Layer) → cut 0 A ≡ bare 0
unfolding cut
cut_none A = same_layer refl (λ i j. rw (le-ltb j 0 (omega arith)))

cut_all : {A : Layer} → ((i j : ℕ) → A.n ≤ j → A.d i j ≡ pos 0) → cut A.n A ≡ A
unfolding cut
cut_all {A} z = same_layer refl (λ i j. lt_or j A.n (λ h. rw (lt-ltb j A.n h)) (λ h. rw (le-ltb j A.n h) (sym (z i j h))))

cut_more : (j : ℕ) (A : Layer) → record { n = suc j; d = λ i. put j (A.d i j) ((cut j A).d i) } ≡ cut (suc j) A
unfolding cut
cut_more j A = same_layer refl (λ i. put_each j (A.d i j) (λ c. cond (ltb c j) (A.d i c) (pos 0)) (λ c x. x ≡ cond (ltb c (suc j)) (A.d i c) (pos 0))
    (rw (lt-ltb j (suc j) (omega arith)))
    (λ c e. lt_or c j
    (λ h. rw (lt-ltb c j h, lt-ltb c (suc j) (omega arith)))
    (λ h. rw (le-ltb c j h, le-ltb c (suc j) (omega arith)))))

module _ (X : Complex) (k : ℕ) where
  up_to_below : (j q : ℕ) → q < k → up_to X k j q ≡ X q
  unfolding up_to
  up_to_below j q h = rw (lt-ltb q k h)

  up_to_here : (j : ℕ) → up_to X k j k ≡ cut j (X k)
  unfolding up_to
  up_to_here j = rw (le-ltb k k (omega arith), eqb_same)

  up_to_above : (j q : ℕ) → k < q → up_to X k j q ≡ bare 0
  unfolding up_to
  up_to_above j q h = rw (le-ltb q k (omega arith), ne_eqb q k (omega arith))

  up_to_bare : (q : ℕ) → k ≤ q → bare 0 ≡ up_to X k 0 q
  up_to_bare q h = eq_or q k
      (λ e. rw (e, up_to_here, cut_none))
      (λ e. rw (up_to_above 0 q (omega arith)))

  up_to_other : (j q : ℕ) → q ≢ k → up_to X k j q ≡ up_to X k (suc j) q
  unfolding up_to
  up_to_other j q h = rw (ne_eqb q k h)

  -- one cell more
  pub up_to_more : (j : ℕ) → layers (make k (λ i. (X k).d i j) (up_to X k j)) ≡ up_to X k (suc j)
  unfolding cut
  up_to_more j = fun_ext λ q. eq_or q k
      (λ e. rw (e, make-here, up_to_here j, up_to_here (suc j)) (cut_more j (X k)))
      (λ e. make_other k _ (up_to X k j) q e ∙ up_to_other j q e)

module _ {X : Complex} (G : Good X) where
  -- a whole layer, and the next begins
  pub up_to_next : (k : ℕ) → up_to X k (X k).n ≡ up_to X (suc k) 0
  up_to_next k = fun_ext λ q.
      lt_or q k (λ h. rw (up_to_below X k (X k).n q h, up_to_below X (suc k) 0 q (omega arith))) λ h.
      eq_or q k (λ e. rw (e, up_to_here X k (X k).n, up_to_below X (suc k) 0 k (omega arith), cut_all (G.columns k))) λ e.
      rw (up_to_above X k (X k).n q (omega arith)) (up_to_bare X (suc k) q (omega arith))

  pub up_to_corners : corners (X 0).n ≡ up_to X 1 0
  up_to_corners = fun_ext layer
    where
      layer : (q : ℕ) → corners (X 0).n q ≡ up_to X 1 0 q
      layer zero = rw (up_to_below X 1 0 0 (omega arith)) (same_layer refl (λ i j. sym (G.ground i j)))
      layer (suc q) = up_to_bare X 1 (suc q) (omega arith)

  pub up_to_all : up_to X 4 0 ≡ X
  up_to_all = fun_ext λ q. lt_or q 4
      (λ h. up_to_below X 4 0 q h)
      (λ h. sym (up_to_bare X 4 q h) ∙ same_layer (sym (G.top q h)) (λ i j. sym (G.columns q i j (rw (G.top q h) (omega arith)))))

  pub up_to_few : (k j : ℕ) → (up_to X (suc k) j k).n ≤ 96
  up_to_few k j = rw (up_to_below X (suc k) j k (omega arith)) (G.few k)

  -- each cell of X can be made where those before it are there
  pub next_can : (k j : ℕ) → k < 3 → j < (X (suc k)).n → CanMake (suc k) (λ i. (X (suc k)).d i j) (up_to X (suc k) j)
  unfolding cut
  next_can k j l h = record {
    dim = omega arith;
    room = rw (up_to_here X (suc k) j) (omega (arith, G.few (suc k)));
    corner = λ e. absurd (omega arith);
    faces = λ q e. let e' : q ≡ k = omega arith in rw (e', up_to_below X (suc k) j k (omega arith)) (λ i a. G.rows k i j a);
    closed = λ q e r. let e' : q ≡ k = omega arith in rw (e', up_to_below X (suc k) j k (omega arith)) (((frame_of G).fit k).null r j);
    units = λ i. G.units (suc k) i j;
    seam = λ e. one_each_of (((sound-at G (suc k)).cell j h).seam e).2;
    some = ((sound-at G (suc k)).cell j h).some;
  }
