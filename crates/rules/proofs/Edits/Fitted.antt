-- A change of three neighbouring layers keeps the frame, if the layers fit where they meet.
use mathlib.Core.Path.{◌≡◌, refl, fun_ext}
use Prim.Native.Nat.{ℕ, suc, ◌<◌, ◌≤◌}
use native.Mathlib.Omega.{arith}
use lib.IntN.{pos}
use Rattle.rules.specs.Complex.{Layer, Complex}
use Rattle.rules.specs.Edits.{Step, kept, layers, at3}
use Rattle.rules.proofs.Layers.Changes.{at3_0, at3_1, at3_2, at3_no, at3_each, at3-next}
use Rattle.rules.proofs.Layers.Frame.{Fit, Frame}

-- A, B and U in place of the layers k, k + 1 and k + 2
pub record LayersFit (k : ℕ) (A B U : Layer) (X : Complex) : Type 0 where
  pub few : A.n ≤ 96
  pub ground : k ≡ 0 → (i j : ℕ) → A.d i j ≡ pos 0
  pub below : (q : ℕ) → suc q ≡ k → Fit (X q) A
  pub here : Fit A B
  pub above : Fit B U
  pub over : Fit U (X (suc (suc (suc k))))
  pub top : 3 < k → A.n ≡ 0
  pub top_above : 3 < suc k → B.n ≡ 0
  pub top-over : 3 < suc (suc k) → U.n ≡ 0

module _ {X : Complex} {k : ℕ} {A B U : Layer} where
  pub fitted : Frame X → LayersFit k A B U X → Frame (at3 k X A B U)
  fitted F G = record {
    few = first (λ L. L.n ≤ 96) F.few (λ _. G.few);
    ground = first (λ L. (i j : ℕ) → L.d i j ≡ pos 0) F.ground G.ground;
    fit = at3-next k X A B U (λ q L M. Fit L M) F.fit G.below G.here G.above G.over;
    top = at3_each k X A B U (λ q L. 3 < q → L.n ≡ 0) (λ q _ _ _. F.top q) G.top G.top_above G.top-over;
  }
    where
      first : (P : Layer → Type 0) → P (X 0) → (k ≡ 0 → P A) → P (at3 k X A B U 0)
      first P old new = at3_each k X A B U (λ q L. q ≡ 0 → P L) (λ q _ _ _ e. rw e old) new (λ e. absurd (omega arith)) (λ e. absurd (omega arith)) 0 refl

pub layers-at3 : (X : Complex) (k : ℕ) (x y z : Step) → layers (at3 k (λ q. kept (X q)) x y z) ≡ at3 k X x.layer y.layer z.layer
layers-at3 X k x y z = fun_ext (at3_each k X x.layer y.layer z.layer (λ q L. (at3 k (λ q. kept (X q)) x y z q).layer ≡ L)
    (λ q e₀ e₁ e₂. rw (at3_no k (λ q. kept (X q)) x y z q e₀ e₁ e₂))
    (rw at3_0) (rw at3_1) (rw at3_2))

pub fitted_layers : {X : Complex} {k : ℕ} (x y z : Step) → Frame X → LayersFit k x.layer y.layer z.layer X →
    Frame (layers (at3 k (λ q. kept (X q)) x y z))
fitted_layers {X} {k} x y z F G = rw (layers-at3 X k x y z) (fitted F G)
