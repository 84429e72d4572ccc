-- What it is that chains are carried: a chain map that loses nothing. So it is of no change, of one after another, and of a change of three dimensions.
use mathlib.Core.Path.{◌≡◌, refl, ◌∙◌, ap, fun_ext}
use Prim.Native.Nat.{ℕ, suc}
use native.Mathlib.Omega.{arith}
use Rattle.rules.specs.Complex.{Layer, Complex, Chain}
use Rattle.rules.specs.Edits.{Step, kept, layers, at3, boundary}
use Rattle.rules.specs.Chains.{then}
use Rattle.rules.proofs.Layers.Changes.{at3_each, at3-next}
use Rattle.rules.proofs.Layers.Frame.{Within}

pub record Carries (X : Complex) (S : ℕ → Step) : Type 0 where
  pub within : (k : ℕ) (c : Chain) → Within (X k).n c → Within (S k).layer.n ((S k).carried c)
  -- the boundary of the carried chain is the carried boundary
  pub chain-map : (k : ℕ) (c : Chain) → Within (X (suc k)).n c → (r : ℕ) →
      boundary (S (suc k)).layer ((S (suc k)).carried c) r ≡ (S k).carried (boundary (X (suc k)) c) r
  -- chains that are carried to the same are the same
  pub faithful : (k : ℕ) (c c' : Chain) → Within (X k).n c → Within (X k).n c' →
      ((i : ℕ) → (S k).carried c i ≡ (S k).carried c' i) → (i : ℕ) → c i ≡ c' i

pub kept_carries : (X : Complex) → Carries X (λ q. kept (X q))
kept_carries X = record { within = λ k c w. w; chain-map = λ k c w r. refl; faithful = λ k c c' w w' h. h }

pub then_carries : {X : Complex} {S R : ℕ → Step} → Carries X S → Carries (layers S) R → Carries X (then S R)
then_carries {X} {S} {R} C E = record {
  within = λ k c w. E.within k ((S k).carried c) (C.within k c w);
  chain-map = λ k c w r. E.chain-map k ((S (suc k)).carried c) (C.within (suc k) c w) r ∙ ap (λ b. (R k).carried b r) (fun_ext (C.chain-map k c w));
  faithful = λ k c c' w w' h. C.faithful k c c' w w' (E.faithful k ((S k).carried c) ((S k).carried c') (C.within k c w) (C.within k c' w') h);
}

-- of one dimension: a chain of A is carried to one of the new layer, and none is lost
pub record Keeps (A : Layer) (x : Step) : Type 0 where
  pub within : (c : Chain) → Within A.n c → Within x.layer.n (x.carried c)
  pub faithful : (c c' : Chain) → Within A.n c → Within A.n c' → ((i : ℕ) → x.carried c i ≡ x.carried c' i) → (i : ℕ) → c i ≡ c' i

-- of a dimension and the next above it, whose layer was B
abbrev pub Maps : Step → Layer → Step → Type 0
Maps x B y = (c : Chain) → Within B.n c → (r : ℕ) → boundary y.layer (y.carried c) r ≡ x.carried (boundary B c) r

pub kept_keeps : (A B : Layer) → A.n ≡ B.n → Keeps A (kept B)
kept_keeps A B e = record { within = λ c w i l. w i (omega arith); faithful = λ c c' w w' h. h }

module _ {X : Complex} {k : ℕ} (x y z : Step) where
  pub at3_carries : Keeps (X k) x → Keeps (X (suc k)) y → Keeps (X (suc (suc k))) z →
      ((q : ℕ) → suc q ≡ k → Maps (kept (X q)) (X k) x) → Maps x (X (suc k)) y → Maps y (X (suc (suc k))) z →
      Maps z (X (suc (suc (suc k)))) (kept (X (suc (suc (suc k))))) → Carries X (at3 k (λ q. kept (X q)) x y z)
  at3_carries K₀ K₁ K₂ M M₀ M₁ M₂ = record {
    within = λ q. (keeps q).within;
    chain-map = at3-next k (λ q. kept (X q)) x y z (λ q u v. Maps u (X (suc q)) v) (λ q c w r. refl) (λ q e. rw e (M q e)) M₀ M₁ M₂;
    faithful = λ q. (keeps q).faithful;
  }
    where
      keeps : (q : ℕ) → Keeps (X q) (at3 k (λ q. kept (X q)) x y z q)
      keeps = at3_each k (λ q. kept (X q)) x y z (λ q u. Keeps (X q) u) (λ q _ _ _. kept_keeps (X q) (X q) refl) K₀ K₁ K₂
