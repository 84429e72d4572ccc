-- After make every column is still one of its dimension, so the pattern is good.
use Prim.Native.Nat.{ℕ, suc}
use native.Mathlib.Omega.{arith}
use Rattle.rules.specs.Complex.{Complex, Chain}
use Rattle.rules.specs.Good.{Good}
use Rattle.rules.specs.Edits.{layers, make}
use Rattle.rules.proofs.Layers.Frame.{Cells, frame_of, good_of}
use Rattle.rules.proofs.Accepting.Allowed.{CanMake}
use Rattle.rules.proofs.Edits.Makes.{make_frame}
use Rattle.rules.proofs.Cells.Columns.{made_bounds, sound-at, cells_layers, put-column}

make_cells : {k : ℕ} {v : Chain} {X : Complex} → Good X → CanMake k v X → Cells (layers (make k v X))
unfolding make
make_cells {k} {v} {X} G C = cells_layers G k _ _ _
    (put-column (suc (X k).n) (X k).n v (X k).d (G.units k) (λ j h e. (sound-at G k).cell j (omega arith)) C.units (λ _. made_bounds C (λ q _. G.few q)))
    (sound-at G (suc k))
    (sound-at G (suc (suc k)))

pub good_made : {k : ℕ} {v : Chain} {X : Complex} → Good X → CanMake k v X → Good (layers (make k v X))
good_made G C = good_of (make_frame (frame_of G) C) (make_cells G C)
