-- "A good pattern is always readable once written": reading gives it back, and takes just the bytes that were written.
use mathlib.Core.Path.{◌≡◌, refl, sym, ◌∙◌, ap}
use mathlib.Core.List.{List, ◌++◌}
use Prim.Native.Nat.{ℕ, zero, suc, ◌<◌, ◌≤◌}
use native.Mathlib.Omega.{arith}
use lib.ListN.{length}
use Rattle.maths.specs.Sums.{join}
use Rattle.maths.specs.Repeat.{repeat}
use Rattle.rules.specs.Complex.{Complex}
use Rattle.rules.specs.Good.{Good}
use Rattle.rules.specs.Mesh.{Reading, taken, Place, read_cell, read_section, read_mesh, write_cell, write_section, write_mesh}
use Rattle.rules.proofs.Bytes.Fields.{byte_got}
use Rattle.rules.proofs.Texts.Texts.{Text, ends, byte, whole-text, text-divided}
use Rattle.maths.proofs.Repeat.{repeat-last}
use Rattle.rules.proofs.Texts.CellsRead.{cell-taken}
use Rattle.rules.proofs.Texts.UpTo.{up_to, up_to_few, up_to_more, up_to_next, up_to_corners, up_to_all, next_can}

module _ {X : Complex} (G : Good X) {s : List ℕ} where
  -- the first j cells of a section
  cells_read : {at next : ℕ} (k j : ℕ) → k < 3 → j ≤ (X (suc k)).n → Text s at (join j (λ j. write_cell (suc k) (λ i. (X (suc k)).d i j))) next →
      (go : Place → Reading) → repeat (read_cell s (suc k)) go j (up_to X (suc k) 0, at) ≡ go (up_to X (suc k) j, next)
  unfolding join repeat
  cells_read k zero l h ends go = refl
  cells_read {at = at} {next = next} k (suc j) l h r go =
      let d = text-divided (join j (λ j. write_cell (suc k) (λ i. (X (suc k)).d i j))) r in
      repeat-last (read_cell s (suc k)) go j (up_to X (suc k) 0, at)
      ∙ cells_read {at = at} {next = d.0} k j l (omega arith) d.1 (λ y. read_cell s (suc k) y go)
      ∙ cell-taken k (up_to_few G k j) (next_can G k j l h) d.2 go
      ∙ ap (λ Y. go (Y, next)) (up_to_more X (suc k) j)

  section_read : {at next : ℕ} (k : ℕ) → k < 3 → Text s at (write_section (suc k) X) next →
      (go : Place → Reading) → read_section s (suc k) (up_to X (suc k) 0, at) go ≡ go (up_to X (suc (suc k)) 0, next)
  unfolding read_section write_section
  section_read {at} k l (byte h e r) go =
      rw (byte_got s at 0 96 (X (suc k)).n (record { there = h; is = sym e; least = omega arith; most = G.few (suc k) }))
      (rw (cells_read k (X (suc k)).n l (omega arith) r go, up_to_next G (suc k)))

  mesh_read : {next : ℕ} → Text s 0 (write_mesh X) next → read_mesh s ≡ taken X next
  unfolding read_mesh write_mesh
  mesh_read {next} (byte h e r) =
      let a = text-divided (write_section 1 X) r in
      let b = text-divided (write_section 2 X) a.2 in
      rw (byte_got s 0 0 96 (X 0).n (record { there = h; is = sym e; least = omega arith; most = G.few 0 }), up_to_corners G)
      (section_read 0 (omega arith) a.1 _ ∙ section_read 1 (omega arith) b.1 _ ∙ section_read 2 (omega arith) b.2 _ ∙ ap (λ Y. taken Y next) (up_to_all G))

pub read_written : {X : Complex} → Good X → (rest : List ℕ) → read_mesh (write_mesh X ++ rest) ≡ taken X (length (write_mesh X))
read_written {X} G rest = mesh_read G (whole-text (write_mesh X) rest)
