-- What the mesh reader accepts is good, and what it refuses has the number of a refusal and, if it is a fault, the fault's place.
use mathlib.Core.Path.{◌≡◌, refl, sym, ◌∙◌}
use mathlib.Core.Bool.{true, false}
use mathlib.Core.List.{List}
use Prim.Native.Nat.{ℕ, zero, suc, ◌+◌, ◌*◌, ◌<◌, ◌≤◌}
use native.Mathlib.Omega.{arith}
use lib.IntN.{pos}
use Rattle.maths.specs.Repeat.{repeat}
use Rattle.maths.proofs.Cases.{no_eq}
use Rattle.maths.proofs.Dots.{dot_0_l}
use Rattle.rules.specs.Refusals.{no_place}
use Rattle.rules.specs.Complex.{Complex}
use Rattle.rules.specs.Good.{Good}
use Rattle.rules.specs.Operators.{step}
use Rattle.rules.specs.Form.{byte_at, make_at, faces_of, fault_number, fault_place, is_fault}
use Rattle.rules.specs.Mesh.{Reading, faulty, refused, taken, Place, corners, read_cell, read_section, read_mesh, after_reading}
use Rattle.rules.proofs.Branches.Branches.{step_each}
use Rattle.rules.proofs.Branches.Numbers.{Refusal, by_meaning, meaning_numbered, meaning_no_fault, step_meant, fault_numbered}
use Rattle.rules.proofs.Bytes.Faults.{Located, nowhere, Lies, further, field_or, operator_or, byte_lies, make_lies}
use Rattle.rules.proofs.Bytes.Decoded.{made}
use Rattle.rules.proofs.Scripts.Steps.{edit_kept, removal_kept}

-- where the mesh ends at the latest, if 193 bytes are counted for each cell
abbrev pub farthest : ℕ
farthest = 55_588

-- a pattern that was taken is good, and a refusal is a fault of the bytes s or is given by meaning
abbrev Sound : List ℕ → Reading → Type 0
Sound s (faulty f) = Lies s farthest f
Sound s (refused r) = by_meaning r ≡ true
Sound s (taken X used) = Good X

pub corners-good : (n : ℕ) → n ≤ 96 → Good (corners n)
corners-good n h = record {
  few = few;
  units = λ k i j. rw (none k i j) (omega arith);
  rows = λ k i j l. refl;
  columns = λ k i j l. none k i j;
  seams = λ j l. absurd (omega arith);
  faces = λ k j l. absurd (omega arith);
  null = λ k r j. dot_0_l 96 _ (λ i l. refl);
  ground = λ i j. refl;
  top = top;
}
  where
    few : (k : ℕ) → (corners n k).n ≤ 96
    few zero = h
    few (suc k) = omega arith

    none : (k i j : ℕ) → (corners n k).d i j ≡ pos 0
    none zero i j = refl
    none (suc k) i j = refl

    top : (k : ℕ) → 3 < k → (corners n k).n ≡ 0
    top zero l = absurd (omega arith)
    top (suc k) l = refl

-- it is sound, if the pattern read before is good and has taken at most `at` bytes
abbrev FromGood : List ℕ → ℕ → (Place → Reading) → Type 0
FromGood s at go = (x : Place) → Good x.0 → x.1 ≤ at → Sound s (go x)

module _ (s : List ℕ) where
  -- cells of dimension k, and what follows them
  cells_sound : (k : ℕ) → k ≤ 3 → (end : ℕ) (go : Place → Reading) → end ≤ farthest → FromGood s end go →
      (n at : ℕ) → at + 193 * n ≤ end → FromGood s at (repeat (read_cell s k) go n)
  unfolding repeat read_cell
  cells_sound k d end go h then zero at l x G a = then x G (omega arith)
  cells_sound k d end go h then (suc n) at l x G a =
      operator_or (Sound s) (make_at s k x.1) (make_lies s k x.1) (λ f. further (omega arith)) λ o next e near.
      let F = (made s x.1 k d e).1 in
      step_each (Sound s) (step o (faces_of s o) x.0) (step_meant (faces_of s o) x.0 G o)
      (λ S q. cells_sound k d end go h then n (at + 193) (omega arith) _ (edit_kept G s o F q).kept.good (omega arith))
      (λ Y q. cells_sound k d end go h then n (at + 193) (omega arith) _ (removal_kept G s o F q).good (omega arith))

  -- a section: 1 byte and at most 96 cells
  section_sound : (k : ℕ) → k ≤ 3 → (at end : ℕ) (go : Place → Reading) → end ≤ farthest → at + 18_529 ≤ end → FromGood s end go →
      FromGood s at (λ x. read_section s k x go)
  unfolding read_section
  section_sound k d at end go h l then x G a =
      field_or (Sound s) (byte_at s x.1 0 96) (byte_lies s x.1 0 96) (λ f. further (omega arith)) λ n B.
      cells_sound k d end go h then n (at + 1) (omega (arith, B.most)) _ G (omega arith)

  read_sound : Sound s (read_mesh s)
  unfolding read_mesh
  read_sound =
      field_or (Sound s) (byte_at s 0 0 96) (byte_lies s 0 0 96) (λ f. further (omega arith)) λ n B.
      section_sound 1 (omega arith) 1 18_530 _ (omega arith) (omega arith) (λ x G a.
      section_sound 2 (omega arith) 18_530 37_059 _ (omega arith) (omega arith) (λ y H b.
      section_sound 3 (omega arith) 37_059 farthest _ (omega arith) (omega arith) (λ z I c. I) y H b) x G a) _ (corners-good n B.most) (omega arith)

  pub read_good : (X : Complex) (used : ℕ) → read_mesh s ≡ taken X used → Good X
  read_good X used e = rw e at read_sound

-- the place of a refusal of the bytes s by r
pub record MeshPlace (s : List ℕ) (r at : ℕ) : Type 0 where
  pub located : Located s r at
  pub near : is_fault r ≡ true → at ≤ farthest

-- two things that follow the reading of a mesh, case by case
module _ {A B : Type 0} (P : A → B → Type 0) {bad : ℕ → ℕ → A} {go : Complex → ℕ → A} {bad' : ℕ → ℕ → B} {go' : Complex → ℕ → B} where
  sound_each : (s : List ℕ) (x : Reading) → Sound s x → ((r at : ℕ) → Refusal r → MeshPlace s r at → P (bad r at) (bad' r at)) →
      ((X : Complex) (used : ℕ) → x ≡ taken X used → P (go X used) (go' X used)) → P (after_reading x bad go) (after_reading x bad' go')
  sound_each s (faulty f) L h k = h (fault_number f) (fault_place f) (fault_numbered f) (record { located = L.located; near = λ _. L.near })
  sound_each s (refused r) n h k =
      let no : is_fault r ≡ false = meaning_no_fault r n in
      h r no_place (meaning_numbered r n) (record { located = nowhere no; near = λ yes. no_eq (sym no ∙ yes) })
  sound_each s (taken X used) n h k = k X used refl

  pub mesh_each : (s : List ℕ) → ((r at : ℕ) → Refusal r → MeshPlace s r at → P (bad r at) (bad' r at)) →
      ((X : Complex) (used : ℕ) → read_mesh s ≡ taken X used → P (go X used) (go' X used)) →
      P (after_reading (read_mesh s) bad go) (after_reading (read_mesh s) bad' go')
  mesh_each s = sound_each s (read_mesh s) (read_sound s)
