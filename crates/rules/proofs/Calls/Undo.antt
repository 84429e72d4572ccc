-- Merge undoes split: any accepted split followed by merge at the dividing cell is accepted and gives back every count and every byte.
use Rattle.std.specs.Prelude.{Ok}
use mathlib.Core.Path.{◌≡◌, ◌∙◌, ap}
use mathlib.Core.List.{List, [], ◌∷◌}
use Prim.Native.Nat.{ℕ, zero, suc, ◌+◌, ◌<◌, ◌≤◌}
use native.Mathlib.Omega.{arith}
use borrow.Author.Tests.{le-leb}
use Rattle.rules.specs.Answers.{OperatorApplied}
use Rattle.rules.specs.declared.operator.Operator.{Operator}
use Rattle.rules.specs.Refusals.{accepted, no_place}
use Rattle.rules.specs.Complex.{Pattern, Complex, complex, stored}
use Rattle.rules.specs.Good.{Good, Held}
use Rattle.rules.specs.Edits.{Step, layers}
use Rattle.rules.specs.Operators.{Faces, Outcome, edited, removed, split_step, merge_step, step}
use Rattle.rules.specs.Form.{byte_at, code_of, cell_at, operator_at, lone_operator, faces_of}
use Rattle.rules.specs.Calls.{Lent, handed_back, operator_left, apply_call}
use Rattle.rules.proofs.Branches.Branches.{step_each}
use Rattle.rules.proofs.Branches.Numbers.{step-numbered}
use Rattle.rules.proofs.Bytes.Decoded.{decoded}
use Rattle.rules.proofs.Storage.Stored.{sized-is, stored-sized, complex-stored, stored-complex}
use Rattle.rules.proofs.Storage.Tested.{good-is}
use Rattle.rules.proofs.Accepting.Passed.{split_keeps}
use Rattle.rules.proofs.Accepting.Accepted.{split-accepted}
use Rattle.rules.proofs.Cells.SplitCells.{good-split}
use Rattle.rules.proofs.Edits.MergeSplit.{merge-accepted, merge-split}
use Rattle.rules.proofs.Calls.Left.{lone_at}

module _ {X : Complex} (G : Good X) (m s : ℕ) (F : Faces) (S : ℕ → Step) (dim : m < 3) (e : split_step (suc m) s F X ≡ edited S) where
  pub split_good : Good (layers S)
  split_good = let a = split-accepted G (suc m) s F (omega arith) dim e in rw a.1 (good-split G a.0)

  -- the merge at the cell that the split added is accepted, and leaves the pattern of before
  pub merge-after-split : merge_step m (X m).n (layers S) ≡ removed X
  merge-after-split =
      let a = split-accepted G (suc m) s F (omega arith) dim e in
      rw a.1 (merge-accepted G a.0 ∙ ap removed (merge-split G a.0))

-- the bytes of a merge at cell t of dimension m
abbrev pub merge_bytes : ℕ → ℕ → List ℕ
merge_bytes m t = (0x40 + m) ∷ t ∷ []

merge-form : (m t : ℕ) → m < 3 → t ≤ 255 → lone_operator (merge_bytes m t) ≡ Ok (Operator.Merge m t, 2)
unfolding lone_operator operator_at byte_at code_of cell_at
merge-form zero t d h = rw (le-leb t 255 h, le-leb 0 t (omega arith))
merge-form (suc zero) t d h = rw (le-leb t 255 h, le-leb 0 t (omega arith))
merge-form (suc (suc zero)) t d h = rw (le-leb t 255 h, le-leb 0 t (omega arith))
merge-form (suc (suc (suc m))) t d h = absurd (omega arith)

module _ {p : Pattern} (H : Held p) (s : List ℕ) (m c list next : ℕ) (form : lone_operator s ≡ Ok (Operator.Split (suc m) c list, next)) where
  abbrev splitting : Outcome
  splitting = step (Operator.Split (suc m) c list) (faces_of s (Operator.Split (suc m) c list)) (complex p)

  -- what an accepted split makes of layers and chains, and what its call leaves
  split-taken : (apply_call p s).answer.refusal ≡ accepted → (S : ℕ → Step) × (splitting ≡ edited S)
  unfolding apply_call step
  split-taken =
      rw (sized-is H.sized, good-is H.good, form)
      (step_each (λ (l : Lent OperatorApplied). l.answer.refusal ≡ accepted → (S : ℕ → Step) × (splitting ≡ edited S)) splitting
      (λ r q e. absurd ((step-numbered _ (complex p) H.good (Operator.Split (suc m) c list) r q).not_0 e)) (λ S q e. (S, q)) (λ Y q e. absurd (split_keeps (complex p) (suc m) c _ q)))

  split_call : {S : ℕ → Step} → splitting ≡ edited S → apply_call p s ≡ handed_back (stored (layers S)) accepted no_place
  unfolding apply_call
  split_call q = rw (sized-is H.sized, good-is H.good, form, q)

  -- the merge call at the cell that the split added
  merge_call : {S : ℕ → Step} → splitting ≡ edited S → apply_call (stored (layers S)) (merge_bytes m (complex p m).n) ≡ handed_back p accepted no_place
  unfolding apply_call step
  merge_call {S} q =
      let dim : m < 3 = omega (arith, (decoded s 0 (lone_at s form)).0.1) in
      let G' : Good (layers S) = split_good H.good m c _ S dim q in
      let few : (complex p m).n ≤ 96 = H.good.few m in
      let back : complex (stored (layers S)) ≡ layers S = complex-stored G' in
      rw (sized-is (stored-sized (layers S)), back, good-is G', merge-form m (complex p m).n dim (omega arith), merge-after-split H.good m c _ S dim q)
      (ap (λ (q : Pattern). handed_back q accepted no_place) (stored-complex p H.sized))

  -- "a merge right after a split gives back every byte": of the two calls
  pub merge_undoes_split : (apply_call p s).answer.refusal ≡ accepted →
      apply_call (operator_left (apply_call p s)) (merge_bytes m (complex p m).n) ≡ handed_back p accepted no_place
  merge_undoes_split e = let S = split-taken e in rw (split_call S.1) (merge_call S.1)
