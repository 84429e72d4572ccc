-- How large the counts and the places of a run are, so that it can be printed.
use mathlib.Core.Path.{◌≡◌, ap, ◌∙◌}
use mathlib.Core.List.{List}
use Prim.Native.Nat.{ℕ, ◌≤◌}
use native.Mathlib.Omega.{arith}
use lib.ListN.{length, drop}
use borrow.Author.Tests.{leb-true}
use Rattle.std.specs.Prelude.{Result}
use Rattle.maths.proofs.Cases.{no_eq}
use Rattle.rules.specs.declared.refusals.Stop.{Stop}
use Rattle.rules.specs.Counts.{count_of}
use Rattle.rules.specs.Complex.{Pattern, Sized, pattern, Complex, empty}
use Rattle.rules.specs.Good.{Good, is_good}
use Rattle.rules.specs.Script.{Ended}
use Rattle.rules.specs.Calls.{Lent, lent, sized_script}
use Rattle.rules.proofs.Branches.Branches.{good_each}
use Rattle.rules.proofs.Bytes.Faults.{fault_inside}
use Rattle.rules.proofs.Storage.Stored.{stored-sized}
use Rattle.rules.proofs.Scripts.Runs.{script-kept}
use Rattle.rules.proofs.Texts.ReadGood.{read_good, mesh_each}
use Rattle.listing.specs.Lines.{PlaceSmall}
use Rattle.printing.specs.declared.run.InputRun.{InputRun}
use Rattle.printing.specs.Input.{Run, run_told, end_of, ran_to, run_input}
use Rattle.printing.proofs.Running.{end_good}

-- a run whose places can be printed, and its matrices
pub record Printable (l : Lent Run) : Type 0 where
  pub seams : count_of l.answer.counts 1 ≤ 96
  pub panels : count_of l.answer.counts 2 ≤ 96
  pub blocks : count_of l.answer.counts 3 ≤ 96
  pub sized : Sized (pattern l.answer.counts l.m1 l.m2 l.m3)
  pub mesh-place : PlaceSmall l.answer.mesh l.answer.place
  pub script-place : PlaceSmall l.answer.refusal l.answer.place

-- the place of a fault is in its bytes
ended-place : {X : Complex} → Good X → (script : List ℕ) → let e = end_of script X in PlaceSmall e.refusal e.place
unfolding end_of
ended-place {X} G script =
    good_each (λ (e : Ended). PlaceSmall e.refusal e.place) (sized_script script) (is_good X)
    (λ l g f. omega (arith, fault_inside (script-kept script G).located f, leb-true (length script) 24576 l))
    (λ f. no_eq f) (λ f. no_eq f)

ended_printable : (e : Ended) → Good e.now → PlaceSmall e.refusal e.place → Printable (ran_to e)
ended_printable e G small =
    record {
      seams = G.few 1;
      panels = G.few 2;
      blocks = G.few 3;
      sized = stored-sized e.now;
      mesh-place = λ f. no_eq f;
      script-place = small;
    }

run_printable : (s : List ℕ) → Printable (run_input s)
unfolding run_input
run_printable s =
    mesh_each (λ l (x : Unit {0}). Printable l) {bad' = λ r at. tt} {go' = λ X used. tt} s
    (λ r at n L.
    record {
      seams = omega arith;
      panels = omega arith;
      blocks = omega arith;
      sized = stored-sized empty;
      mesh-place = λ f. omega (arith, L.near f);
      script-place = λ f. no_eq f;
    })
    (λ X used e.
    let G = read_good s X used e in
    let script = drop used s in
    ended_printable (end_of script X) (end_good G script) (ended-place G script))

-- and so is what was found to be that run, told with the counts of the pattern p that it left, which is seen as q
pub printable : (s : List ℕ) (r : Result InputRun Stop) {p q : Pattern} → q ≡ p → lent (run_told r p.counts) p ≡ run_input s → Printable (lent (run_told r q.counts) q)
printable s r e h = rw (ap (λ (x : Pattern). lent (run_told r x.counts) x) e ∙ h) (run_printable s)
