-- What `print` writes, piece after piece, is the printed result of its input.
use mathlib.Core.Path.{◌≡◌, ap, ◌∙◌}
use mathlib.Core.Logic.{◌≢◌}
use mathlib.Core.List.{List, ◌++◌, append_assoc, append-nil}
use Prim.Native.Nat.{ℕ}
use lib.IntN.{ℤ}
use lib.ListN.{take, drop}
use borrow.Author.Tests.{ne_eqb}
use Rattle.std.specs.Prelude.{Result}
use Rattle.maths.specs.Buffers.{Put}
use Rattle.maths.proofs.Sums.{join-zero}
use Rattle.rules.specs.declared.pattern.Pattern.{Pattern as LentPattern}
use Rattle.rules.specs.declared.pattern.View.{View}
use Rattle.rules.specs.declared.refusals.Stop.{Stop}
use Rattle.rules.specs.Refusals.{accepted}
use Rattle.rules.specs.Complex.{Complex, Pattern, pattern, complex, stored, euler}
use Rattle.rules.specs.Good.{Good}
use Rattle.rules.specs.Script.{Ended, ended_at}
use Rattle.rules.specs.Calls.{Lent, lent}
use Rattle.rules.specs.Lending.{lent_by, seen_by}
use Rattle.rules.specs.Printed.{cell_lines, printed_mesh, printed_run, printed}
use Rattle.rules.proofs.Storage.Stored.{complex-stored}
use Rattle.rules.proofs.Texts.ReadGood.{read_good, mesh_each}
use Rattle.listing.specs.Pieces.{column_lines, run_text}
use Rattle.listing.proofs.Printed.{printed-run, printed-listing}
use Rattle.printing.specs.declared.run.InputRun.{InputRun}
use Rattle.printing.specs.Input.{Run, no_run, run_told, run_left, end_of, ran_to, run_input, head_text, cells_text, panel_text, block_text}
use Rattle.printing.proofs.Running.{end_good}
use Rattle.printing.proofs.Rooms.{told_counts}

-- the three pieces of a run, one after the other
abbrev pieces : Lent Run → List ℕ
pieces l = head_text l.answer l.m1 ++ (panel_text l.answer l.m2 ++ block_text l.answer l.m3)

-- a refused mesh has one line
refused_pieces : (r at : ℕ) → r ≢ accepted → pieces (no_run r at) ≡ printed_mesh r at
unfolding head_text column_lines
refused_pieces r at n = rw (ne_eqb r accepted n) (simp (join-zero, append-nil))

-- the lines of the columns of the stored matrices are those of the pattern's cells
run_pieces : (e : Ended) → Good e.now → pieces (ran_to e) ≡ printed_run e
unfolding head_text run_text column_lines cell_lines euler
run_pieces e G =
    let run : Complex → Ended = λ X. ended_at X e.ran e.refusal e.place in
    let read_back = complex (stored e.now) in
    let same : pieces (ran_to e) ≡ printed_run (run read_back) = rw (printed-run (run read_back), printed-listing read_back) (simp append_assoc) in
    same ∙ ap (λ (X : Complex). printed_run (run X)) (complex-stored G)

pieces_printed : (input : List ℕ) → pieces (run_input (take 65536 input)) ≡ printed input
unfolding run_input printed end_of
pieces_printed input =
    let s = take 65536 input in
    mesh_each (λ l t. pieces l ≡ t) s (λ r at n L. refused_pieces r at n.not_0)
    (λ X used e. run_pieces (end_of (drop used s) X) (end_good (read_good s X used e) (drop used s)))

-- `print` runs an input of at most 65,536 bytes (`pattern` reads the first 65,536); three times it puts a piece at the front of its buffer and lends that
-- much of it to `write_all`. What it lends, in order, is `printed` of the input.
module _ (input : List ℕ) {run : Run} {m1 m2 m3 : List ℤ}
    (run-input : lent run (pattern run.counts m1 m2 m3) ≡ run_input (take 65536 input)) where
  pub printed_in_pieces : {out out1 out2 out3 : List ℕ} {head panels blocks : ℕ} →
      Put out 0 (head_text run m1) head out1 → Put out1 0 (panel_text run m2) panels out2 → Put out2 0 (block_text run m3) blocks out3 →
      take head out1 ++ (take panels out2 ++ take blocks out3) ≡ printed input
  printed_in_pieces put-head put-panels put-blocks =
      rw (put-head.upto, put-panels.upto, put-blocks.upto) (ap pieces run-input ∙ pieces_printed input)

-- The same in the words of the contracts: `run_input` answers r and leaves the pattern p, of which `left` is the view; `put_head` puts the first piece, and
-- two calls of `put_cells_of` the others.
module _ (input : List ℕ) (r : Result InputRun Stop) (p : LentPattern) (left : View)
    (does : run_left r p ≡ run_input (take 65536 input)) (view : seen_by left ≡ lent_by p) where
  pub put_in_pieces : {out out1 out2 out3 : List ℕ} {head panels blocks : ℕ} →
      Put out 0 (head_text (run_told r left.counts) left.m1.now) head out1 →
      Put out1 0 (cells_text 2 left.counts left.m2.now) panels out2 → Put out2 0 (cells_text 3 left.counts left.m3.now) blocks out3 →
      take head out1 ++ (take panels out2 ++ take blocks out3) ≡ printed input
  put_in_pieces put-head put-panels put-blocks =
      let run = run_told r left.counts in
      let counts = told_counts r left.counts in
      let same : lent run (seen_by left) ≡ run_input (take 65536 input) = ap (λ (x : Pattern). lent (run_told r x.counts) x) view ∙ does in
      printed_in_pieces input {run = run} same put-head (rw counts put-panels) (rw counts put-blocks)
