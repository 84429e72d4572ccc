-- `read_counts` reads the keyword and the counts one after the other.
use mathlib.Core.Path.{sym}
use Rattle.off.proofs.reader.ImportAnswers.{no_keyword, no_corner-count, no_panel-count, no_seam_count, counts_read}
use Rattle.off.proofs.reader.read_counts.Goals as goal

pub returns-in_err-first : goal.returns-in_err-first
returns-in_err-first c = rw c.from_residual.ensures (no_keyword c.args.s.now (sym c.in_err-first.ensures))

pub returns-in_err-corners : goal.returns-in_err-corners
returns-in_err-corners c =
    rw c.from_residual-in_err-corners.ensures (no_corner-count c.args.s.now (sym c.in_ok-first.ensures) (sym c.in_err-corners.ensures))

pub returns-in_err-panels : goal.returns-in_err-panels
returns-in_err-panels c =
    rw c.from_residual-in_err-panels.ensures
    (no_panel-count c.args.s.now (sym c.in_ok-first.ensures) (sym c.in_ok-corners.ensures) (sym c.in_err-panels.ensures))

pub returns-in_err-rest : goal.returns-in_err-rest
returns-in_err-rest c =
    rw c.from_residual-in_err-rest.ensures
    (no_seam_count c.args.s.now (sym c.in_ok-first.ensures) (sym c.in_ok-corners.ensures) (sym c.in_ok-panels.ensures) (sym c.in_err-rest.ensures))

pub returns : goal.returns
returns c = counts_read c.args.s.now (sym c.in_ok-first.ensures) (sym c.in_ok-corners.ensures) (sym c.in_ok-panels.ensures) (sym c.in_ok-rest.ensures)
