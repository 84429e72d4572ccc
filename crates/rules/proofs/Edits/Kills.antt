-- A layer without a column or a row, the numbers closing up; and kill: the layers still fit.
use mathlib.Core.Path.{◌≡◌, ◌∙◌, ap}
use Prim.Native.Nat.{ℕ, suc, pred, ◌<◌, ◌≤◌}
use native.Mathlib.Omega.{arith}
use lib.IntN.{pos}
use Rattle.maths.specs.Sums.{up}
use Rattle.maths.proofs.Integers.{ints}
use Rattle.maths.proofs.Sums.{up-past}
use Rattle.maths.proofs.Dots.{dot_up}
use Rattle.rules.specs.Complex.{Layer, Complex}
use Rattle.rules.specs.Edits.{without_column, without_row, kill}
use Rattle.rules.proofs.Layers.Frame.{Fit, Frame, few-at, columns-at}
use Rattle.rules.proofs.Accepting.Allowed.{CanKill}
use Rattle.rules.proofs.Edits.Fitted.{fitted}

module _ (c : ℕ) (A : Layer) where
  pub without_few : A.n ≤ 96 → (without_column c A).n ≤ 96
  unfolding without_column
  without_few l = let less : pred A.n ≤ 96 = omega arith in less

  without_none : A.n ≡ 0 → (without_column c A).n ≡ 0
  unfolding without_column
  without_none e = ap pred e

  pub without_ground : ((i j : ℕ) → A.d i j ≡ pos 0) → (i j : ℕ) → (without_column c A).d i j ≡ pos 0
  unfolding without_column
  without_ground z i j = z i _

  pub fit_without_column : (K : Layer) → c < A.n → Fit K A → Fit K (without_column c A)
  unfolding without_column
  fit_without_column K l F = record {
    few = without_few F.few;
    rows = λ i j h. F.rows i _ h;
    columns = λ i j h. F.columns i (up c j) (up-past c A.n j l h);
    null = λ r j. F.null r _;
  }

  pub fit_without_row : (W : Layer) → Fit A W → Fit (without_row c A) W
  unfolding without_row
  fit_without_row W F = record { few = F.few; rows = F.rows; columns = F.columns; null = λ r j. F.null (up c r) j }

  fit_without_both : (B : Layer) → A.n ≤ 96 → ((i j : ℕ) → A.n ≤ j → A.d i j ≡ pos 0) → c < A.n → ((j : ℕ) → B.d c j ≡ pos 0) → Fit A B →
      Fit (without_column c A) (without_row c B)
  unfolding without_column without_row
  fit_without_both B few columns l free F = record {
    few = F.few;
    rows = λ i j h. F.rows (up c i) j (up-past c A.n i l h);
    columns = λ i j h. F.columns (up c i) j h;
    null = λ r j. simp (free, ints) at (dot_up 96 c (λ i. A.d r i) (λ i. B.d i j) (omega arith) (columns r 96 few)) ∙ F.null r j;
  }

pub kill_frame : {k c : ℕ} {X : Complex} → Frame X → CanKill k c X → Frame (kill k c X)
unfolding kill without_row
kill_frame {k} {c} {X} F C = fitted F (record {
  few = without_few c (X k) (few-at F k);
  ground = λ e. without_ground c (X k) (rw e F.ground);
  below = λ q e. fit_without_column c (X k) (X q) C.cell (rw (← e) (F.fit q));
  here = fit_without_both c (X k) (X (suc k)) (few-at F k) (columns-at F k) C.cell C.free (F.fit k);
  above = fit_without_row c (X (suc k)) (X (suc (suc k))) (F.fit (suc k));
  over = F.fit (suc (suc k));
  top = λ l. without_none c (X k) (F.top k l);
  top_above = F.top (suc k);
  top-over = F.top (suc (suc k));
})
