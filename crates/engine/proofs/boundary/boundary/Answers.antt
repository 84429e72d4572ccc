-- `engine::boundary::boundary` meets its contract: each return is one of the call's answers.
use mathlib.Core.Path.{sym, ◌∙◌}
use native.Mathlib.Omega.{arith}
use borrow.Author.Rules.{rules}
use Rattle.rules.proofs.Branches.Refused.{handed_on}
use Rattle.engine.proofs.Dimensions.{Picked, picked-first, picked-second, picked-third, not_offered}
use Rattle.engine.proofs.Boundaries.{boundary-short, boundary-not-good, boundary-form, boundary-chain, factors, boundary-done}
use Rattle.engine.proofs.boundary.boundary.Goals as goal
use Rattle.engine.proofs.boundary.boundary.Goals.{After-is_chain, in-1, in-2, in-3}

-- the matrix of the dimension
picked : (c : After-is_chain) → let a = c.args in Picked a.d a.p.m1.now a.p.m2.now a.p.m3.now c.match-d.m.now
picked c =
    elim c.match-d.branch [
      | in-1 w ↦ rw w.m-is (picked-first w.in-1.is)
      | in-2 w ↦ rw w.m-is (picked-second w.in-2.is)
      | in-3 w ↦ rw w.m-is (picked-third w.in-3.is)
    ]

pub returns-then-chain-ne-SIDE : goal.returns-then-chain-ne-SIDE
returns-then-chain-ne-SIDE c = boundary-short _ _ _ _ (λ e f. omega arith)

pub returns-in_err-refusal_of_pattern : goal.returns-in_err-refusal_of_pattern
returns-in_err-refusal_of_pattern c =
    rw (handed_on c.from_residual.ensures) (boundary-not-good _ _ _ _ c.if-chain-ne-SIDE.false c.if-out-ne-SIDE.false _ c.in_err-refusal_of_pattern.ensures)

pub returns-in_default : goal.returns-in_default
returns-in_default c =
    boundary-form _ _ _ _ c.if-chain-ne-SIDE.false c.if-out-ne-SIDE.false (sym c.in_ok-refusal_of_pattern.ensures)
    (not_offered c.args.d (λ e. omega arith) (λ e. omega arith) (λ e. omega arith))

pub returns-then-not-is_chain : goal.returns-then-not-is_chain
returns-then-not-is_chain c =
    boundary-chain _ _ _ _ c.if-chain-ne-SIDE.false c.if-out-ne-SIDE.false (sym c.in_ok-refusal_of_pattern.ensures) (picked (goal.at.returns-then-not-is_chain c).After-is_chain)
    (sym c.is_chain.ensures ∙ c.if-not-is_chain.true)

pub multiply-requires : goal.multiply-requires
multiply-requires c =
    factors _ _ _ _ c.if-chain-ne-SIDE.false c.if-out-ne-SIDE.false (sym c.in_ok-refusal_of_pattern.ensures) (picked (goal.at.multiply-requires c).After-is_chain)
    (sym c.is_chain.ensures ∙ c.if-not-is_chain.false) (search rules)

pub returns : goal.returns
returns c =
    boundary-done _ _ _ _ c.if-chain-ne-SIDE.false c.if-out-ne-SIDE.false (sym c.in_ok-refusal_of_pattern.ensures) (picked (goal.at.returns c).After-is_chain)
    (sym c.is_chain.ensures ∙ c.if-not-is_chain.false) c.multiply.ensures
