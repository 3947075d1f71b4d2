use mathlib.Core.Path.{◌≡◌, sym, ◌∙◌}
use native.Mathlib.Omega.{arith}
use borrow.Author.Tests.{eqb-true}
use Rattle.tree_walk.proofs.Ends.{walk_done}
use Rattle.tree_walk.proofs.take_turn.Goals as goal

pub returns : goal.returns
returns c =
    let none : c.args.s.at.0 ≡ 0 = eqb-true c.args.s.at.0 0 (sym c.is_none.ensures ∙ c.if-not-is_none.false) in
    λ q g. walk_done g none (omega (arith, c.if-s-gt0.false)) (omega (arith, c.if-s-gt0-2.false))
