use Rattle.std.proofs.Common.{sym, ◌∙◌}
use Rattle.theory.proofs.Loops.{below_not}
use Rattle.name_pairs.proofs.pairs_rise.Goals as goal

pub returns-then-not-pair_rises : goal.returns-then-not-pair_rises
returns-then-not-pair_rises c = sym (below_not _ _ _ c.loop-i-test.true (sym c.pair_rises.ensures ∙ c.if-not-pair_rises.true))
