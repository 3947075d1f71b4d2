use Rattle.hierarchy.proofs.Passes.{walked_right}
use Rattle.hierarchy.proofs.tree_rules.Goals as goal

pub returns : goal.returns
returns c = let l = c.walk.ensures in record { answer = walked_right l (c.if-not-walk.false) c.count.ensures c.all_reached.ensures; wrote = l.wrote }
