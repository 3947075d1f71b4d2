use mathlib.Core.Path.{◌∙◌}
use mathlib.Core.List.{[]}
use Rattle.format.specs.Calls.Call.{find}
use Rattle.queries.proofs.Finds.{find_says}
use Rattle.opened.specs.Sequence.{lent}
use Rattle.opened.proofs.Calls.{long_reply}
use Rattle.opened.proofs.find_opened.Goals as goal

pub returns : goal.returns
unfolding lent
returns c = find_says _ _ c.args.path.now c.find_in.result c.find_in.ensures ∙ long_reply c.requires (find c.args.path.now []) _ c.requires.room
