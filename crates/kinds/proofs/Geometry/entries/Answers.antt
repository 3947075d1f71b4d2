use borrow.Author.Rules.{rules}
use Rattle.format.specs.Layout.Geometry.{entries_in, entry_bytes}
use Rattle.kinds.proofs.Geometry.entries.Goals as goal

pub returns : goal.returns
unfolding entries_in entry_bytes
returns c = search rules
