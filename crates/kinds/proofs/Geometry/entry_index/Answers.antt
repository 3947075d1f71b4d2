use Rattle.std.proofs.Common.{rules}
use Rattle.format.specs.Layout.Geometry.{entry_bytes, entries_in}
use Rattle.kinds.proofs.Geometry.entry_index.Goals as goal

pub returns : goal.returns
unfolding entries_in entry_bytes
returns c = search rules
