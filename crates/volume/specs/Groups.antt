-- The last groups of the verdict, each with what comes after it. `format`'s `groups` are 10 to 13, and then these.
use Rattle.std.specs.Prelude.{ℕ}
use Rattle.format.specs.Layout.Volume.{Volume}
use Rattle.format.specs.Rules.Entries.{entry_rules}
use Rattle.format.specs.Rules.Trees.{tree_rules}
use Rattle.format.specs.Rules.Mini.{mini_rules}
use Rattle.format.specs.Rules.Streams.{stream_rules}
use Rattle.format.specs.Rules.Owners.{owner_rules}
use Rattle.format.specs.Rules.Verdict.{check}

-- groups 17 and 18
unfoldable pub owner_groups : Volume → ℕ
owner_groups v = check (stream_rules v) 17 (check (owner_rules v) 18 0)

-- groups 16 to 18
unfoldable pub mini_groups : Volume → ℕ
mini_groups v = check (mini_rules v) 16 (owner_groups v)

-- groups 14 to 18
unfoldable pub entry_groups : Volume → ℕ
entry_groups v = check (entry_rules v.directory) 14 (check (tree_rules v.directory) 15 (mini_groups v))
