-- Group 18: who owns each sector and each mini sector.
use Rattle.std.specs.Prelude.{ℕ, zero, suc, Bool, true, false, cond, ◌&&◌, List, [], ◌++◌, eqb, ltb, leb}
use Rattle.format.specs.Basics.Lists.{all_below, join_below, count}
use Rattle.format.specs.Layout.Need.{cutoff}
use Rattle.format.specs.Layout.Chain.{FREE}
use Rattle.format.specs.Layout.Space.{Space}
use Rattle.format.specs.Layout.Entry.{is_stream}
use Rattle.format.specs.Layout.Volume.{Volume, system_sectors}
use Rattle.format.specs.Layout.Stream.{stream_size, stream_units}

-- ---- the owned units

-- the sectors of entry i, if it is a stream of the cutoff or more; its mini sectors, if it is a smaller one
unfoldable pub own_sectors : Volume → ℕ → List ℕ
own_sectors v i = cond (is_stream (v.directory.entry i) && leb cutoff (stream_size v i)) (stream_units v i) []

unfoldable pub own_minis : Volume → ℕ → List ℕ
own_minis v i = cond (is_stream (v.directory.entry i) && ltb (stream_size v i) cutoff) (stream_units v i) []

-- all of them: FAT, DIFAT, directory, mini FAT, mini stream, and each single stream
unfoldable pub owned_sectors : Volume → List ℕ
owned_sectors v = system_sectors v ++ join_below v.directory.count (own_sectors v)

unfoldable pub owned_minis : Volume → List ℕ
owned_minis v = join_below v.directory.count (own_minis v)

-- ---- the rule

-- by how often a unit is owned, and its cell: never and free, or once
unfoldable pub owner_rule : ℕ → ℕ → Bool
owner_rule zero c = eqb c FREE
owner_rule (suc zero) c = true
owner_rule (suc (suc n)) c = false

-- No chain holds a unit twice, so a unit that stands twice among the owned ones has two owners.
unfoldable pub owner_right : Space → List ℕ → ℕ → Bool
owner_right sp owned u = owner_rule (count u owned) (sp.cell u)

unfoldable pub owners_in : Space → List ℕ → Bool
owners_in sp owned = all_below sp.limit (owner_right sp owned)

-- GROUP 18
unfoldable pub owner_rules : Volume → Bool
owner_rules v = owners_in v.sectors (owned_sectors v) && owners_in v.minis (owned_minis v)
