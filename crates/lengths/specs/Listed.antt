-- What stands listed at the start of the work buffer before a stream crosses the cutoff: its units, and behind them free ones of the other kind.
use Rattle.std.specs.Prelude.{ℕ, ◌≤◌, ◌≡◌, List, length, take, drop}
use Rattle.format.specs.Basics.Bytes.{Bytes}
use Rattle.format.specs.Layout.Need.{round_up}
use Rattle.format.specs.Layout.Space.{free_units}
use Rattle.format.specs.Layout.Stream.{stream_units}
use Rattle.volume.specs.declared.Volume.{Volume as Opened}
use Rattle.spaces.specs.Spaces.{kind_for, volume_in, space_at}
use Rattle.queries.specs.declared.find.Object.{Object}

-- the stream has the first `old` of the listed units, and gets the `need` behind them
pub record BothListed (v : Opened) (img : Bytes) (work : List ℕ) (e : Object) (new old need : ℕ) : Type 0 where
  pub many : old ≡ round_up e.size (space_at v img (kind_for e.size)).unit
  pub wanted : need ≡ round_up new (space_at v img (kind_for new)).unit
  pub own : take old work ≡ stream_units (volume_in v img) e.id.0
  pub free : take need (drop old work) ≡ take need (free_units (space_at v img (kind_for new)))
  pub enough : need ≤ length (free_units (space_at v img (kind_for new)))

-- an entry with another size
abbrev pub with_size : Object → ℕ → Object
with_size e n = record { id = e.id; entry_type = e.entry_type; size = n }
