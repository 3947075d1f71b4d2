-- What stands listed at the start of the work buffer before a stream gets another length: its units, and behind them free ones.
use Rattle.std.specs.Prelude.{ℕ, ◌+◌, ◌≤◌, max, ◌≡◌, List, length, take}
use Rattle.format.specs.Basics.Bytes.{Bytes}
use Rattle.format.specs.Layout.Need.{round_up}
use Rattle.format.specs.Layout.Space.{free_units}
use Rattle.format.specs.Layout.Stream.{stream_units}
use Rattle.format.specs.Calls.SetLength.{new_units}
use Rattle.volume.specs.declared.Volume.{Volume as Opened}
use Rattle.spaces.specs.Spaces.{kind_for, volume_in, space_at}
use Rattle.queries.specs.declared.find.Object.{Object}

-- the stream has the first `old` of the listed units, and gets the first `need`
pub record Gathered (v : Opened) (img : Bytes) (work : List ℕ) (e : Object) (new old need : ℕ) : Type 0 where
  pub many : old ≡ round_up e.size (space_at v img (kind_for (max e.size new))).unit
  pub wanted : need ≡ round_up new (space_at v img (kind_for (max e.size new))).unit
  pub own : take old work ≡ stream_units (volume_in v img) e.id.0
  pub all : take need work ≡ new_units (volume_in v img) e.id.0 new
  pub enough : need ≤ old + length (free_units (space_at v img (kind_for (max e.size new))))
