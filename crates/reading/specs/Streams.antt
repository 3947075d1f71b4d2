-- The bytes of a stream of so many bytes that starts at a unit: `format`'s contents, whatever entry it belongs to.
use Rattle.std.specs.Prelude.{ℕ, take}
use Rattle.format.specs.Basics.Bytes.{Bytes}
use Rattle.format.specs.Layout.Space.{Space, units_for, block, laid}
use Rattle.volume.specs.declared.Volume.{Volume as Opened}
use Rattle.spaces.specs.declared.Unit.{Unit}
use Rattle.spaces.specs.Spaces.{space_at}
use Rattle.spaces.specs.Units.{kind_of, number_in}

unfoldable pub stream_bytes : Space → Bytes → ℕ → ℕ → Bytes
stream_bytes sp img size s = take size (laid (block sp img) (units_for sp size s))

-- of an opened volume
abbrev pub stream_from : Opened → Bytes → Unit → ℕ → Bytes
stream_from v img u size = stream_bytes (space_at v img (kind_of u)) img size (number_in u)
