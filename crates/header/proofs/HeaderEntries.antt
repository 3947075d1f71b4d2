-- The DIFAT entries that stand in the header.
use Prim.Native.Nat.{ℕ, ◌+◌, ◌*◌, ◌<◌}
use mathlib.Core.Path.{◌≡◌}
use borrow.Author.Tests.{lt-ltb}
use Rattle.format.specs.Basics.Bytes.{Bytes, u32at}
use Rattle.format.specs.Layout.Geometry.{Geometry, header_difat}
use Rattle.format.specs.Layout.Header.{difat_place}
use Rattle.format.specs.Layout.Tables.{difat_entry}

pub entry_first : (g : Geometry) (img : Bytes) (i : ℕ) → i < 109 → difat_entry g img i ≡ u32at img (76 + 4 * i)
unfolding difat_entry header_difat difat_place
entry_first g img i h = rw (lt-ltb i 109 h)
