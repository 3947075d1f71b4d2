-- What the writes put: `format`'s, for whatever units and entry they are given.
use Rattle.std.specs.Prelude.{ℕ, ◌+◌, List}
use Rattle.format.specs.Basics.Bytes.{Bytes, put32, put64}
use Rattle.format.specs.Layout.Chain.{FREE, start_of}
use Rattle.format.specs.Layout.Space.{Space}
use Rattle.format.specs.Layout.Entry.{start_field, size_field}
use Rattle.format.specs.Calls.SetLength.{release, link}
use Rattle.writes.specs.declared.Cells.{Cells}
use Rattle.writes.specs.declared.Cells.TheVariants.{Freed, Linked}

-- the cells of these units become free, or a chain
abbrev pub cells_put : Cells → Space → List ℕ → Bytes → Bytes
cells_put Freed sp us img = release sp us img
cells_put Linked sp us img = link sp us img

-- and the cell of a unit, where these units come after it
abbrev pub cell_value : Cells → List ℕ → ℕ
cell_value Freed us = FREE
cell_value Linked us = start_of us

-- start and size of the entry at a place
unfoldable pub entry_put : ℕ → ℕ → ℕ → Bytes → Bytes
entry_put place start size img = put64 (put32 img (place + start_field) start) (place + size_field) size
