-- Group 16: the mini FAT and the mini stream.
use Rattle.std.specs.Prelude.{ℕ, ◌%◌, Bool, ◌&&◌, eqb, leb}
use Rattle.format.specs.Basics.Lists.{all_below}
use Rattle.format.specs.Layout.Geometry.{mini_bytes}
use Rattle.format.specs.Layout.Chain.{chain}
use Rattle.format.specs.Layout.Space.{Space, chain_for}
use Rattle.format.specs.Layout.Entry.{start}
use Rattle.format.specs.Layout.Volume.{Volume, root, root_size}
use Rattle.format.specs.Rules.Cells.{plain_cell, rest_free}

unfoldable pub mini_cell_right : Space → ℕ → Bool
mini_cell_right sp m = plain_cell sp (sp.cell m)

-- the mini FAT is a chain of M sectors
unfoldable pub mini_fat_chain : Volume → Bool
mini_fat_chain v = chain v.sectors.cell v.sectors.limit v.mini_fat_count v.mini_fat_start

-- the root's size is of whole mini sectors, and its start is a chain that holds so many bytes
unfoldable pub mini_stream_chain : Volume → Bool
mini_stream_chain v = eqb (root_size v % mini_bytes) 0 && chain_for v.sectors (root_size v) (start (root v))

-- these chains, a cell for each of the K mini sectors, and the values of those cells
abbrev pub mini_tables : Volume → Bool
mini_tables v =
    mini_fat_chain v
    && mini_stream_chain v
    && leb v.minis.limit v.minis.cells
    && all_below v.minis.limit (mini_cell_right v.minis)

-- GROUP 16: all that, and the cells from K on are free
unfoldable pub mini_rules : Volume → Bool
mini_rules v = mini_tables v && rest_free v.minis
