-- The four steps of a repair: what each asks of the image, and what it writes.
use Rattle.std.specs.Prelude.{ℕ, zero, suc, ◌+◌, ◌-◌, Bool, not, cond, ◌&&◌, ◌||◌, List, [], ◌∷◌}
use Rattle.format.specs.Basics.Lists.{list_below, pick_below, member}
use Rattle.format.specs.Basics.Bytes.{Bytes, put_bytes}
use Rattle.format.specs.Layout.Geometry.{Geometry}
use Rattle.format.specs.Layout.Space.{Space}
use Rattle.format.specs.Layout.Entry.{is_storage, is_stream, is_root, colour_byte, black}
use Rattle.format.specs.Layout.Volume.{Volume, volume}
use Rattle.format.specs.Rules.Header.{header_rules}
use Rattle.format.specs.Rules.Tables.{table_rules}
use Rattle.format.specs.Rules.Cells.{cell_rules}
use Rattle.format.specs.Rules.Directory.{directory_rules}
use Rattle.format.specs.Rules.Entries.{entry_rules}
use Rattle.format.specs.Rules.Trees.{tree_rules}
use Rattle.format.specs.Rules.Mini.{mini_tables, mini_rules}
use Rattle.format.specs.Rules.Streams.{stream_rules}
use Rattle.format.specs.Rules.Owners.{owned_sectors, owned_minis}
use Rattle.format.specs.Calls.SetLength.{release}

-- ---- what the steps ask

-- groups 10 and 11
unfoldable pub tables_hold : Geometry → Bytes → Bool
tables_hold g img = header_rules g img && table_rules g img

-- 12 and 13
unfoldable pub directory_holds : Volume → Bool
directory_holds v = cell_rules v.sectors && directory_rules v

-- 14, 15 and the rest of 16: all but its words on the cells from K on
unfoldable pub entries_hold : Volume → Bool
entries_hold v = entry_rules v.directory && tree_rules v.directory && mini_tables v

-- 10 to 17
unfoldable pub streams_hold : Geometry → Bytes → Bool
streams_hold g img =
    tables_hold g img
    && directory_holds (volume g img)
    && entry_rules (volume g img).directory
    && tree_rules (volume g img).directory
    && mini_rules (volume g img)
    && stream_rules (volume g img)

-- ---- what the steps write

-- the units that the cells from the limit on would have
unfoldable pub rest_unit : Space → ℕ → ℕ
rest_unit sp i = sp.limit + i

unfoldable pub rest_units : Space → List ℕ
rest_units sp = list_below (sp.cells - sp.limit) (rest_unit sp)

-- the cells from the limit on become free
unfoldable pub rest_freed : Space → Bytes → Bytes
rest_freed sp img = release sp (rest_units sp) img

-- types 1, 2 and 5, whatever else the entry holds
unfoldable pub has_colour : Bytes → Bool
has_colour e = is_storage e || is_stream e || is_root e

unfoldable pub blacken_entry : Volume → ℕ → Bytes → Bytes
blacken_entry v i img = cond (has_colour (v.directory.entry i)) (put_bytes img (v.entry_place i + colour_byte) (black ∷ [])) img

unfoldable pub blacken_below : Volume → ℕ → Bytes → Bytes
blacken_below v zero img = img
blacken_below v (suc n) img = blacken_entry v n (blacken_below v n img)

unfoldable pub blackened : Volume → Bytes → Bytes
blackened v img = blacken_below v v.directory.count img

-- the cells of units that nobody owns become free
unfoldable pub is_unowned : List ℕ → ℕ → Bool
is_unowned owned u = not (member u owned)

unfoldable pub unowned_freed_in : Space → List ℕ → Bytes → Bytes
unowned_freed_in sp owned img = release sp (pick_below sp.limit (is_unowned owned)) img

unfoldable pub unowned_freed : Volume → Bytes → Bytes
unowned_freed v img = unowned_freed_in v.minis (owned_minis v) (unowned_freed_in v.sectors (owned_sectors v) img)

-- ---- the steps, each on what the one before it left; the first that cannot be taken ends them

unfoldable pub fourth_step : Geometry → Bytes → Bytes
fourth_step g img = cond (streams_hold g img) (unowned_freed (volume g img) img) img

unfoldable pub third_step : Geometry → Bytes → Bytes
third_step g img = cond (entries_hold (volume g img)) (fourth_step g (rest_freed (volume g img).minis img)) img

unfoldable pub second_step : Geometry → Bytes → Bytes
second_step g img = cond (directory_holds (volume g img)) (third_step g (blackened (volume g img) img)) img

-- the outcome
unfoldable pub repaired : Geometry → Bytes → Bytes
repaired g img = cond (tables_hold g img) (second_step g (rest_freed (volume g img).sectors img)) img
