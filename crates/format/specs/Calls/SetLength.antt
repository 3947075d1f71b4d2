-- When a length may change, and what a change on one side of the cutoff leaves in the image.
use Rattle.std.specs.Prelude.{ℕ, ◌+◌, ◌-◌, ◌*◌, min, max, Bool, cond, ◌&&◌, ◌||◌, List, [], ◌∷◌, ◌++◌, eqb, ltb, leb, length, take, drop, replicate}
use Rattle.format.specs.Basics.Bytes.{Bytes, put32, put64}
use Rattle.format.specs.Layout.Geometry.{Geometry}
use Rattle.format.specs.Layout.Need.{cutoff, round_up, mini_need, sector_need}
use Rattle.format.specs.Layout.Chain.{FREE, start_of}
use Rattle.format.specs.Layout.Space.{Space, free_units}
use Rattle.format.specs.Layout.Entry.{start_field, size_field}
use Rattle.format.specs.Layout.Volume.{Volume}
use Rattle.format.specs.Layout.Stream.{space_for, stream_size, stream_units}
use Rattle.format.specs.Calls.Overwrite.{put_chain}

-- ---- when it may

-- a length that needs mini sectors
unfoldable pub small : ℕ → Bool
small n = leb 1 n && ltb n cutoff

-- from a small length to the cutoff or more, or back; 0 is on neither side
unfoldable pub crosses : ℕ → ℕ → Bool
crosses old new = (small old && leb cutoff new) || (leb cutoff old && small new)

-- the occasion of 26: in one of the spaces the need rises by more than are free
unfoldable pub too_few : Geometry → ℕ → ℕ → ℕ → ℕ → Bool
too_few g free_sectors free_minis old new =
    ltb (sector_need g old + free_sectors) (sector_need g new)
    || ltb (mini_need old + free_minis) (mini_need new)

-- ---- cells

unfoldable pub put_cell : Space → Bytes → ℕ → ℕ → Bytes
put_cell sp img u c = put32 img (sp.cell_place u) c

-- the units' cells become free
unfoldable pub release : Space → List ℕ → Bytes → Bytes
release sp [] img = img
release sp (u ∷ us) img = release sp us (put_cell sp img u FREE)

-- each unit's cell names the next unit, the last cell is END
unfoldable pub link : Space → List ℕ → Bytes → Bytes
link sp [] img = img
link sp (u ∷ us) img = link sp us (put_cell sp img u (start_of us))

-- A chain of the units `old` becomes one of the units `new`, where one list begins with the other: what `new` lacks is released; the last
-- unit that stays becomes the chain's last, or names the first unit that is added. Where none stays, `kept - 1` is 0.
unfoldable pub relinked : Space → List ℕ → List ℕ → Bytes → Bytes
relinked sp old new img =
    let kept = min (length old) (length new) in
    link sp (drop (kept - 1) new) (release sp (drop kept old) img)

-- ---- a new length

-- the space that the stream lies in before and after: of two lengths that do not cross the cutoff one is 0, or both lie in one space
unfoldable pub edit_space : Volume → ℕ → ℕ → Space
edit_space v e new = space_for v (max (stream_size v e) new)

-- the units after: as many as the new length needs, of the old ones and then of the free ones, lowest first
unfoldable pub new_units : Volume → ℕ → ℕ → List ℕ
new_units v e new =
    let sp = edit_space v e new in
    take (round_up new sp.unit) (stream_units v e ++ free_units sp)

-- bytes from one place of the units on to their end become zero
unfoldable pub zeroed : Space → List ℕ → Bytes → ℕ → Bytes
zeroed sp us img from = put_chain sp us img from (replicate (length us * sp.unit - from) 0)

-- a longer stream is zero from its old length to the end of its last unit; of a shorter one no data byte changes
unfoldable pub tail_zeroed : Volume → Bytes → ℕ → ℕ → Bytes
tail_zeroed v img e new =
    cond (ltb (stream_size v e) new) (zeroed (edit_space v e new) (new_units v e new) img (stream_size v e)) img

-- Start and size. The start is the first of the units after, so it differs from what it was only from 0 and to 0.
unfoldable pub entry_written : Volume → Bytes → ℕ → ℕ → Bytes
entry_written v img e new =
    put64 (put32 img (v.entry_place e + start_field) (start_of (new_units v e new))) (v.entry_place e + size_field) new

-- cells, data, entry; the old length again changes nothing
unfoldable pub resized : Volume → Bytes → ℕ → ℕ → Bytes
resized v img e new =
    let cells = relinked (edit_space v e new) (stream_units v e) (new_units v e new) img in
    let filled = tail_zeroed v cells e new in
    cond (eqb new (stream_size v e)) img (entry_written v filled e new)
