-- The two tables freed by the marks are what the fourth step leaves.
use Prim.Native.Nat.{ℕ, ◌*◌, ◌≤◌, ◌<◌}
use mathlib.Core.Path.{◌≡◌, sym, ap, ◌∙◌}
use mathlib.Core.Bool.{true}
use mathlib.Core.List.{List}
use native.Mathlib.Omega.{arith}
use lib.ListN.{length}
use borrow.Author.Tests.{lt-ltb}
use Rattle.format.specs.Basics.Bytes.{Bytes, u32at}
use Rattle.format.specs.Basics.Lists.{all_below, pick_below}
use Rattle.format.specs.Layout.Geometry.{Geometry, cells_in}
use Rattle.format.specs.Layout.Tables.{cell_in}
use Rattle.format.specs.Layout.Volume.{volume, mini_fat_sectors, mini_cells, mini_space}
use Rattle.format.specs.Rules.Mini.{mini_cell_right}
use Rattle.format.specs.Rules.Owners.{owned_sectors, owned_minis}
use Rattle.format.specs.Calls.SetLength.{release}
use Rattle.format.specs.Calls.RepairSteps.{unowned_freed_in, unowned_freed}
use Rattle.frame.proofs.Parts.{mini_cells_is, mini_cell_is}
use Rattle.frame.proofs.Change.{minis_place}
use Rattle.kinds.specs.Sizes.{geometry_of}
use Rattle.header.specs.Sized.{F}
use Rattle.tables.specs.Views.{volume_of}
use Rattle.minis.specs.Listed.{MiniListed, minis_of}
use Rattle.minis.specs.declared.Minis.{Minis}
use Rattle.minis.proofs.ListLaws.{cells_cover}
use Rattle.volume.specs.declared.mini_stage.System.{System}
use Rattle.repair_laws.specs.Tables.{Tabled}
use Rattle.repair_laws.proofs.Tabled.{tabled_of}
use Rattle.repair_laws.proofs.Freeing.{between_mini}
use Rattle.repair_writes.specs.Cells.{cell_byte, table_in, TableRoom, CellsApart, may_free}
use Rattle.repair_writes.proofs.Tables.{fat_room, fat_apart, mini_place, mini_room, mini_sized_lem, mini_chain, mini_apart}
use Rattle.repair_writes.proofs.Owners.{sectors_freed, minis_freed}
use Rattle.repair_owners.specs.Streams.{StreamsMarked}

-- ---- the mini FAT's cells, when the FAT's are freed

module _ {m : Minis} {img : Bytes} {work : List ℕ} (l : MiniListed m img work) (t : Tabled (geometry_of m.geometry) img) where
  abbrev gm : Geometry
  gm = geometry_of m.geometry

  abbrev mf : List ℕ
  mf = mini_fat_sectors (geometry_of m.geometry) img

  room : (volume gm img).minis.limit ≤ (volume gm img).minis.cells
  unfolding volume mini_space mini_cells
  room = omega (arith, l.counts.count, l.counts.covers)

  many : m.units ≤ cells_in gm * length mf
  unfolding mini_cells
  many = omega (arith, l.counts.covers, mini_cells_is gm img)

  read : (b : Bytes) (u : ℕ) → u < m.units → u32at b (cell_byte gm work m.list u) ≡ cell_in gm b mf (cells_in gm * length mf) u
  unfolding cell_in volume
  read b u h =
      ap (u32at b) (mini_place l u (omega (arith, cells_cover l)) ∙ minis_place gm img u) ∙ sym (rw (lt-ltb u (cells_in gm * length mf) (omega (arith, many))))

  -- stay
  cells_stay : (u : ℕ) → u < m.units
      → u32at (unowned_freed_in (volume_of m.geometry img).sectors (owned_sectors (volume_of m.geometry img)) img) (cell_byte gm work m.list u) ≡ (minis_of m img).cell u
  unfolding unowned_freed_in volume
  cells_stay u h = read _ u h ∙ between_mini gm (mini_sized_lem l) img t (mini_chain l) room u ∙ sym (mini_cell_is gm img u)

-- ---- the two calls

module _ (s : System) {img : Bytes} {work : List ℕ} (h : StreamsMarked s img work) where
  abbrev g : Geometry
  g = geometry_of s.tables.geometry

  abbrev gs : Geometry
  gs = geometry_of s.minis.geometry

  tables : Tabled g img
  tables = let f = h.lists.mini.fat.sized in tabled_of g img f.long f.few h.lists.mini.tables

  mini_tables_lem : Tabled gs img
  mini_tables_lem = rw h.lists.same tables

  fats_few : s.tables.sectors ≤ cells_in g * F img
  fats_few = omega (arith, h.lists.mini.fat.count, h.lists.mini.fat.covers)

  pub sector_room : TableRoom g work s.tables.list (length img) s.tables.sectors
  sector_room u l = fat_room h.lists.mini.fat u (omega (arith, fats_few))

  pub sectors_apart : CellsApart g work s.tables.list s.tables.sectors
  sectors_apart x y i j q hx hy = fat_apart h.lists.mini.fat tables x y i j q (omega (arith, fats_few)) (omega (arith, fats_few))

  pub mini_cells_room : (b : Bytes) → length b ≡ length img → TableRoom gs work s.minis.list (length b) s.minis.units
  mini_cells_room b e u l = rw e (mini_room h.lists.minis u (omega (arith, cells_cover h.lists.minis)))

  pub minis_apart : CellsApart gs work s.minis.list s.minis.units
  minis_apart x y i j q hx hy =
      let c = cells_cover h.lists.minis in
      mini_apart h.lists.minis mini_tables_lem x y i j q (omega arith) (omega arith)

  -- the image between them
  abbrev between : Bytes
  between = unowned_freed_in (volume_of s.minis.geometry img).sectors (owned_sectors (volume_of s.minis.geometry img)) img

  between_is : (b : Bytes)
      → b ≡ release (table_in g work s.tables.list s.tables.sectors s.tables.sectors) (pick_below s.tables.sectors (may_free g work s.tables.list 0 img)) img
      → b ≡ between
  unfolding volume
  between_is b e =
      e ∙ sym (sectors_freed h.lists.mini.fat tables 0 h.sectors)
      ∙ ap (λ q. unowned_freed_in (volume_of q img).sectors (owned_sectors (volume_of q img)) img) (sym h.lists.same)

  module _ (r : all_below (minis_of s.minis img).limit (mini_cell_right (minis_of s.minis img)) ≡ true) where
    pub freed_is : (b c : Bytes)
        → b ≡ release (table_in g work s.tables.list s.tables.sectors s.tables.sectors) (pick_below s.tables.sectors (may_free g work s.tables.list 0 img)) img
        → c ≡ release (table_in gs work s.minis.list s.minis.units s.minis.units) (pick_below s.minis.units (may_free gs work s.minis.list s.tables.sectors b)) b
        → c ≡ unowned_freed (volume_of s.tables.geometry img) img
    unfolding unowned_freed volume
    freed_is b c e f =
        rw (between_is b e) at f
        ∙ sym (minis_freed h.lists.minis s.tables.sectors (rw h.lists.mini.fat.count h.minis) r between (cells_stay h.lists.minis mini_tables_lem))
        ∙ ap (λ q. unowned_freed_in (volume_of q img).minis (owned_minis (volume_of q img)) (unowned_freed_in (volume_of q img).sectors (owned_sectors (volume_of q img)) img)) h.lists.same
