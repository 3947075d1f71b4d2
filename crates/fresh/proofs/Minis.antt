-- The mini FAT and the mini stream of a fresh image: their chains, and the mini cells.
use Prim.Native.Nat.{ℕ, ◌+◌, ◌*◌, ◌%◌, ◌<◌}
use mathlib.Core.Path.{◌≡◌, ap}
use native.Mathlib.Nat.{mul-div_cancel_left}
use native.Mathlib.Omega.{arith}
use native.Mathlib.Decide.{dec_lt}
use borrow.Author.Tests.{lt-ltb, le-ltb}
use Rattle.format.specs.Basics.Bytes.{Bytes}
use Rattle.format.specs.Layout.Geometry.{Geometry, mini_bytes, cells_in, sector_count}
use Rattle.format.specs.Layout.Chain.{FREE}
use Rattle.format.specs.Layout.Space.{units_for}
use Rattle.format.specs.Layout.Directory.{size_of}
use Rattle.format.specs.Layout.Tables.{fat_cell, sector_space, cell_in}
use Rattle.format.specs.Layout.Volume.{directory, mini_fat_sectors, mini_stream_sectors, mini_cells, mini_space}
use Rattle.theory.specs.Links.{Linked}
use Rattle.frame.specs.Kept.{Sized}
use Rattle.format.specs.Fresh.Plan.{Plan, mini_fat_from, mini_stream_from, spare_from, mini_stream_bytes, mini_stream_part}
use Rattle.format.specs.Fresh.Image.{mini_number, mini_fat_block, fresh_sector, fresh_image}
use Rattle.fresh.specs.Facts.{Headed, Planned}
use Rattle.fresh.specs.Run.{run}
use Rattle.fresh.proofs.Numbers.{Order, order}
use Rattle.fresh.proofs.Blocks.{mini_fat_sector}
use Rattle.fresh.proofs.Header.{mini_fat_start_lem, mini_fat_count_lem}
use Rattle.fresh.proofs.Cells.{cell_mini_fat, cell_stream}
use Rattle.fresh.proofs.Places.{cell_read}
use Rattle.fresh.proofs.Directory.{part_linked, part_units, root_starts, root_has}

module _ (g : Geometry) (p : Plan) (h : Headed g) (q : Planned g p) where
  abbrev z : Sized g
  z = h.sized

  abbrev img : Bytes
  img = fresh_image g p

  abbrev o : Order g p z q
  o = order g p z q

  -- ---- the mini FAT

  pub mini_fat_linked : Linked (fat_cell g img) (sector_count g img) (run (mini_fat_from g p) p.mini_fat)
  mini_fat_linked =
      part_linked g p h q (mini_fat_from g p) p.mini_fat (mini_stream_from g p) (omega (arith, o)) (omega (arith, o)) (cell_mini_fat g p z q)

  pub mini_fat_sectors_are : mini_fat_sectors g img ≡ run (mini_fat_from g p) p.mini_fat
  unfolding mini_fat_sectors
  mini_fat_sectors_are =
      rw (mini_fat_count_lem g p h q, mini_fat_start_lem g p h q) (part_units g p h q (mini_fat_from g p) p.mini_fat mini_fat_linked).1

  pub mini_cells_are : mini_cells g img ≡ cells_in g * p.mini_fat
  unfolding mini_cells
  mini_cells_are = ap (λ n. cells_in g * n) (mini_fat_count_lem g p h q)

  pub mini_cell_free : (s : ℕ) → (mini_space g img).cell s ≡ FREE
  unfolding mini_space cell_in mini_fat_block mini_number
  mini_cell_free s =
      rw (mini_cells_are, mini_fat_sectors_are)
      (elim (dec_lt s (cells_in g * p.mini_fat)) [
        | yes a ↦
            rw (lt-ltb s (cells_in g * p.mini_fat) a)
            (cell_read g p z (λ i. FREE) (mini_fat_from g p) p.mini_fat s blocks (omega (arith, o)) a (omega arith))
        | no a ↦ rw (le-ltb s (cells_in g * p.mini_fat) (omega arith))
      ])
    where
      blocks : (j : ℕ) → j < p.mini_fat → fresh_sector g p (mini_fat_from g p + j) ≡ mini_fat_block g
      blocks = mini_fat_sector g p z q

  -- ---- the mini stream

  pub mini_stream_linked : Linked (fat_cell g img) (sector_count g img) (run (mini_stream_from g p) (mini_stream_part g p))
  mini_stream_linked =
      part_linked g p h q (mini_stream_from g p) (mini_stream_part g p) (spare_from g p) (omega (arith, o)) (omega (arith, o)) (cell_stream g p z q)

  pub mini_stream_sectors_are : mini_stream_sectors g img ≡ run (mini_stream_from g p) (mini_stream_part g p)
  unfolding mini_stream_sectors units_for sector_space mini_stream_part
  mini_stream_sectors_are =
      rw (root_has g p h q, root_starts g p h q) (part_units g p h q (mini_stream_from g p) (mini_stream_part g p) mini_stream_linked).1

  -- K mini sectors
  pub mini_limit_lem : (mini_space g img).limit ≡ p.minis
  unfolding mini_space mini_bytes mini_stream_bytes
  mini_limit_lem = rw (root_has g p h q) (mul-div_cancel_left p.minis {n = 64} (omega arith))

  pub root_whole : size_of (directory g img) 0 % mini_bytes ≡ 0
  unfolding mini_bytes mini_stream_bytes
  root_whole = rw (root_has g p h q) (omega arith)
