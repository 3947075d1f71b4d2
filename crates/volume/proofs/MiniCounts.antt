-- How many mini sectors and mini FAT sectors there can be, and the rules on the mini FAT's cells.
use Prim.Native.Nat.{ℕ, ◌*◌, ◌/◌, ◌%◌, ◌≤◌, ◌<◌}
use mathlib.Core.Path.{◌≡◌, refl, sym, ◌∙◌}
use mathlib.Core.Bool.{Bool, true, false}
use native.Mathlib.Nat.{mul-le-mul_right, add-mul}
use native.Mathlib.Omega.{arith}
use lib.Dec.{eqb}
use lib.ListN.{length}
use borrow.Author.Tests.{le-leb, lt-leb}
use Rattle.format.specs.Basics.Lists.{all_below}
use Rattle.format.specs.Basics.Bytes.{Bytes}
use Rattle.format.specs.Layout.Geometry.{Geometry, sector_count, mini_bytes, cells_in}
use Rattle.format.specs.Layout.Need.{round_up}
use Rattle.format.specs.Layout.Chain.{chain}
use Rattle.format.specs.Layout.Space.{chain_for}
use Rattle.format.specs.Layout.Header.{mini_fat_start, mini_fat_count}
use Rattle.format.specs.Layout.Entry.{start}
use Rattle.format.specs.Layout.Directory.{size_of}
use Rattle.format.specs.Layout.Tables.{fat_cell, sector_space}
use Rattle.format.specs.Layout.Volume.{volume, root, root_size, directory, mini_space, mini_cells}
use Rattle.format.specs.Rules.Mini.{mini_fat_chain, mini_stream_chain, mini_cell_right}
use Rattle.theory.proofs.Tests.{both}
use Rattle.theory.proofs.Chains.{chain_short}
use Rattle.theory.proofs.RoundUp.{round_enough}
use Rattle.header.specs.Sized.{ImageSized}
use Rattle.tables.proofs.Places.{cells_short}
use Rattle.minis.specs.Listed.{MiniCounts}
use Rattle.volume.specs.Passed.{mini_cell_rules}

module _ (g : Geometry) (img : Bytes) where
  pub units_are : (mini_space g img).limit ≡ size_of (directory g img) 0 / 64
  unfolding mini_space mini_bytes
  units_are = refl

  -- ---- the chains

  pub mini_fat_chain_lem : mini_fat_chain (volume g img) ≡ true → chain (fat_cell g img) (sector_count g img) (mini_fat_count img) (mini_fat_start img) ≡ true
  unfolding mini_fat_chain volume sector_space
  mini_fat_chain_lem h = h

  pub mini_stream_chain_lem : mini_stream_chain (volume g img) ≡ true
      → chain (fat_cell g img) (sector_count g img) (round_up (size_of (directory g img) 0) g.sector_bytes) (start ((directory g img).entry 0)) ≡ true
  unfolding mini_stream_chain volume root root_size chain_for sector_space
  mini_stream_chain_lem h = (both (eqb (size_of (directory g img) 0 % mini_bytes) 0) (chain (fat_cell g img) (sector_count g img) (round_up (size_of (directory g img) 0) g.sector_bytes) (start ((directory g img).entry 0))) h).1

  module _ (z : ImageSized g img) where
    pub table_short : mini_fat_chain (volume g img) ≡ true → mini_fat_count img ≤ sector_count g img
    table_short h = chain_short (fat_cell g img) (sector_count g img) (omega (arith, z.few)) (mini_fat_count img) (mini_fat_start img) (mini_fat_chain_lem h)

    -- its cells take no more bytes than the image has
    pub table_cells : mini_fat_chain (volume g img) ≡ true → 4 * (cells_in g * mini_fat_count img) ≤ length img
    table_cells h = cells_short z (mini_fat_count img) (table_short h)

    pub stream_short : mini_stream_chain (volume g img) ≡ true → round_up (size_of (directory g img) 0) g.sector_bytes ≤ sector_count g img
    stream_short h = chain_short (fat_cell g img) (sector_count g img) (omega (arith, z.few)) _ _ (mini_stream_chain_lem h)

    -- the mini sectors lie in the sectors of the mini stream
    pub minis_few : mini_stream_chain (volume g img) ≡ true → (mini_space g img).limit ≤ 8 * (length img / 512)
    minis_few h =
        let w = z.wide in
        let a = round_enough (size_of (directory g img) 0) g.sector_bytes (omega arith) in
        let b = mul-le-mul_right g.sector_bytes (stream_short h) in
        let c = z.long ∙ add-mul (sector_count g img) 1 g.sector_bytes in
        omega (arith, units_are, a, b, c, w)

    pub mini_counts : (k : ℕ) → mini_fat_chain (volume g img) ≡ true → mini_stream_chain (volume g img) ≡ true → k ≡ (mini_space g img).limit → k ≤ cells_in g * mini_fat_count img → MiniCounts g img k
    mini_counts k f s e h = record { count = e; few = omega (arith, minis_few s); covers = h; chained = mini_fat_chain_lem f }

  -- ---- the rules on cells

  pub cells_too_few : cells_in g * mini_fat_count img < (mini_space g img).limit → mini_cell_rules (volume g img) ≡ false
  unfolding mini_cell_rules volume mini_space mini_cells
  cells_too_few h = rw (lt-leb (mini_space g img).limit (cells_in g * mini_fat_count img) h)

  pub cells_by_rules : (mini_space g img).limit ≤ cells_in g * mini_fat_count img → {r : Bool} → r ≡ all_below (mini_space g img).limit (mini_cell_right (mini_space g img)) → mini_cell_rules (volume g img) ≡ r
  unfolding mini_cell_rules volume mini_space mini_cells
  cells_by_rules h e = rw (le-leb (mini_space g img).limit (cells_in g * mini_fat_count img) h) (sym e)
