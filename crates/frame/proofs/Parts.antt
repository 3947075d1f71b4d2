-- All that the views of two images share, where only the sectors T were written.
use mathlib.Core.Path.{◌≡◌, refl, sym, ap, ◌∙◌}
use mathlib.Core.List.{List}
use Prim.Native.Nat.{ℕ, ◌+◌, ◌*◌, ◌/◌, ◌%◌, ◌≤◌, ◌<◌}
use native.Mathlib.Nat.{add-zero, mul_comm}
use native.Mathlib.Omega.{arith}
use lib.Dec.{eqb}
use lib.ListN.{length, get_or}
use Rattle.format.specs.Basics.Lists.{count}
use Rattle.format.specs.Basics.Bytes.{Bytes, part}
use Rattle.format.specs.Layout.Geometry.{Geometry, place_in, cells_in, mini_bytes, sector_count, size_width}
use Rattle.format.specs.Layout.Need.{round_up}
use Rattle.format.specs.Layout.Header.{fat_count, mini_fat_count, directory_start, mini_fat_start}
use Rattle.format.specs.Layout.Chain.{FATSECT, DIFSECT}
use Rattle.format.specs.Layout.Space.{units_for, block}
use Rattle.format.specs.Layout.Tables.{cell_in, fat_sectors, difat_sectors, fat_cells, fat_cell, sector_space}
use Rattle.format.specs.Layout.Entry.{size, start}
use Rattle.format.specs.Layout.Directory.{directory_sectors, directory_of, entry_in, entry_count, size_of}
use Rattle.format.specs.Layout.Volume.{volume, system_sectors, mini_space, mini_cells, directory_sectors_of, mini_fat_sectors, mini_stream_sectors, directory, root}
use Rattle.theory.proofs.Counts.{count_at}
use Rattle.theory.proofs.Chains.{length_units, follow_agree, units_agree}
use Rattle.frame.specs.Kept.{Sized, Kept, Off, Table}
use Rattle.frame.specs.Edits.{SameParts, Preserved}
use Rattle.frame.proofs.Kept.{part_body, place_in_lem, place_eq}
use Rattle.frame.proofs.Places.{thing_fits, thing_index}
use Rattle.frame.proofs.Things.{thing_far, thing_room}
use Rattle.frame.proofs.Blocks.{Units}
use Rattle.frame.proofs.Sound.{Sound, sys_count}
use Rattle.frame.proofs.Views.{kept_cell, kept_sector_count, kept_directory_count, kept_directory_start, kept_mini_fat_start, kept_mini_fat_count, kept_fat_cells, kept_fat, kept_difat, kept_header, kept_tables}
use Rattle.theory.proofs.Below.{length_below}
use Rattle.frame.specs.Groups.{ImageGroups}
use Rattle.theory.proofs.RoundUp.{round_enough}

-- ---- the tables of one image

pub fat_cells_is : (g : Geometry) (img : Bytes) → fat_cells g img ≡ cells_in g * length (fat_sectors g img)
unfolding fat_cells fat_sectors
fat_cells_is g img = rw (length_below (fat_count img))

pub fat_cell_is : (g : Geometry) (img : Bytes) (s : ℕ) → fat_cell g img s ≡ cell_in g img (fat_sectors g img) (cells_in g * length (fat_sectors g img)) s
unfolding fat_cell
fat_cell_is g img s = ap (λ (n : ℕ). cell_in g img (fat_sectors g img) n s) (fat_cells_is g img)

pub mini_cells_is : (g : Geometry) (img : Bytes) → mini_cells g img ≡ cells_in g * length (mini_fat_sectors g img)
unfolding mini_cells mini_fat_sectors
mini_cells_is g img = rw (length_units (fat_cell g img) (mini_fat_count img) (mini_fat_start img))

pub mini_cell_is : (g : Geometry) (img : Bytes) (s : ℕ) → (volume g img).minis.cell s ≡ cell_in g img (mini_fat_sectors g img) (cells_in g * length (mini_fat_sectors g img)) s
unfolding volume mini_space
mini_cell_is g img s = ap (λ (n : ℕ). cell_in g img (mini_fat_sectors g img) n s) (mini_cells_is g img)

module _ (g : Geometry) (z : Sized g) (img : Bytes) (A : Sound g img) where
  abbrev sys : List ℕ
  sys = system_sectors (volume g img)

  pub table_of : (secs : List ℕ) → ((s : ℕ) → count s secs ≤ count s sys) → Table g (length img) secs
  table_of secs h =
      record {
        once = λ s. omega (arith, h s, A.once s);
        room = λ s q. rw A.long (place_in_lem g (sector_count g img) s g.sector_bytes (A.below s (omega (arith, h s))) (omega arith));
      }

  pub fat_in : (s : ℕ) → count s (fat_sectors g img) ≤ count s sys
  unfolding volume
  fat_in s = omega (arith, sys_count (volume g img) s)

  pub difat_in_lem : (s : ℕ) → count s (difat_sectors g img) ≤ count s sys
  unfolding volume
  difat_in_lem s = omega (arith, sys_count (volume g img) s)

  pub dirs_in : (s : ℕ) → count s (directory_sectors_of g img) ≤ count s sys
  unfolding volume
  dirs_in s = omega (arith, sys_count (volume g img) s)

  pub mini_fat_in : (s : ℕ) → count s (mini_fat_sectors g img) ≤ count s sys
  unfolding volume
  mini_fat_in s = omega (arith, sys_count (volume g img) s)

  pub mini_stream_in : (s : ℕ) → count s (mini_stream_sectors g img) ≤ count s sys
  unfolding volume
  mini_stream_in s = omega (arith, sys_count (volume g img) s)

  -- the five lists of the system do not meet
  pub system_apart : (s : ℕ) → count s (fat_sectors g img) + count s (difat_sectors g img) + count s (directory_sectors_of g img) + count s (mini_fat_sectors g img) + count s (mini_stream_sectors g img) ≤ 1
  unfolding volume
  system_apart s = omega (arith, sys_count (volume g img) s, A.once s)

  pub sector_units : Units (volume g img).sectors (length img)
  unfolding volume sector_space
  sector_units =
      record {
        some = let w = z.wide in omega arith;
        far = λ x y i j n hx hy hi hj q. n (place_eq g x y i j hi hj q).0;
        room = λ x hx. rw A.long (place_in_lem g (sector_count g img) x g.sector_bytes hx (omega arith));
      }

  pub minis_in_sector : g.sector_bytes ≡ g.sector_bytes / 64 * 64
  minis_in_sector = let e = z.even in omega arith

  pub sector_some : 0 < g.sector_bytes
  sector_some = let w = z.wide in omega arith

  -- every mini sector lies in the mini stream
  pub mini_index : (m : ℕ) → m < (volume g img).minis.limit → m < g.sector_bytes / 64 * length (mini_stream_sectors g img)
  unfolding volume mini_space mini_stream_sectors units_for sector_space mini_bytes root
  mini_index m h =
      let r = (directory g img).entry 0 in
      let R = round_up (size_of (directory g img) 0) g.sector_bytes in
      let a = round_enough (size_of (directory g img) 0) g.sector_bytes sector_some in
      let b = A.root_size in
      let c : g.sector_bytes * R ≡ g.sector_bytes / 64 * R * 64 = omega (arith, ap (λ (n : ℕ). n * R) minis_in_sector) in
      rw (length_units (fat_cell g img) R (start r)) (omega (arith, a, b, c, h, mul_comm g.sector_bytes R))

  pub mini_units : Units (volume g img).minis (length img)
  unfolding volume mini_space mini_bytes
  mini_units =
      record {
        some = omega arith;
        far = λ x y i j n hx hy hi hj.
            thing_far g 64 (g.sector_bytes / 64) minis_in_sector sector_some (length img) (mini_stream_sectors g img) (table_of (mini_stream_sectors g img) mini_stream_in) x y i j n (mini_index x hx) (mini_index y hy) hi hj;
        room = λ x hx. thing_room g 64 (g.sector_bytes / 64) minis_in_sector sector_some (length img) (mini_stream_sectors g img) (table_of (mini_stream_sectors g img) mini_stream_in) x (mini_index x hx);
      }

-- ---- two images

pub mini_place : (g : Geometry) (z : Sized g) (c : Bytes) (A : Sound g c) (T : List ℕ) (a b : Bytes) (x : Kept g (Off T) a b)
    → ((s : ℕ) → 0 < count s (mini_stream_sectors g c) → count s T ≡ 0) → (u : ℕ) → u < (volume g c).minis.limit
    → block (volume g c).minis b u ≡ block (volume g c).minis a u
unfolding block volume mini_space place_in mini_bytes
mini_place g z c A T a b x o u h =
    let l = mini_stream_sectors g c in
    let k = 64 * u / g.sector_bytes in
    let p = count_at l k 0 (thing_index g.sector_bytes 64 (g.sector_bytes / 64) (minis_in_sector g z c A) (sector_some g z c A) (length l) u (mini_index g z c A u h)) in
    part_body g (Off T) a b x (get_or l k 0) (64 * u % g.sector_bytes) 64 (thing_fits g.sector_bytes 64 (g.sector_bytes / 64) (minis_in_sector g z c A) (sector_some g z c A) u) (λ i q. o (get_or l k 0) p)

pub sector_place_lem : (g : Geometry) (c : Bytes) (T : List ℕ) (a b : Bytes) (x : Kept g (Off T) a b) (u : ℕ) → count u T ≡ 0 → block (volume g c).sectors b u ≡ block (volume g c).sectors a u
unfolding block volume sector_space
sector_place_lem g c T a b x u h = rw add-zero at (part_body g (Off T) a b x u 0 g.sector_bytes (omega arith) (λ i l. h))

pub entry_is : (g : Geometry) (a : Bytes) (i : ℕ) → (volume g a).directory.entry i ≡ entry_in g a (directory_sectors_of g a) i
unfolding volume directory directory_of
entry_is g a i = refl

pub entry_count_is : (g : Geometry) (a : Bytes) → (volume g a).directory.count ≡ entry_count g (directory_sectors_of g a)
unfolding volume directory directory_of
entry_count_is g a = refl

-- start and size of the root stay, of which the mini stream is
abbrev pub RootKept : Geometry → Bytes → Bytes → Type 0
RootKept g a b =
    (start (entry_in g b (directory_sectors_of g a) 0) ≡ start (entry_in g a (directory_sectors_of g a) 0))
    × (size (size_width g) (entry_in g b (directory_sectors_of g a) 0) ≡ size (size_width g) (entry_in g a (directory_sectors_of g a) 0))

pub root_kept : (g : Geometry) (a b : Bytes) → entry_in g b (directory_sectors_of g a) 0 ≡ entry_in g a (directory_sectors_of g a) 0 → RootKept g a b
root_kept g a b e = (ap start e, ap (size (size_width g)) e)

module _ (g : Geometry) (z : Sized g) (T : List ℕ) (a b : Bytes) (x : Kept g (Off T) a b) (A : Sound g a)
    (off : (s : ℕ) → 0 < count s (difat_sectors g a) → count s T ≡ 0) where
  pub kept_fat_cell : ((s : ℕ) → 0 < count s (fat_sectors g a) → count s T ≡ 0) → (s : ℕ) → fat_cell g b s ≡ fat_cell g a s
  kept_fat_cell off_fat s =
      fat_cell_is g b s ∙ ap (λ (l : List ℕ). cell_in g b l (cells_in g * length l) s) (kept_fat g z T a b x A.needs off)
      ∙ kept_cell g z T a b x (fat_sectors g a) off_fat s ∙ sym (fat_cell_is g a s)

  pub sector_block : (u : ℕ) → count u T ≡ 0 → block (volume g b).sectors b u ≡ block (volume g a).sectors a u
  unfolding block volume sector_space
  sector_block u h = rw add-zero at (part_body g (Off T) a b x u 0 g.sector_bytes (omega arith) (λ i l. h))

  module _ (cells : (s : ℕ) → 0 < count s (directory_sectors_of g a) + count s (mini_fat_sectors g a) + count s (mini_stream_sectors g a) → fat_cell g b s ≡ fat_cell g a s)
      (entry0 : RootKept g a b) where
    pub kept_dirs : directory_sectors_of g b ≡ directory_sectors_of g a
    unfolding directory_sectors_of directory_sectors sector_space
    kept_dirs =
        rw (kept_sector_count g z T a b x, kept_directory_start g z T a b x)
        (follow_agree (fat_cell g a) (fat_cell g b) (sector_count g a) (sector_count g a) (directory_start a) (λ s q. cells s (omega arith)))

    pub kept_entry : (i : ℕ) → entry_in g b (directory_sectors_of g a) i ≡ entry_in g a (directory_sectors_of g a) i → (volume g b).directory.entry i ≡ (volume g a).directory.entry i
    unfolding volume directory directory_of
    kept_entry i e = rw kept_dirs e

    pub entry_at : (i : ℕ) → (volume g b).directory.entry i ≡ entry_in g b (directory_sectors_of g a) i
    entry_at i = entry_is g b i ∙ ap (λ (l : List ℕ). entry_in g b l i) kept_dirs

    kept_start : start ((directory g b).entry 0) ≡ start ((directory g a).entry 0)
    unfolding directory directory_of
    kept_start = rw kept_dirs entry0.0

    pub kept_mini_fat : mini_fat_sectors g b ≡ mini_fat_sectors g a
    unfolding mini_fat_sectors
    kept_mini_fat =
        rw (kept_mini_fat_count g z T a b x, kept_mini_fat_start g z T a b x)
        (units_agree (fat_cell g a) (fat_cell g b) (mini_fat_count a) (mini_fat_start a) (λ s q. cells s (omega arith)))

    kept_size : size_of (directory g b) 0 ≡ size_of (directory g a) 0
    unfolding size_of directory directory_of
    kept_size = rw kept_dirs entry0.1

    pub kept_mini_stream : mini_stream_sectors g b ≡ mini_stream_sectors g a
    unfolding mini_stream_sectors units_for sector_space
    kept_mini_stream =
        rw (kept_size, kept_start)
        (units_agree (fat_cell g a) (fat_cell g b) (round_up (size_of (directory g a) 0) g.sector_bytes) (start ((directory g a).entry 0)) (λ s q. cells s (omega arith)))

    pub kept_parts : SameParts (volume g a) (volume g b)
    unfolding volume sector_space mini_space mini_cells directory directory_of
    kept_parts =
        record {
          fat = kept_fat g z T a b x A.needs off;
          difat = kept_difat g z T a b x A.needs off;
          directory_sectors = kept_dirs;
          mini_fat = kept_mini_fat;
          mini_stream = kept_mini_stream;
          geometry = refl;
          directory_count = kept_directory_count g z T a b x;
          directory_start = kept_directory_start g z T a b x;
          mini_fat_start = kept_mini_fat_start g z T a b x;
          mini_fat_count = kept_mini_fat_count g z T a b x;
          entry_count = ap (entry_count g) kept_dirs;
          size_width = refl;
          sector_limit = kept_sector_count g z T a b x;
          sector_cells = kept_fat_cells g z T a b x;
          sector_unit = refl;
          mini_limit = ap (λ (n : ℕ). n / mini_bytes) kept_size;
          mini_cells = ap (λ (n : ℕ). cells_in g * n) (kept_mini_fat_count g z T a b x);
          mini_unit = refl;
        }

    -- the mini FAT's cells are those at its old sectors
    pub mini_cell_at : (s : ℕ) → (volume g b).minis.cell s ≡ cell_in g b (mini_fat_sectors g a) (cells_in g * length (mini_fat_sectors g a)) s
    mini_cell_at s = mini_cell_is g b s ∙ ap (λ (l : List ℕ). cell_in g b l (cells_in g * length l) s) kept_mini_fat

    pub kept_mini_cell : ((s : ℕ) → 0 < count s (mini_fat_sectors g a) → count s T ≡ 0) → (s : ℕ) → (volume g b).minis.cell s ≡ (volume g a).minis.cell s
    kept_mini_cell o s = mini_cell_at s ∙ kept_cell g z T a b x (mini_fat_sectors g a) o s ∙ sym (mini_cell_is g a s)

    -- a mini sector's bytes in the new image are those at its old place
    pub mini_block_at : (u : ℕ) → block (volume g b).minis b u ≡ block (volume g a).minis b u
    unfolding block volume mini_space
    mini_block_at u = ap (λ (l : List ℕ). part b (place_in g l (mini_bytes * u)) mini_bytes) kept_mini_stream

    pub mini_block : ((s : ℕ) → 0 < count s (mini_stream_sectors g a) → count s T ≡ 0) → (u : ℕ) → u < (volume g a).minis.limit
        → block (volume g b).minis b u ≡ block (volume g a).minis a u
    mini_block o u h = mini_block_at u ∙ same_place
      where
        same_place : block (volume g a).minis b u ≡ block (volume g a).minis a u
        same_place = mini_place g z a A T a b x o u h

    pub preserved : ImageGroups g a → ((s : ℕ) → s < sector_count g a → (eqb (fat_cell g b s) FATSECT ≡ eqb (fat_cell g a s) FATSECT) × (eqb (fat_cell g b s) DIFSECT ≡ eqb (fat_cell g a s) DIFSECT))
        → Preserved g a b
    preserved G marks =
        record {
          length = x.size;
          header = kept_header g z T a b x ∙ G.header;
          tables = kept_tables g z T a b x A.needs off marks ∙ G.tables;
          parts = kept_parts;
        }
