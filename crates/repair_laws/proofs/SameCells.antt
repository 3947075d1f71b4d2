-- An accepted image whose FAT and mini FAT are written, and whose cells read as before, shows what it showed: it stays accepted.
use Prim.Native.Nat.{ℕ, ◌+◌, ◌*◌, ◌<◌}
use mathlib.Core.Path.{◌≡◌, sym, ap, ap₂, ◌∙◌, fun_ext}
use mathlib.Core.Logic.{inl}
use mathlib.Core.List.{List, ◌++◌}
use native.Mathlib.Omega.{arith}
use lib.Dec.{eqb}
use lib.ListN.{length}
use Rattle.format.specs.Basics.Lists.{count}
use Rattle.format.specs.Basics.Bytes.{Bytes}
use Rattle.format.specs.Layout.Geometry.{Geometry, cells_in, size_width}
use Rattle.format.specs.Layout.Chain.{FATSECT, DIFSECT}
use Rattle.format.specs.Layout.Tables.{fat_sectors, difat_sectors, fat_cell, cell_in}
use Rattle.format.specs.Layout.Entry.{is_stream, start}
use Rattle.format.specs.Layout.Directory.{Directory, directory_of, entry_in, size_of}
use Rattle.format.specs.Layout.Stream.{stream_size}
use Rattle.format.specs.Layout.Volume.{volume, directory, directory_sectors_of, mini_fat_sectors, mini_stream_sectors, root, root_size}
use Rattle.format.specs.Rules.Entries.{entry_rules}
use Rattle.format.specs.Rules.Trees.{tree_rules}
use Rattle.format.specs.Rules.Verdict.{Accepted}
use Rattle.theory.proofs.Counts.{count_append}
use Rattle.frame.specs.Kept.{Sized, Kept, Off}
use Rattle.frame.specs.Good.{Good}
use Rattle.frame.specs.Groups.{ImageGroups}
use Rattle.frame.specs.Redraw.{IsRedrawn, SameStream}
use Rattle.frame.proofs.Accepted.{accepted_kept}
use Rattle.frame.proofs.Good.{accepted_good}
use Rattle.frame.proofs.Sound.{Sound, sound_of}
use Rattle.frame.proofs.Parts.{RootKept, root_kept, fat_in, mini_fat_in, system_apart, preserved, kept_entry, mini_cell_at, mini_cell_is, sector_block, mini_block}
use Rattle.frame.proofs.Streams.{kept_entry_in}
use Rattle.frame.proofs.Writing.{sector_cell}
use Rattle.frame.proofs.RedrawnGood.{redrawn_good, redrawn_accepted}

module _ (g : Geometry) (z : Sized g) (A B : Bytes) (acc : Accepted g A) (x : Kept g (Off (fat_sectors g A ++ mini_fat_sectors g A)) A B)
    (cell : (s : ℕ) → fat_cell g B s ≡ fat_cell g A s)
    (mini : (m : ℕ) → cell_in g B (mini_fat_sectors g A) (cells_in g * length (mini_fat_sectors g A)) m ≡ cell_in g A (mini_fat_sectors g A) (cells_in g * length (mini_fat_sectors g A)) m) where
  abbrev T : List ℕ
  T = fat_sectors g A ++ mini_fat_sectors g A

  groups : ImageGroups g A
  groups = accepted_kept g A acc

  sound : Sound g A
  sound = sound_of g z A groups

  counted : (s : ℕ) → count s T ≡ count s (fat_sectors g A) + count s (mini_fat_sectors g A)
  counted s = count_append s (fat_sectors g A) (mini_fat_sectors g A)

  off_difat_lem : (s : ℕ) → 0 < count s (difat_sectors g A) → count s T ≡ 0
  off_difat_lem s q = omega (arith, system_apart g z A sound s, counted s)

  off_dirs_lem : (s : ℕ) → 0 < count s (directory_sectors_of g A) → count s T ≡ 0
  off_dirs_lem s q = omega (arith, system_apart g z A sound s, counted s)

  off_stream : (s : ℕ) → 0 < count s (mini_stream_sectors g A) → count s T ≡ 0
  off_stream s q = omega (arith, system_apart g z A sound s, counted s)

  entry_there : (i : ℕ) → entry_in g B (directory_sectors_of g A) i ≡ entry_in g A (directory_sectors_of g A) i
  entry_there = kept_entry_in g z T A B x (directory_sectors_of g A) off_dirs_lem

  root_there : RootKept g A B
  root_there = root_kept g A B (entry_there 0)

  cells : (s : ℕ) → 0 < count s (directory_sectors_of g A) + count s (mini_fat_sectors g A) + count s (mini_stream_sectors g A) → fat_cell g B s ≡ fat_cell g A s
  cells s q = cell s

  pub same_redrawn : IsRedrawn g A B
  same_redrawn =
      record {
        kept = preserved g z T A B x sound off_difat_lem cells root_there groups (λ s l. (ap (λ (c : ℕ). eqb c FATSECT) (cell s), ap (λ (c : ℕ). eqb c DIFSECT) (cell s)));
        sector_cells = λ u. sector_cell g B u ∙ cell u ∙ sym (sector_cell g A u);
        mini_cells = λ m. mini_cell_at g z T A B x sound off_difat_lem cells root_there m ∙ mini m ∙ sym (mini_cell_is g A m);
        sector_bytes = λ u q. sector_block g z T A B x sound off_difat_lem u (omega (arith, counted u, fat_in g z A sound u, mini_fat_in g z A sound u, system_apart g z A sound u));
        mini_bytes = mini_block g z T A B x sound off_difat_lem cells root_there off_stream;
      }

  same_entry : (i : ℕ) → (volume g B).directory.entry i ≡ (volume g A).directory.entry i
  same_entry i = kept_entry g z T A B x sound off_difat_lem cells root_there i (entry_there i)

  pub same_directory : (volume g B).directory ≡ (volume g A).directory
  unfolding volume directory directory_of
  same_directory = ap₂ (λ n f. record { count = n; entry = f; size_width = size_width g }) same_redrawn.kept.parts.entry_count (fun_ext same_entry)

  good : Good (volume g A)
  good = accepted_good g A (let w = z.wide in omega arith) acc

  stream_same : (i : ℕ) → SameStream (volume g A) (volume g B) i
  unfolding stream_size
  stream_same i =
      record {
        stream = ap (λ (d : Directory). is_stream (d.entry i)) same_directory;
        start = ap (λ (d : Directory). start (d.entry i)) same_directory;
        size = ap (λ (d : Directory). size_of d i) same_directory;
      }

  pub same_accepted : Accepted g B
  unfolding root root_size
  same_accepted =
      redrawn_accepted g A B acc same_redrawn
      (redrawn_good good same_redrawn.kept.parts same_redrawn.sector_cells same_redrawn.mini_cells (λ i h. inl (stream_same i))
      (ap entry_rules same_directory ∙ good.entries) (ap tree_rules same_directory ∙ good.trees)
      (stream_same 0).start (ap (λ (d : Directory). size_of d 0) same_directory))
