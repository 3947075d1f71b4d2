-- Edits of the directory alone: what is kept.
use Prim.Native.Nat.{ℕ, zero, suc, ◌+◌, ◌*◌, ◌≤◌, ◌<◌}
use mathlib.Core.Path.{◌≡◌, refl, sym, ap, ◌∙◌}
use mathlib.Core.Bool.{Bool, true, false, cond}
use mathlib.Core.List.{List, [], ◌∷◌}
use native.Mathlib.Nat.{mul_comm, mul-le-mul_left}
use native.Mathlib.Omega.{arith}
use lib.Dec.{eqb, ltb}
use lib.ListN.{length}
use lib.Seq.{sets}
use Rattle.format.specs.Basics.Lists.{count}
use Rattle.format.specs.Basics.Bytes.{Bytes, u32at}
use Rattle.format.specs.Layout.Geometry.{Geometry, sector_count, entries_in}
use Rattle.format.specs.Layout.Chain.{FATSECT, DIFSECT, follow}
use Rattle.format.specs.Layout.Header.{directory_start}
use Rattle.format.specs.Layout.Tables.{fat_sectors, difat_sectors, fat_cell, sector_space}
use Rattle.format.specs.Layout.Entry.{NOSTREAM, Field, left_field, child_field, right_field, field_byte, start, size}
use Rattle.format.specs.Layout.Directory.{directory_sectors, directory_of, entry_place, entry_count, entry_in}
use Rattle.format.specs.Layout.Volume.{volume, directory, directory_sectors_of, mini_fat_sectors, mini_stream_sectors}
use Rattle.format.specs.Rules.Verdict.{Accepted}
use Rattle.theory.proofs.Sets.{get_or_sets_out}
use Rattle.theory.proofs.Bytes.{number_same}
use Rattle.frame.specs.Groups.{ImageGroups}
use Rattle.frame.specs.Kept.{Sized, Kept, Off, Table}
use Rattle.frame.specs.Redraw.{IsRedrawn}
use Rattle.frame.proofs.Accepted.{accepted_kept}
use Rattle.frame.proofs.Sound.{Sound, sound_of}
use Rattle.frame.proofs.Parts.{RootKept, table_of, dirs_in, system_apart, kept_fat_cell, preserved, entry_at, entry_is, entry_count_is, kept_mini_cell, sector_block, mini_block}
use Rattle.frame.proofs.Writing.{sector_cell}
use Rattle.frame.proofs.Entry.{entry_length, S128}

pub entry_place_is : (g : Geometry) (img : Bytes) (y : ℕ) → (volume g img).entry_place y ≡ entry_place g (directory_sectors_of g img) y
unfolding volume
entry_place_is g img y = refl

-- links and colour apart, a written entry is the old one: so start and size
pub start_off : (b : Bytes) (j : ℕ) (vs : Bytes) → j + length vs ≤ 116 → start (sets b j vs) ≡ start b
unfolding start u32at
start_off b j vs h = number_same (sets b j vs) b 116 116 4 (λ i l. get_or_sets_out b j vs (116 + i) 0 (λ k c e. omega arith))

pub size_off : (c : ℕ) (b : Bytes) (j : ℕ) (vs : Bytes) → j + length vs ≤ 120 → size c (sets b j vs) ≡ size c b
unfolding size
size_off c b j vs h = number_same (sets b j vs) b 120 120 c (λ i l. get_or_sets_out b j vs (120 + i) 0 (λ k q e. omega arith))

pub field_low : (k : Field) → (67 < field_byte k) × (field_byte k + 4 ≤ 80)
field_low left_field = (omega arith, omega arith)
field_low child_field = (omega arith, omega arith)
field_low right_field = (omega arith, omega arith)

module _ (g : Geometry) (z : Sized g) (img : Bytes) (acc : Accepted g img) where
  abbrev dirs : List ℕ
  dirs = directory_sectors_of g img

  groups : ImageGroups g img
  groups = accepted_kept g img acc

  sound : Sound g img
  sound = sound_of g z img groups

  pub dirs_table : Table g (length img) dirs
  dirs_table = table_of g z img sound dirs (dirs_in g z img sound)

  module _ (w : Bytes) (K : Kept g (Off dirs) img w) (root : RootKept g img w) where
    off : (l : List ℕ) → ((s : ℕ) → count s dirs + count s l ≤ 1) → (s : ℕ) → 0 < count s l → count s dirs ≡ 0
    off l h s p = omega (arith, h s)

    off_difat : (s : ℕ) → 0 < count s (difat_sectors g img) → count s dirs ≡ 0
    off_difat = off (difat_sectors g img) (λ s. omega (arith, system_apart g z img sound s))

    cell : (s : ℕ) → fat_cell g w s ≡ fat_cell g img s
    cell = kept_fat_cell g z dirs img w K sound off_difat (off (fat_sectors g img) (λ s. omega (arith, system_apart g z img sound s)))

    cells : (s : ℕ) → 0 < count s (directory_sectors_of g img) + count s (mini_fat_sectors g img) + count s (mini_stream_sectors g img) → fat_cell g w s ≡ fat_cell g img s
    cells s q = cell s

    pub redrawn : IsRedrawn g img w
    redrawn =
        record {
          kept = preserved g z dirs img w K sound off_difat cells root groups (λ s l. (ap (λ (c : ℕ). eqb c FATSECT) (cell s), ap (λ (c : ℕ). eqb c DIFSECT) (cell s)));
          sector_cells = λ u. sector_cell g w u ∙ cell u ∙ sym (sector_cell g img u);
          mini_cells = kept_mini_cell g z dirs img w K sound off_difat cells root (off (mini_fat_sectors g img) (λ s. omega (arith, system_apart g z img sound s)));
          sector_bytes = λ u q. sector_block g z dirs img w K sound off_difat u (omega (arith, dirs_in g z img sound u));
          mini_bytes = mini_block g z dirs img w K sound off_difat cells root (off (mini_stream_sectors g img) (λ s. omega (arith, system_apart g z img sound s)));
        }

    pub entry_now : (i : ℕ) → (volume g w).directory.entry i ≡ entry_in g w dirs i
    entry_now = entry_at g z dirs img w K sound off_difat cells root

  pub entry_inside : (y : ℕ) → y < (volume g img).directory.count → y < entry_count g dirs
  entry_inside y h = rw (sym (entry_count_is g img)) h

-- every entry is whole
pub entry_long_lem : (g : Geometry) (z : Sized g) (img : Bytes) (acc : Accepted g img) (y : ℕ) → y < (volume g img).directory.count → length ((volume g img).directory.entry y) ≡ 128
entry_long_lem g z img acc y h =
    ap length (entry_is g img y)
    ∙ entry_length g z (length img) (directory_sectors_of g img) (dirs_table g z img acc) img y 0 0 (entry_inside g z img acc y h) refl

follow_short : (cell : ℕ → ℕ) (limit n s : ℕ) → length (follow cell limit n s) ≤ n
unfolding follow
follow_short cell limit zero s = omega arith
follow_short cell limit (suc n) s = go (ltb s limit) (follow_short cell limit n (cell s))
  where
    go : (t : Bool) → length (follow cell limit n (cell s)) ≤ n → length (cond t (s ∷ follow cell limit n (cell s)) []) ≤ suc n
    go true h = omega arith
    go false h = omega arith

dirs_few : (g : Geometry) (img : Bytes) → length (directory_sectors_of g img) ≤ sector_count g img
unfolding directory_sectors_of directory_sectors sector_space
dirs_few g img = follow_short (fat_cell g img) (sector_count g img) (sector_count g img) (directory_start img)

-- and there are far fewer than NOSTREAM
pub entries_few_lem : (g : Geometry) (z : Sized g) (img : Bytes) → Accepted g img → (volume g img).directory.count < NOSTREAM
unfolding volume directory directory_of entry_count
entries_few_lem g z img acc =
    let A = sound_of g z img (accepted_kept g img acc) in
    let N = sector_count g img in
    let a = mul-le-mul_left (entries_in g) (dirs_few g img) in
    let b = ap (λ (m : ℕ). N * m) (S128 g z) in
    omega (arith, a, b, A.long, A.short, mul_comm N (entries_in g))
