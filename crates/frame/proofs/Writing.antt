-- An accepted overwrite.
use mathlib.Core.Path.{◌≡◌, refl, sym, ap, ◌∙◌, subst}
use mathlib.Core.List.{List, [], ◌∷◌}
use mathlib.Core.Bool.{Bool, true, false}
use Prim.Native.Nat.{ℕ, ◌+◌, ◌*◌, ◌/◌, ◌≤◌, ◌<◌}
use native.Mathlib.Decide.{dec_lt}
use native.Mathlib.Omega.{arith}
use lib.Dec.{eqb, ltb}
use lib.ListN.{length}
use lib.Seq.{sets}
use Rattle.format.specs.Basics.Lists.{count}
use Rattle.format.specs.Basics.Bytes.{Bytes, put_bytes}
use Rattle.format.specs.Layout.Geometry.{Geometry, mini_bytes, sector_count}
use Rattle.format.specs.Layout.Need.{cutoff, round_up}
use Rattle.format.specs.Layout.Chain.{FATSECT, DIFSECT}
use Rattle.format.specs.Layout.Space.{Space, laid, block}
use Rattle.format.specs.Layout.Tables.{fat_sectors, difat_sectors, fat_cell, sector_space}
use Rattle.format.specs.Layout.Entry.{size}
use Rattle.format.specs.Layout.Volume.{Volume, volume, system_sectors, mini_space, mini_cells, directory_sectors_of, mini_fat_sectors, mini_stream_sectors}
use Rattle.format.specs.Layout.Stream.{space_for, stream_units, stream_size}
use Rattle.format.specs.Calls.Overwrite.{put_chain, overwritten}
use Rattle.theory.specs.Links.{Linked}
use Rattle.theory.specs.Blocks.{scatter}
use Rattle.theory.proofs.Chains.{linked_below, linked_once}
use Rattle.frame.specs.Kept.{Sized, Kept, Off}
use Rattle.frame.specs.Edits.{Refilled, MayWrite, IsWritten}
use Rattle.frame.proofs.Kept.{kept_sets}
use Rattle.frame.proofs.Things.{thing_kept}
use Rattle.frame.proofs.Blocks.{block_length, chain_put, chain_kept}
use Rattle.frame.proofs.Sound.{Sound, sound_of}
use Rattle.frame.proofs.Parts.{RootKept, root_kept, system_apart, fat_in, difat_in_lem, dirs_in, mini_fat_in, mini_stream_in, table_of, sector_units, mini_units, mini_index, minis_in_sector, sector_some, kept_fat_cell, sector_block, kept_entry, preserved, kept_mini_cell, mini_block_at, mini_block}
use Rattle.frame.proofs.Streams.{kept_entry_in, space_large, space_small, in_sectors_large, in_sectors_small, in_minis_large, in_minis_small, stream_in_sectors, stream_in_minis, stream_units_long, stream_apart, mini_few}
use Rattle.frame.specs.Groups.{ImageGroups}
use Rattle.frame.proofs.Accepted.{accepted_kept}
use Rattle.theory.proofs.RoundUp.{round_enough}

-- ---- bytes put into sectors, and into mini sectors: what is kept

pub sectors_put : (g : Geometry) (z : Sized g) (a : Bytes) (A : Sound g a) (us : List ℕ) → ((s : ℕ) → count s us ≤ 1) → ((s : ℕ) → 0 < count s us → s < (volume g a).sectors.limit)
    → (xs img : Bytes) (i : ℕ) → i + length xs ≤ length us * (volume g a).sectors.unit → Kept g (Off us) img (put_chain (volume g a).sectors us img i xs)
unfolding volume sector_space
sectors_put g z a A us o b xs img i h =
    chain_kept (volume g a).sectors (length a) (sector_units g z a A) us o b g (Off us)
    (λ m y j v q l. kept_sets g (Off us) m y j (v ∷ []) (omega arith) (λ k c d p. omega (arith, p, q)))
    xs img i h

pub minis_put : (g : Geometry) (z : Sized g) (a : Bytes) (A : Sound g a) (us : List ℕ) → ((s : ℕ) → count s us ≤ 1) → ((s : ℕ) → 0 < count s us → s < (volume g a).minis.limit)
    → (xs img : Bytes) (i : ℕ) → i + length xs ≤ length us * (volume g a).minis.unit → Kept g (Off (mini_stream_sectors g a)) img (put_chain (volume g a).minis us img i xs)
unfolding volume mini_space mini_bytes
minis_put g z a A us o b xs img i h =
    let T = mini_stream_sectors g a in
    chain_kept (volume g a).minis (length a) (mini_units g z a A) us o b g (Off T)
    (λ m y j v q l. thing_kept g 64 (g.sector_bytes / 64) (minis_in_sector g z a A) (sector_some g z a A) (length a) T (table_of g z a A T (mini_stream_in g z a A)) m y j (v ∷ [])
    (mini_index g z a A y (b y q)) (omega arith) T (λ s p. p))
    xs img i h

pub sector_limit_lem : (g : Geometry) (a : Bytes) → (volume g a).sectors.limit ≡ sector_count g a
unfolding volume sector_space
sector_limit_lem g a = refl

pub sector_cell : (g : Geometry) (a : Bytes) (u : ℕ) → (volume g a).sectors.cell u ≡ fat_cell g a u
unfolding volume sector_space
sector_cell g a u = refl

-- a sector's place does not depend on the image
pub sector_block_at : (g : Geometry) (a b : Bytes) (u : ℕ) → block (volume g b).sectors b u ≡ block (volume g a).sectors b u
unfolding block volume sector_space
sector_block_at g a b u = refl

pub sector_sized_lem : (g : Geometry) (z : Sized g) (a b : Bytes) → Sound g a → length b ≡ length a → (u : ℕ) → u < (volume g a).sectors.limit
    → length (block (volume g b).sectors b u) ≡ (volume g a).sectors.unit
sector_sized_lem g z a b A l u h =
    ap length (sector_block_at g a b u) ∙ block_length (volume g a).sectors (length a) (sector_units g z a A) b l u h

put_bytes_lem : (b : Bytes) (i : ℕ) (vs : Bytes) → sets b i vs ≡ put_bytes b i vs
unfolding put_bytes
put_bytes_lem b i vs = refl

module _ (g : Geometry) (z : Sized g) (img : Bytes) (e offset : ℕ) (bytes : Bytes) (m : MayWrite g img e offset bytes) where
  abbrev v : Volume
  v = volume g img

  abbrev n : ℕ
  n = stream_size (volume g img) e

  abbrev us : List ℕ
  us = stream_units (volume g img) e

  G : ImageGroups g img
  G = accepted_kept g img m.accepted

  A : Sound g img
  A = sound_of g z img G

  room : (sp : Space) → space_for v n ≡ sp → 0 < sp.unit → offset + length bytes ≤ length us * sp.unit
  room sp q p =
      let r = round_enough n sp.unit p in
      let c : length us ≡ round_up n sp.unit = stream_units_long g z img G e m.inside m.stream ∙ ap (λ (s : Space). round_up n s.unit) q in
      omega (arith, r, m.fits, ap (λ (k : ℕ). k * sp.unit) c)

  write_big : ltb n cutoff ≡ false → IsWritten g img e offset bytes (put_chain v.sectors us img offset bytes)
  write_big h =
      record {
        kept = preserved g z us img w K A off_difat cells entry0 G (λ s l. (ap (λ (c : ℕ). eqb c FATSECT) (cell s), ap (λ (c : ℕ). eqb c DIFSECT) (cell s)));
        entries = λ i. kept_entry g z us img w K A off_difat cells entry0 i (kept_entry_in g z us img w K (directory_sectors_of g img) (off (directory_sectors_of g img) (dirs_in g z img A)) i);
        sector_cells = λ u. sector_cell g w u ∙ cell u ∙ sym (sector_cell g img u);
        mini_cells = λ u. kept_mini_cell g z us img w K A off_difat cells entry0 (off (mini_fat_sectors g img) (mini_fat_in g z img A)) u;
        sector_bytes = subst (λ (l : List ℕ). Refilled v.sectors (volume g w).sectors img w (system_sectors v) l (put_bytes (laid (block v.sectors img) us) offset bytes)) (sym (in_sectors_large n us h)) big_bytes;
        mini_bytes = subst (λ (l : List ℕ). Refilled v.minis (volume g w).minis img w [] l (put_bytes (laid (block v.minis img) us) offset bytes)) (sym (in_minis_large n us h)) small_bytes;
      }
    where
      w : Bytes
      w = put_chain v.sectors us img offset bytes

      L : Linked (fat_cell g img) (sector_count g img) us
      L = stream_in_sectors g z img G e m.inside m.stream h

      o : (s : ℕ) → count s us ≤ 1
      o = linked_once (fat_cell g img) (sector_count g img) (let f = A.few in omega arith) us L

      b : (s : ℕ) → 0 < count s us → s < (volume g img).sectors.limit
      b s q = rw (sector_limit_lem g img) (linked_below (fat_cell g img) (sector_count g img) us L s q)

      r : offset + length bytes ≤ length us * v.sectors.unit
      r = room v.sectors (space_large v n h) (sector_units g z img A).some

      K : Kept g (Off us) img w
      K = sectors_put g z img A us o b bytes img offset r

      off : (l : List ℕ) → ((s : ℕ) → count s l ≤ count s (system_sectors v)) → (s : ℕ) → 0 < count s l → count s us ≡ 0
      off l f s q =
          elim (dec_lt 0 (count s us)) [
            | yes p ↦ absurd (omega (arith, f s, q, stream_apart g z img G e m.inside m.stream h s p))
            | no p ↦ (let k : count s us ≡ 0 = omega arith in k)
          ]

      off_difat : (s : ℕ) → 0 < count s (difat_sectors g img) → count s us ≡ 0
      off_difat = off (difat_sectors g img) (difat_in_lem g z img A)

      cell : (s : ℕ) → fat_cell g w s ≡ fat_cell g img s
      cell = kept_fat_cell g z us img w K A off_difat (off (fat_sectors g img) (fat_in g z img A))

      cells : (s : ℕ) → 0 < count s (directory_sectors_of g img) + count s (mini_fat_sectors g img) + count s (mini_stream_sectors g img) → fat_cell g w s ≡ fat_cell g img s
      cells s q = cell s

      entry0 : RootKept g img w
      entry0 = root_kept g img w (kept_entry_in g z us img w K (directory_sectors_of g img) (off (directory_sectors_of g img) (dirs_in g z img A)) 0)

      big_bytes : Refilled v.sectors (volume g w).sectors img w (system_sectors v) us (put_bytes (laid (block v.sectors img) us) offset bytes)
      big_bytes =
          record {
            bytes = λ u l q.
                sector_block_at g img w u ∙ chain_put v.sectors (length img) (sector_units g z img A) us o b bytes img refl offset r u l
                ∙ ap (λ (c : Bytes). scatter v.sectors.unit us c (block v.sectors img) u) (put_bytes_lem (laid (block v.sectors img) us) offset bytes);
            sized = λ u l. sector_sized_lem g z img w A K.size u l;
          }

      small_bytes : Refilled v.minis (volume g w).minis img w [] [] (put_bytes (laid (block v.minis img) us) offset bytes)
      small_bytes =
          record {
            bytes = λ u l q. mini_block g z us img w K A off_difat cells entry0 (off (mini_stream_sectors g img) (mini_stream_in g z img A)) u l;
            sized = λ u l. ap length (mini_block g z us img w K A off_difat cells entry0 (off (mini_stream_sectors g img) (mini_stream_in g z img A)) u l) ∙ block_length v.minis (length img) (mini_units g z img A) img refl u l;
          }

  write_small : ltb n cutoff ≡ true → IsWritten g img e offset bytes (put_chain v.minis us img offset bytes)
  write_small h =
      record {
        kept = preserved g z T img w K A off_difat cells entry0 G (λ s l. (ap (λ (c : ℕ). eqb c FATSECT) (cell s), ap (λ (c : ℕ). eqb c DIFSECT) (cell s)));
        entries = λ i. kept_entry g z T img w K A off_difat cells entry0 i (kept_entry_in g z T img w K (directory_sectors_of g img) off_dirs i);
        sector_cells = λ u. sector_cell g w u ∙ cell u ∙ sym (sector_cell g img u);
        mini_cells = λ u. kept_mini_cell g z T img w K A off_difat cells entry0 off_mini u;
        sector_bytes = subst (λ (l : List ℕ). Refilled v.sectors (volume g w).sectors img w (system_sectors v) l (put_bytes (laid (block v.sectors img) us) offset bytes)) (sym (in_sectors_small n us h)) big_bytes;
        mini_bytes = subst (λ (l : List ℕ). Refilled v.minis (volume g w).minis img w [] l (put_bytes (laid (block v.minis img) us) offset bytes)) (sym (in_minis_small n us h)) small_bytes;
      }
    where
      T : List ℕ
      T = mini_stream_sectors g img

      w : Bytes
      w = put_chain v.minis us img offset bytes

      L : Linked v.minis.cell v.minis.limit us
      L = stream_in_minis g z img G e m.inside m.stream h

      o : (s : ℕ) → count s us ≤ 1
      o = linked_once v.minis.cell v.minis.limit (let f = mini_few g z img G A in omega arith) us L

      b : (s : ℕ) → 0 < count s us → s < v.minis.limit
      b = linked_below v.minis.cell v.minis.limit us L

      r : offset + length bytes ≤ length us * v.minis.unit
      r = room v.minis (space_small v n h) (mini_units g z img A).some

      K : Kept g (Off T) img w
      K = minis_put g z img A us o b bytes img offset r

      off_difat : (s : ℕ) → 0 < count s (difat_sectors g img) → count s T ≡ 0
      off_difat s q = omega (arith, system_apart g z img A s)

      off_fat : (s : ℕ) → 0 < count s (fat_sectors g img) → count s T ≡ 0
      off_fat s q = omega (arith, system_apart g z img A s)

      off_dirs : (s : ℕ) → 0 < count s (directory_sectors_of g img) → count s T ≡ 0
      off_dirs s q = omega (arith, system_apart g z img A s)

      off_mini : (s : ℕ) → 0 < count s (mini_fat_sectors g img) → count s T ≡ 0
      off_mini s q = omega (arith, system_apart g z img A s)

      cell : (s : ℕ) → fat_cell g w s ≡ fat_cell g img s
      cell = kept_fat_cell g z T img w K A off_difat off_fat

      cells : (s : ℕ) → 0 < count s (directory_sectors_of g img) + count s (mini_fat_sectors g img) + count s (mini_stream_sectors g img) → fat_cell g w s ≡ fat_cell g img s
      cells s q = cell s

      entry0 : RootKept g img w
      entry0 = root_kept g img w (kept_entry_in g z T img w K (directory_sectors_of g img) off_dirs 0)

      big_bytes : Refilled v.sectors (volume g w).sectors img w (system_sectors v) [] (put_bytes (laid (block v.sectors img) us) offset bytes)
      big_bytes =
          record {
            bytes = λ u l q. sector_block g z T img w K A off_difat u (omega (arith, mini_stream_in g z img A u, q));
            sized = λ u l. sector_sized_lem g z img w A K.size u l;
          }

      small_bytes : Refilled v.minis (volume g w).minis img w [] us (put_bytes (laid (block v.minis img) us) offset bytes)
      small_bytes =
          record {
            bytes = λ u l q.
                mini_block_at g z T img w K A off_difat cells entry0 u ∙ chain_put v.minis (length img) (mini_units g z img A) us o b bytes img refl offset r u l
                ∙ ap (λ (c : Bytes). scatter v.minis.unit us c (block v.minis img) u) (put_bytes_lem (laid (block v.minis img) us) offset bytes);
            sized = λ u l. ap length (mini_block_at g z T img w K A off_difat cells entry0 u) ∙ block_length v.minis (length img) (mini_units g z img A) w K.size u l;
          }

  pub writing : IsWritten g img e offset bytes (overwritten (volume g img) img e offset bytes)
  unfolding overwritten
  writing = go (ltb n cutoff) refl
    where
      go : (t : Bool) → ltb n cutoff ≡ t → IsWritten g img e offset bytes (put_chain (space_for v n) us img offset bytes)
      go true h = subst (λ (sp : Space). IsWritten g img e offset bytes (put_chain sp us img offset bytes)) (sym (space_small v n h)) (write_small h)
      go false h = subst (λ (sp : Space). IsWritten g img e offset bytes (put_chain sp us img offset bytes)) (sym (space_large v n h)) (write_big h)
