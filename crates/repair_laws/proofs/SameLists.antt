-- From the image to an accepted outcome: the directory's and the mini FAT's sectors are the same throughout, and entries change in their colour alone.
use Prim.Native.Nat.{ℕ, ◌/◌, ◌+◌, ◌*◌, ◌≤◌, ◌<◌}
use mathlib.Core.Path.{◌≡◌, sym, ap, ◌∙◌, subst}
use mathlib.Core.Logic.{◌≢◌}
use mathlib.Core.Bool.{true}
use mathlib.Core.List.{List, ◌++◌}
use native.Mathlib.Omega.{arith}
use lib.ListN.{length}
use Rattle.format.specs.Basics.Lists.{count}
use Rattle.format.specs.Basics.Bytes.{Bytes}
use Rattle.format.specs.Layout.Entry.{size}
use Rattle.format.specs.Layout.Geometry.{Geometry, mini_bytes, cells_in, size_width, sector_count}
use Rattle.format.specs.Layout.Space.{block}
use Rattle.format.specs.Layout.Chain.{FREE}
use Rattle.format.specs.Layout.Tables.{difat_sectors, cell_in, fat_cell, fat_sectors}
use Rattle.format.specs.Layout.Directory.{directory_of, entry_in, entry_count, size_of}
use Rattle.format.specs.Layout.Volume.{volume, directory, directory_sectors_of, mini_fat_sectors, mini_stream_sectors, system_sectors, mini_space}
use Rattle.format.specs.Rules.Length.{length_allowed}
use Rattle.format.specs.Rules.Mini.{mini_fat_chain, mini_tables}
use Rattle.format.specs.Rules.Owners.{owned_sectors}
use Rattle.format.specs.Rules.Verdict.{Accepted}
use Rattle.format.specs.Calls.RepairSteps.{repaired, unowned_freed}
use Rattle.theory.proofs.Counts.{count_append}
use Rattle.theory.proofs.Chains.{linked_below}
use Rattle.frame.specs.Kept.{Sized, Kept, Off}
use Rattle.frame.proofs.Accepted.{accepted_kept}
use Rattle.frame.proofs.Sound.{Sound, sound_of, sys_count}
use Rattle.frame.proofs.Parts.{sector_place_lem, mini_place, mini_cell_is}
use Rattle.frame.proofs.Streams.{kept_entry_in}
use Rattle.frame.proofs.Views.{kept_cell, kept_directory_start, kept_mini_fat_start, kept_mini_fat_count, kept_sector_count}
use Rattle.repair_laws.specs.Tables.{Tabled, SameTables}
use Rattle.repair_laws.specs.Steps.{after1, after2, after3, after4, Taken}
use Rattle.repair_laws.specs.Black.{black_entry}
use Rattle.repair_laws.proofs.Tabled.{tabled, tabled_same, first_kept, first_tables}
use Rattle.repair_laws.proofs.Heads.{entries_minis, streams_minis}
use Rattle.repair_laws.proofs.SectorLists.{dirs_same, dirs_below, minis_same, system_owned}
use Rattle.repair_laws.proofs.Blackening.{second_kept, second_tables, second_in, second_out}
use Rattle.repair_laws.proofs.StepRules.{second_dirs}
use Rattle.repair_laws.proofs.Freeing.{mini_linked, mini_parts, outcome, outcome_is, third_kept, third_tables, fourth_kept, fourth_cell, fourth_alive, fourth_mini_alive, third_cell, fourth_fat, fourth_difat}

module _ (g : Geometry) (z : Sized g) (A : Bytes) (ok : length_allowed g (length A) ≡ true) (k : Taken g A) (acc : Accepted g (repaired g A)) where
  abbrev B : Bytes
  B = after1 g A

  abbrev C : Bytes
  C = after2 g A

  abbrev D : Bytes
  D = after3 g A

  abbrev E : Bytes
  E = after4 g A

  t_A : Tabled g A
  t_A = tabled g z A ok k.tables

  s_AB : SameTables g A B
  s_AB = first_tables g z A t_A

  t_B : Tabled g B
  t_B = tabled_same g A B t_A s_AB

  s_BC : SameTables g B C
  s_BC = (second_tables g z B t_B k.directory).0

  t_C : Tabled g C
  t_C = tabled_same g B C t_B s_BC

  mini_held : mini_tables (volume g C) ≡ true
  mini_held = entries_minis (volume g C) k.entries

  s_CD : SameTables g C D
  s_CD = (third_tables g z C t_C mini_held).0

  t_D : Tabled g D
  t_D = tabled_same g C D t_C s_CD

  chain_D : mini_fat_chain (volume g D) ≡ true
  chain_D = (mini_parts g z D t_D (streams_minis g D k.streams)).0

  room_D : (volume g D).minis.limit ≤ (volume g D).minis.cells
  room_D = (mini_parts g z D t_D (streams_minis g D k.streams)).1

  is_E : unowned_freed (volume g D) D ≡ outcome g z D t_D chain_D room_D
  is_E = outcome_is g z D t_D chain_D room_D

  -- ---- Kept from step to step

  k_AB : Kept g (Off (fat_sectors g A)) A B
  k_AB = first_kept g z A t_A

  k_BC : Kept g (Off (directory_sectors_of g B)) B C
  k_BC = second_kept g z B t_B k.directory

  k_CD : Kept g (Off (mini_fat_sectors g C)) C D
  k_CD = third_kept g z C t_C mini_held

  k_DE : Kept g (Off (fat_sectors g D ++ mini_fat_sectors g D)) D E
  k_DE = subst (λ x. Kept g (Off (fat_sectors g D ++ mini_fat_sectors g D)) D x) (sym is_E) (fourth_kept g z D t_D chain_D room_D)

  -- ---- cells

  cell_BC : (s : ℕ) → fat_cell g C s ≡ fat_cell g B s
  cell_BC = (second_tables g z B t_B k.directory).1

  cell_CD : (s : ℕ) → fat_cell g D s ≡ fat_cell g C s
  cell_CD = (third_tables g z C t_C mini_held).1

  pub cell_DE : (s : ℕ) → 0 < count s (owned_sectors (volume g D)) → fat_cell g E s ≡ fat_cell g D s
  cell_DE s q = ap (λ x. fat_cell g x s) is_E ∙ fourth_cell g z D t_D chain_D room_D s q

  pub cell_AD : (s : ℕ) → s < sector_count g A → fat_cell g D s ≡ fat_cell g A s
  cell_AD s h = cell_CD s ∙ cell_BC s ∙ s_AB.cells s h

  -- ---- the directory's sectors

  d_AB : directory_sectors_of g B ≡ directory_sectors_of g A
  d_AB = dirs_same g A B s_AB.sectors (kept_directory_start g z (fat_sectors g A) A B k_AB) (λ s q. s_AB.cells s (dirs_below g A s q))

  d_BC : directory_sectors_of g C ≡ directory_sectors_of g B
  d_BC = second_dirs g z B t_B k.directory

  d_CD : directory_sectors_of g D ≡ directory_sectors_of g C
  d_CD = dirs_same g C D s_CD.sectors (kept_directory_start g z (mini_fat_sectors g C) C D k_CD) (λ s q. cell_CD s)

  dirs_owned : (s : ℕ) → 0 < count s (directory_sectors_of g D) → 0 < count s (owned_sectors (volume g D))
  unfolding volume
  dirs_owned s q = omega (arith, sys_count (volume g D) s, system_owned (volume g D) s)

  minis_owned : (s : ℕ) → 0 < count s (mini_fat_sectors g D) → 0 < count s (owned_sectors (volume g D))
  unfolding volume
  minis_owned s q = omega (arith, sys_count (volume g D) s, system_owned (volume g D) s)

  d_DE : directory_sectors_of g E ≡ directory_sectors_of g D
  d_DE = dirs_same g D E (kept_sector_count g z (fat_sectors g D ++ mini_fat_sectors g D) D E k_DE) (kept_directory_start g z (fat_sectors g D ++ mini_fat_sectors g D) D E k_DE) (λ s q. cell_DE s (dirs_owned s q))

  pub dirs_AE : directory_sectors_of g E ≡ directory_sectors_of g A
  dirs_AE = d_DE ∙ d_CD ∙ d_BC ∙ d_AB

  -- ---- the mini FAT's

  m_CD : mini_fat_sectors g D ≡ mini_fat_sectors g C
  m_CD = minis_same g C D (kept_mini_fat_count g z (mini_fat_sectors g C) C D k_CD) (kept_mini_fat_start g z (mini_fat_sectors g C) C D k_CD) (λ s q. cell_CD s)

  m_DE : mini_fat_sectors g E ≡ mini_fat_sectors g D
  m_DE = minis_same g D E (kept_mini_fat_count g z (fat_sectors g D ++ mini_fat_sectors g D) D E k_DE) (kept_mini_fat_start g z (fat_sectors g D ++ mini_fat_sectors g D) D E k_DE) (λ s q. cell_DE s (minis_owned s q))

  -- ---- in the outcome they lie apart

  acc_E : Accepted g E
  acc_E = subst (Accepted g) k.outcome acc

  sound_E : Sound g E
  sound_E = sound_of g z E (accepted_kept g E acc_E)

  pub apart : (s : ℕ) → count s (fat_sectors g D) + count s (directory_sectors_of g D) + count s (mini_fat_sectors g D) ≤ 1
  unfolding volume
  apart s =
      omega (arith, sound_E.once s, sys_count (volume g E) s, ap (λ x. count s (fat_sectors g x)) is_E, ap (count s) (fourth_fat g z D t_D chain_D room_D), ap (count s) d_DE, ap (count s) m_DE)

  -- ---- entries

  off_dirs_D : (s : ℕ) → 0 < count s (directory_sectors_of g D) → count s (fat_sectors g D ++ mini_fat_sectors g D) ≡ 0
  off_dirs_D s q = omega (arith, apart s, count_append s (fat_sectors g D) (mini_fat_sectors g D))

  off_dirs_C : (s : ℕ) → 0 < count s (directory_sectors_of g C) → count s (mini_fat_sectors g C) ≡ 0
  off_dirs_C s q = omega (arith, apart s, ap (count s) d_CD, ap (count s) m_CD)

  off_dirs_A : (s : ℕ) → 0 < count s (directory_sectors_of g A) → count s (fat_sectors g A) ≡ 0
  off_dirs_A s q = omega (arith, apart s, ap (count s) d_CD, ap (count s) d_BC, ap (count s) d_AB, ap (count s) s_CD.fat, ap (count s) s_BC.fat, ap (count s) s_AB.fat)

  abbrev entry_of : Bytes → ℕ → Bytes
  entry_of x i = entry_in g x (directory_sectors_of g x) i

  entry_DE : (i : ℕ) → entry_of E i ≡ entry_of D i
  entry_DE i = ap (λ l. entry_in g E l i) d_DE ∙ kept_entry_in g z (fat_sectors g D ++ mini_fat_sectors g D) D E k_DE (directory_sectors_of g D) off_dirs_D i

  entry_CD : (i : ℕ) → entry_of D i ≡ entry_of C i
  entry_CD i = ap (λ l. entry_in g D l i) d_CD ∙ kept_entry_in g z (mini_fat_sectors g C) C D k_CD (directory_sectors_of g C) off_dirs_C i

  entry_AB : (i : ℕ) → entry_of B i ≡ entry_of A i
  entry_AB i = ap (λ l. entry_in g B l i) d_AB ∙ kept_entry_in g z (fat_sectors g A) A B k_AB (directory_sectors_of g A) off_dirs_A i

  entry_BC : (i : ℕ) → i < entry_count g (directory_sectors_of g B) → entry_of C i ≡ black_entry (entry_of B i)
  entry_BC i h = ap (λ l. entry_in g C l i) d_BC ∙ second_in g z B t_B k.directory i h

  entry_none : (i : ℕ) → entry_count g (directory_sectors_of g B) ≤ i → entry_of C i ≡ entry_of B i
  entry_none i h = ap (λ l. entry_in g C l i) d_BC ∙ second_out g z B t_B k.directory i h

  -- an entry of the outcome is that of the image, with a black colour where it has one
  pub entry_AE : (i : ℕ) → i < entry_count g (directory_sectors_of g A) → entry_of E i ≡ black_entry (entry_of A i)
  entry_AE i h =
      entry_DE i ∙ entry_CD i ∙ entry_BC i (subst (λ l. i < entry_count g l) (sym d_AB) h) ∙ ap (black_entry) (entry_AB i)

  pub entry_out_AE : (i : ℕ) → entry_count g (directory_sectors_of g A) ≤ i → entry_of E i ≡ entry_of A i
  entry_out_AE i h = entry_DE i ∙ entry_CD i ∙ entry_none i (subst (λ l. entry_count g l ≤ i) (sym d_AB) h) ∙ entry_AB i

  -- ---- cells and sectors of what the outcome owns

  pub cell_AE : (s : ℕ) → s < sector_count g E → fat_cell g E s ≢ FREE → fat_cell g A s ≡ fat_cell g E s
  cell_AE s h q =
      sym (ap (λ x. fat_cell g x s) is_E ∙ fourth_alive g z D t_D chain_D room_D s (λ e. q (ap (λ x. fat_cell g x s) is_E ∙ e))
      ∙ cell_AD s (omega (arith, kept_sector_count g z (fat_sectors g D ++ mini_fat_sectors g D) D E k_DE, s_CD.sectors, s_BC.sectors, s_AB.sectors)))

  -- a sector that is none of the FAT's, the directory's and the mini FAT's keeps its bytes
  pub sector_AE : (c : Bytes) (u : ℕ) → count u (fat_sectors g D) + count u (directory_sectors_of g D) + count u (mini_fat_sectors g D) ≡ 0 →
      block (volume g c).sectors E u ≡ block (volume g c).sectors A u
  sector_AE c u h =
      sector_place_lem g c (fat_sectors g D ++ mini_fat_sectors g D) D E k_DE u (omega (arith, count_append u (fat_sectors g D) (mini_fat_sectors g D)))
      ∙ sector_place_lem g c (mini_fat_sectors g C) C D k_CD u (omega (arith, ap (count u) m_CD))
      ∙ sector_place_lem g c (directory_sectors_of g B) B C k_BC u (omega (arith, ap (count u) d_CD, ap (count u) d_BC))
      ∙ sector_place_lem g c (fat_sectors g A) A B k_AB u (omega (arith, ap (count u) s_CD.fat, ap (count u) s_BC.fat, ap (count u) s_AB.fat))

  pub system_off : (u : ℕ) → count u (system_sectors (volume g E)) ≡ 0 → count u (fat_sectors g D) + count u (directory_sectors_of g D) + count u (mini_fat_sectors g D) ≡ 0
  unfolding volume
  system_off u h =
      omega (arith, sys_count (volume g E) u, ap (λ x. count u (fat_sectors g x)) is_E, ap (count u) (fourth_fat g z D t_D chain_D room_D), ap (count u) d_DE, ap (count u) m_DE)

  -- the mini sectors' bytes, at the places of the outcome
  pub mini_AE : ((s : ℕ) → 0 < count s (mini_stream_sectors g E) → count s (fat_sectors g D) + count s (directory_sectors_of g D) + count s (mini_fat_sectors g D) ≡ 0) →
      (u : ℕ) → u < (volume g E).minis.limit → block (volume g E).minis E u ≡ block (volume g E).minis A u
  mini_AE o u h =
      mini_place g z E sound_E (fat_sectors g D ++ mini_fat_sectors g D) D E k_DE (λ s q. omega (arith, o s q, count_append s (fat_sectors g D) (mini_fat_sectors g D))) u h
      ∙ mini_place g z E sound_E (mini_fat_sectors g C) C D k_CD (λ s q. omega (arith, o s q, ap (count s) m_CD)) u h
      ∙ mini_place g z E sound_E (directory_sectors_of g B) B C k_BC (λ s q. omega (arith, o s q, ap (count s) d_CD, ap (count s) d_BC)) u h
      ∙ mini_place g z E sound_E (fat_sectors g A) A B k_AB (λ s q. omega (arith, o s q, ap (count s) s_CD.fat, ap (count s) s_BC.fat, ap (count s) s_AB.fat)) u h

  -- the mini FAT's sectors of the image, and their cells
  m_AC : mini_fat_sectors g A ≡ mini_fat_sectors g C
  m_AC =
      minis_same g C A (sym (kept_mini_fat_count g z (directory_sectors_of g B) B C k_BC ∙ kept_mini_fat_count g z (fat_sectors g A) A B k_AB))
      (sym (kept_mini_fat_start g z (directory_sectors_of g B) B C k_BC ∙ kept_mini_fat_start g z (fat_sectors g A) A B k_AB))
      (λ s q. sym (cell_BC s ∙ s_AB.cells s (omega (arith, linked_below (fat_cell g C) (sector_count g C) (mini_fat_sectors g C) (mini_linked g z C t_C (mini_parts g z C t_C mini_held).0) s q, s_BC.sectors, s_AB.sectors))))

  abbrev cells_at : Bytes → List ℕ → ℕ → ℕ
  cells_at x l m = cell_in g x l (cells_in g * length l) m

  pub mini_cell_AE : (m : ℕ) → m < (volume g C).minis.limit → (volume g E).minis.cell m ≢ FREE → (volume g A).minis.cell m ≡ (volume g E).minis.cell m
  mini_cell_AE m h q =
      mini_cell_is g A m ∙ ap (λ l. cells_at A l m) m_AC
      ∙ sym (kept_cell g z (fat_sectors g A) A B k_AB (mini_fat_sectors g C) (λ s p. omega (arith, apart s, ap (count s) m_CD, ap (count s) s_CD.fat, ap (count s) s_BC.fat, ap (count s) s_AB.fat)) m)
      ∙ sym (kept_cell g z (directory_sectors_of g B) B C k_BC (mini_fat_sectors g C) (λ s p. omega (arith, apart s, ap (count s) m_CD, ap (count s) d_CD, ap (count s) d_BC)) m)
      ∙ sym (third_cell g z C t_C mini_held m h)
      ∙ ap (λ l. cells_at D l m) (sym m_CD)
      ∙ sym (fourth_mini_alive g z D t_D chain_D room_D m (λ e. q (is_cell ∙ e)))
      ∙ sym is_cell
    where
      is_cell : (volume g E).minis.cell m ≡ cells_at (outcome g z D t_D chain_D room_D) (mini_fat_sectors g D) m
      is_cell = mini_cell_is g E m ∙ ap (λ l. cells_at E l m) m_DE ∙ ap (λ x. cells_at x (mini_fat_sectors g D) m) is_E

  pub limit_CE : (volume g C).minis.limit ≡ (volume g E).minis.limit
  unfolding volume mini_space directory directory_of size_of
  limit_CE = ap (λ e. size (size_width g) e / mini_bytes) (sym (entry_DE 0 ∙ entry_CD 0))

  pub mini_stream_off : (s : ℕ) → 0 < count s (mini_stream_sectors g E) → count s (fat_sectors g D) + count s (directory_sectors_of g D) + count s (mini_fat_sectors g D) ≡ 0
  unfolding volume
  mini_stream_off s q =
      omega (arith, sound_E.once s, sys_count (volume g E) s, ap (λ x. count s (fat_sectors g x)) is_E, ap (count s) (fourth_fat g z D t_D chain_D room_D), ap (count s) d_DE, ap (count s) m_DE)

  -- ---- all of the system's lists

  pub fat_AE : fat_sectors g E ≡ fat_sectors g A
  fat_AE = ap (fat_sectors g) is_E ∙ fourth_fat g z D t_D chain_D room_D ∙ s_CD.fat ∙ s_BC.fat ∙ s_AB.fat

  pub difat_AE : difat_sectors g E ≡ difat_sectors g A
  difat_AE = ap (difat_sectors g) is_E ∙ fourth_difat g z D t_D chain_D room_D ∙ s_CD.difat ∙ s_BC.difat ∙ s_AB.difat

  pub mini_fat_AE : mini_fat_sectors g E ≡ mini_fat_sectors g A
  mini_fat_AE = m_DE ∙ m_CD ∙ sym m_AC

  pub sectors_AE : sector_count g E ≡ sector_count g A
  sectors_AE = kept_sector_count g z (fat_sectors g D ++ mini_fat_sectors g D) D E k_DE ∙ s_CD.sectors ∙ s_BC.sectors ∙ s_AB.sectors

  pub length_AE : length E ≡ length A
  length_AE = k_DE.size ∙ s_CD.size ∙ s_BC.size ∙ s_AB.size
