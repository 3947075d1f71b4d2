-- A change of length, whichever space it is in: the new units, the image that it leaves, and the entry.
use mathlib.Core.Path.{◌≡◌, refl, sym, ap, ◌∙◌, subst}
use mathlib.Core.Logic.{◌≢◌}
use mathlib.Core.List.{List, [], ◌∷◌, ◌++◌}
use mathlib.Core.Bool.{Bool, true, false, cond}
use Prim.Native.Nat.{ℕ, ◌+◌, ◌-◌, ◌*◌, ◌≤◌, ◌<◌, max}
use native.Mathlib.Nat.{mul_comm, mul-le-mul_right, mul-le-mul_left}
use native.Mathlib.Omega.{arith}
use lib.Dec.{ltb}
use lib.ListN.{length, take}
use borrow.Author.Tests.{ltb-true}
use Rattle.format.specs.Basics.Lists.{count}
use Rattle.format.specs.Basics.Bytes.{Bytes}
use Rattle.format.specs.Layout.Geometry.{Geometry, sector_count, size_width}
use Rattle.format.specs.Layout.Need.{cutoff, round_up}
use Rattle.format.specs.Layout.Chain.{units, start_of, free_below}
use Rattle.format.specs.Layout.Space.{Space, units_for, laid, free_units, block}
use Rattle.format.specs.Layout.Tables.{cell_place_in, fat_sectors, fat_cell, sector_space}
use Rattle.format.specs.Layout.Entry.{size, start, name_bytes}
use Rattle.format.specs.Layout.Directory.{entry_count, size_of, directory_of}
use Rattle.format.specs.Rules.Entries.{entry_rules, common_fields, entry_right, entry_fields}
use Rattle.format.specs.Layout.Volume.{Volume, volume, mini_space, directory_sectors_of, mini_fat_sectors, directory}
use Rattle.format.specs.Layout.Stream.{space_for, stream_units, stream_size}
use Rattle.format.specs.Calls.SetLength.{edit_space, new_units, entry_written, resized, tail_zeroed}
use Rattle.theory.specs.Links.{Linked}
use Rattle.theory.proofs.Counts.{bit_self}
use Rattle.theory.proofs.Tests.{below_at}
use Rattle.frame.specs.Kept.{Sized, Table}
use Rattle.frame.proofs.Blocks.{Units, block_length}
use Rattle.frame.proofs.Sound.{Sound, sound_of}
use Rattle.frame.specs.Edits.{SameFields, Relinked, Refilled, MayResize}
use Rattle.frame.proofs.Parts.{dirs_in, table_of, sector_units, mini_units, entry_is, entry_count_is}
use Rattle.frame.proofs.Streams.{space_large, stream_in_sectors}
use Rattle.frame.proofs.Entry.{stamped, stamped_in, fields_new, start_new, size_counts, size_new, entry_length}
use Rattle.frame.proofs.Edited.{with_cells, with_data, with_entry}
use lib.ListN.{length-append}
use lib.Seq.{take-append-add}
use Rattle.theory.proofs.Relinks.{rechain_out}
use Rattle.frame.specs.Groups.{ImageGroups}
use Rattle.theory.proofs.RoundUp.{round_enough, round_zero, round_mono}
use Rattle.frame.proofs.Crossing.{not_crossed, small_new}
use Rattle.frame.proofs.Accepted.{accepted_kept}
use Rattle.theory.proofs.FreeUnits.{pool_short}
use Rattle.theory.proofs.Contents.{laid_prefix}
use Rattle.frame.proofs.EntryFacts.{stream_not_root, name_bytes_short, stream_fields_say, stream_fields_of, common_fields_of}

pub relinked_at : (sp sp' : Space) (a a' b b' : List ℕ) → a' ≡ a → b' ≡ b → Relinked sp sp' a b → Relinked sp sp' a' b'
relinked_at sp sp' a a' b b' p q r = subst (λ (x : List ℕ). Relinked sp sp' x b') (sym p) (subst (λ (x : List ℕ). Relinked sp sp' a x) (sym q) r)

pub refilled_at : (sp sp' : Space) (img img' : Bytes) (sys a a' : List ℕ) (c : Bytes) → a' ≡ a → Refilled sp sp' img img' sys a c → Refilled sp sp' img img' sys a' c
refilled_at sp sp' img img' sys a a' c p r = subst (λ (x : List ℕ). Refilled sp sp' img img' sys x c) (sym p) r

pub same_cells : (sp sp' : Space) → ((u : ℕ) → sp'.cell u ≡ sp.cell u) → Relinked sp sp' [] []
same_cells sp sp' h = record { cells = λ u l. h u ∙ sym (rechain_out [] [] sp.cell u refl refl); rest = λ u l. h u }

pub start_word : (l : List ℕ) → ((u : ℕ) → 0 < count u l → u < 0x1_0000_0000) → start_of l < 0x1_0000_0000
start_word [] h = omega arith
start_word (u ∷ us) h = h u (omega (arith, bit_self u))

pub sectors_free : (g : Geometry) (img : Bytes) → free_units (volume g img).sectors ≡ free_below (fat_cell g img) (sector_count g img)
unfolding volume sector_space free_units
sectors_free g img = refl

sector_unit_lem : (g : Geometry) (img : Bytes) → (volume g img).sectors.unit ≡ g.sector_bytes
unfolding volume sector_space
sector_unit_lem g img = refl

pub sectors_place : (g : Geometry) (img : Bytes) (u : ℕ) → (volume g img).sectors.cell_place u ≡ cell_place_in g (fat_sectors g img) u
unfolding volume sector_space
sectors_place g img u = refl

pub minis_place : (g : Geometry) (img : Bytes) (u : ℕ) → (volume g img).minis.cell_place u ≡ cell_place_in g (mini_fat_sectors g img) u
unfolding volume mini_space
minis_place g img u = refl

module _ (g : Geometry) (z : Sized g) (img : Bytes) (e new : ℕ) (m : MayResize g img e new) where
  abbrev v : Volume
  v = volume g img

  abbrev n : ℕ
  n = stream_size (volume g img) e

  abbrev M : ℕ
  M = max (stream_size (volume g img) e) new

  abbrev us : List ℕ
  us = stream_units (volume g img) e

  abbrev ws : List ℕ
  ws = new_units (volume g img) e new

  abbrev dirs : List ℕ
  dirs = directory_sectors_of g img

  pub groups : ImageGroups g img
  groups = accepted_kept g img m.accepted

  pub sound : Sound g img
  sound = sound_of g z img groups

  fields : entry_fields e (v.directory.entry e) ≡ true
  unfolding entry_rules entry_right
  fields = below_at v.directory.count (entry_right v.directory) groups.volume.entries e m.inside

  pub entry_facts : (e ≢ 0) × (name_bytes (v.directory.entry e) ≤ 64) × (common_fields (v.directory.entry e) ≡ true)
  entry_facts =
      let b = v.directory.entry e in (
        stream_not_root b e fields m.stream,
        name_bytes_short b (stream_fields_say b (stream_fields_of b e fields m.stream)).0,
        common_fields_of b e fields,
      )

  pub entry_inside : e < entry_count g dirs
  entry_inside = rw (sym (entry_count_is g img)) m.inside

  pub directory_table_lem : Table g (length img) dirs
  directory_table_lem = table_of g z img sound dirs (dirs_in g z img sound)

  pub new_units_are : (sp : Space) → edit_space v e new ≡ sp → ws ≡ take (round_up new sp.unit) (us ++ free_units sp)
  unfolding new_units
  new_units_are sp q = ap (λ (s : Space). take (round_up new s.unit) (us ++ free_units s)) q

  pub enough : (sp : Space) → edit_space v e new ≡ sp → round_up new sp.unit ≤ length us + length (free_units sp)
  enough sp q = subst (λ (s : Space). round_up new s.unit ≤ length us + length (free_units s)) q m.enough

  -- how the chain grows
  pub grows : (sp : Space) → edit_space v e new ≡ sp → Units sp (length img) → length us ≡ round_up n sp.unit → ((s : ℕ) → 0 < count s us → s < sp.limit) → ltb n new ≡ true
      → (n ≤ length us * sp.unit) × (n ≤ length ws * sp.unit) × (take n (laid (block sp img) ws) ≡ take n (laid (block sp img) us))
  grows sp q un l lim h =
      let lt = ltb-true n new h in
      let B = sp.unit in
      let p = un.some in
      let a = round_enough n B p in
      let c = round_mono n new B p (omega arith) in
      let k = round_up new B - length us in
      let w : ws ≡ us ++ take k (free_units sp) =
      new_units_are sp q ∙ ap (λ (j : ℕ). take j (us ++ free_units sp)) (let x : round_up new B ≡ length us + k = omega arith in x) ∙ take-append-add us (free_units sp) k in
      let x : n ≤ length us * B = omega (arith, a, ap (λ (j : ℕ). j * B) l) in
      let y : length us * B ≤ length ws * B =
      mul-le-mul_right B (let t : length us ≤ length ws = omega (arith, ap length w, length-append us (take k (free_units sp))) in t) in (
        x,
        omega (arith, x, y),
        ap (λ (t : List ℕ). take n (laid (block sp img) t)) w
            ∙ laid_prefix (block sp img) B us (take k (free_units sp)) n (λ s r. block_length sp (length img) un img refl s (lim s r)) x,
      )

  pub resized_is : resized v img e new ≡ with_entry g dirs (edit_space v e new) img us ws n new e
  unfolding resized entry_written tail_zeroed with_cells with_data with_entry stamped_in volume
  resized_is = rw m.differs

  pub unit_some : (t : Bool) → 0 < (cond t v.minis v.sectors).unit
  unit_some true = (mini_units g z img sound).some
  unit_some false = (sector_units g z img sound).some

  pub no_units : n ≡ 0 → us ≡ []
  unfolding stream_units units_for stream_size units space_for
  no_units q =
      let sp = space_for v (stream_size v e) in
      ap (λ (k : ℕ). units sp.cell k (start (v.directory.entry e)))
      (ap (λ (k : ℕ). round_up k sp.unit) q ∙ round_zero sp.unit (unit_some (ltb (stream_size v e) cutoff)))

  -- the new length is a number of 32 bits: it is below the cutoff, or the image has room for it
  pub fits : new < 0x1_0000_0000
  unfolding edit_space
  fits = go (ltb M cutoff) refl
    where
      linked : ltb M cutoff ≡ false → Linked (fat_cell g img) (sector_count g img) us
      linked h = by (ltb n cutoff) refl
        where
          by : (t : Bool) → ltb n cutoff ≡ t → Linked (fat_cell g img) (sector_count g img) us
          by true k = subst (λ (l : List ℕ). Linked (fat_cell g img) (sector_count g img) l) (sym (no_units (not_crossed n new m.within h k))) tt
          by false k = stream_in_sectors g z img groups e m.inside m.stream k

      go : (t : Bool) → ltb M cutoff ≡ t → new < 0x1_0000_0000
      go true h = small_new n new h
      go false h =
          let N = sector_count g img in
          let f = sound.few in
          let p = pool_short (fat_cell g img) N (omega arith) us (linked h) in
          let q = enough v.sectors (space_large v M h) in
          let B = v.sectors.unit in
          let r = round_enough new B (sector_units g z img sound).some in
          let k : round_up new B ≤ N = omega (arith, q, p, ap length (sectors_free g img)) in
          let t = mul-le-mul_left B k in
          omega (arith, r, t, mul_comm B (round_up new B), ap (λ (x : ℕ). x * N) (sector_unit_lem g img), sound.long, sound.short)

  -- what the written entry says
  pub entry_new : (w : Bytes) → start_of ws < 0x1_0000_0000 → (volume g w).directory.entry e ≡ stamped (v.directory.entry e) (start_of ws) new
      → SameFields (v.directory.entry e) ((volume g w).directory.entry e) × (start ((volume g w).directory.entry e) ≡ start_of ws) × (stream_size (volume g w) e ≡ new)
  unfolding stream_size size_of volume directory directory_of
  entry_new w hs q =
      let b = v.directory.entry e in
      let l : length b ≡ 128 = ap length (entry_is g img e) ∙ entry_length g z (length img) dirs directory_table_lem img e 0 0 entry_inside refl in (
        subst (λ (x : Bytes). SameFields b x) (sym q) (fields_new b (start_of ws) new l hs fits entry_facts.1 entry_facts.2),
        ap start q ∙ start_new b (start_of ws) new l hs fits,
        ap (size (size_width g)) q ∙ size_new b (start_of ws) new l hs fits (size_width g) (size_counts g),
      )
