-- A change of length in mini sectors.
use mathlib.Core.Path.{◌≡◌, sym, ap, ◌∙◌, subst}
use mathlib.Core.Logic.{◌≢◌}
use mathlib.Core.List.{List, [], ◌++◌}
use mathlib.Core.Bool.{true}
use Prim.Native.Nat.{ℕ, ◌+◌, ◌*◌, ◌≤◌, ◌<◌, max, min}
use native.Mathlib.Decide.{dec_lt}
use native.Mathlib.Omega.{arith}
use lib.Dec.{eqb, ltb}
use lib.ListN.{length, take}
use Rattle.format.specs.Basics.Lists.{count}
use Rattle.format.specs.Basics.Bytes.{Bytes}
use Rattle.format.specs.Layout.Geometry.{Geometry, cells_in, mini_bytes}
use Rattle.format.specs.Layout.Need.{cutoff, round_up}
use Rattle.format.specs.Layout.Chain.{END, FATSECT, DIFSECT, start_of}
use Rattle.format.specs.Layout.Space.{Space, free_units, block}
use Rattle.format.specs.Layout.Tables.{cell_in, difat_sectors, fat_cell}
use Rattle.format.specs.Layout.Entry.{size, start}
use Rattle.format.specs.Layout.Directory.{entry_in}
use Rattle.format.specs.Layout.Volume.{Volume, volume, system_sectors, mini_cells, directory_sectors_of, mini_fat_sectors, mini_stream_sectors, directory}
use Rattle.format.specs.Layout.Stream.{stream_units, stream_size}
use Rattle.format.specs.Calls.SetLength.{edit_space, new_units}
use Rattle.theory.specs.Links.{Linked, rechain}
use Rattle.theory.specs.Blocks.{target}
use Rattle.theory.proofs.Chains.{linked_below, linked_agree}
use Rattle.theory.specs.Owned.{MayBecome}
use Rattle.theory.proofs.FreeUnits.{resized_becomes, resized_front}
use Rattle.frame.specs.Kept.{Sized, Kept, Off}
use Rattle.frame.proofs.Blocks.{block_length}
use Rattle.frame.proofs.Sound.{Sound, sound_of}
use Rattle.frame.specs.Edits.{in_sectors, in_minis, MayResize, IsResized}
use Rattle.frame.proofs.Parts.{RootKept, root_kept, mini_cells_is, mini_cell_is, system_apart, dirs_in, mini_fat_in, mini_stream_in, table_of, mini_units, kept_fat_cell, sector_block, kept_entry, preserved, mini_cell_at, mini_block_at, mini_place, entry_is, entry_at}
use Rattle.frame.proofs.Streams.{space_small, in_sectors_small, in_minis_small, stream_in_minis, stream_units_long, mini_few}
use Rattle.frame.proofs.Writing.{minis_put, sector_cell, sector_sized_lem}
use Rattle.frame.proofs.Entry.{stamped}
use Rattle.frame.proofs.Edited.{Setup, with_entry, touched_count, edit_kept, edit_cells, edit_other, edit_same, edit_bytes}
use Rattle.frame.proofs.Change.{relinked_at, refilled_at, same_cells, start_word, minis_place, entry_facts, entry_inside, directory_table_lem, new_units_are, grows, entry_new}
use Rattle.frame.specs.Groups.{ImageGroups}
use Rattle.frame.proofs.Crossing.{small_both}
use Rattle.theory.proofs.Relinks.{rechain_ext, rechain_out}
use Rattle.frame.proofs.Accepted.{accepted_kept}

module _ (g : Geometry) (z : Sized g) (img : Bytes) (e new : ℕ) (m : MayResize g img e new) (hs : ltb (max (stream_size (volume g img) e) new) cutoff ≡ true) where
  abbrev v : Volume
  v = volume g img

  abbrev n : ℕ
  n = stream_size (volume g img) e

  abbrev M : ℕ
  M = max (stream_size (volume g img) e) new

  abbrev us : List ℕ
  us = stream_units (volume g img) e

  abbrev ws : List ℕ
  ws = new_units (volume g img) e new

  abbrev dirs : List ℕ
  dirs = directory_sectors_of g img

  groups : ImageGroups g img
  groups = accepted_kept g img m.accepted

  sound : Sound g img
  sound = sound_of g z img groups

  abbrev C : ℕ
  C = v.minis.limit

  abbrev mf : List ℕ
  mf = mini_fat_sectors g img

  abbrev ms : List ℕ
  ms = mini_stream_sectors g img

  pub space_is_minis : edit_space v e new ≡ v.minis
  unfolding edit_space
  space_is_minis = space_small v M hs

  n_small : ltb n cutoff ≡ true
  n_small = small_both n new hs

  lim : C ≤ END
  lim = let f = mini_few g z img groups sound in omega arith

  linked : Linked v.minis.cell C us
  linked = stream_in_minis g z img groups e m.inside m.stream n_small

  long : length us ≡ round_up n v.minis.unit
  long = stream_units_long g z img groups e m.inside m.stream ∙ ap (λ (s : Space). round_up n s.unit) (space_small v n n_small)

  becomes : MayBecome C v.minis.cell us ws
  unfolding free_units
  becomes =
      subst (λ (l : List ℕ). MayBecome C v.minis.cell us l) (sym (new_units_are g z img e new m v.minis space_is_minis))
      (resized_becomes v.minis.cell C lim us linked (round_up new v.minis.unit))

  us_lim : (u : ℕ) → 0 < count u us → u < C
  us_lim = linked_below v.minis.cell C us linked

  ws_lim : (u : ℕ) → 0 < count u ws → u < C
  ws_lim u p = (becomes.from u p).0

  cells_in_lem : (u : ℕ) → u < C → u < cells_in g * length mf
  cells_in_lem u p = omega (arith, p, sound.mini_enough, mini_cells_is g img)

  abbrev any_unit : ℕ → Type 0
  any_unit u = Unit {0}

  front : take (min (length us) (length ws)) us ≡ take (min (length us) (length ws)) ws
  front =
      subst (λ (l : List ℕ). take (min (length us) (length l)) us ≡ take (min (length us) (length l)) l) (sym (new_units_are g z img e new m v.minis space_is_minis))
      (resized_front (round_up new v.minis.unit) us (free_units v.minis))

  setup : Setup g img v.minis mf ms dirs us ws n new e any_unit
  setup =
      record {
        table = table_of g z img sound mf (mini_fat_in g z img sound);
        directory_table = (directory_table_lem g z img e new m);
        places = minis_place g img;
        units = mini_units g z img sound;
        old_cells = λ u p. cells_in_lem u (us_lim u p);
        new_cells = λ u p. cells_in_lem u (ws_lim u p);
        old_below = us_lim;
        new_below = ws_lim;
        new_words = λ u p. let f = mini_few g z img groups sound in omega (arith, ws_lim u p);
        once = becomes.diff;
        few = lim;
        chain = linked_agree v.minis.cell (cell_in g img mf (cells_in g * length mf)) C us (λ s p. sym (mini_cell_is g img s)) linked;
        front = front;
        inside = (entry_inside g z img e new m);
        apart = λ s. omega (arith, system_apart g z img sound s);
        put_kept = minis_put g z img sound ws becomes.diff ws_lim;
        new_allowed = λ u p. tt;
        block_kept = λ T a b x h u l k.
            mini_place g z img sound T a b x (λ s p. elim (dec_lt 0 (count s T)) [ yes c ↦ absurd (omega (arith, h s c, p, system_apart g z img sound s)) | no c ↦ omega arith ]) u l;
        grows = grows g z img e new m v.minis space_is_minis (mini_units g z img sound) long us_lim;
      }

  abbrev w : Bytes
  w = with_entry g dirs v.minis img us ws n new e

  abbrev T : List ℕ
  T = mf ++ ms ++ dirs

  T_count : (s : ℕ) → count s T ≡ count s mf + count s ms + count s dirs
  T_count = touched_count g z img v.minis mf ms dirs us ws n new e any_unit setup

  K : Kept g (Off T) img w
  K = edit_kept g z img v.minis mf ms dirs us ws n new e any_unit setup

  off_difat : (s : ℕ) → 0 < count s (difat_sectors g img) → count s T ≡ 0
  off_difat s p = omega (arith, T_count s, system_apart g z img sound s)

  cell : (s : ℕ) → fat_cell g w s ≡ fat_cell g img s
  cell = kept_fat_cell g z T img w K sound off_difat (λ s p. omega (arith, T_count s, system_apart g z img sound s))

  cells : (s : ℕ) → 0 < count s (directory_sectors_of g img) + count s (mini_fat_sectors g img) + count s (mini_stream_sectors g img) → fat_cell g w s ≡ fat_cell g img s
  cells s p = cell s

  other : (i : ℕ) → i ≢ e → entry_in g w dirs i ≡ entry_in g img dirs i
  other = edit_other g z img v.minis mf ms dirs us ws n new e any_unit setup

  entry0 : RootKept g img w
  entry0 = root_kept g img w (other 0 (λ q. (entry_facts g z img e new m).0 (sym q)))

  same_entry : (volume g w).directory.entry e ≡ stamped (v.directory.entry e) (start_of ws) new
  same_entry =
      entry_at g z T img w K sound off_difat cells entry0 e
      ∙ edit_same g z img v.minis mf ms dirs us ws n new e any_unit setup
      ∙ ap (λ (b : Bytes). stamped b (start_of ws) new) (sym (entry_is g img e))

  mini_cell_lem : (s : ℕ) → (volume g w).minis.cell s ≡ rechain us ws v.minis.cell s
  mini_cell_lem s =
      mini_cell_at g z T img w K sound off_difat cells entry0 s
      ∙ edit_cells g z img v.minis mf ms dirs us ws n new e any_unit setup s
      ∙ rechain_ext us ws (cell_in g img mf (cells_in g * length mf)) v.minis.cell s (sym (mini_cell_is g img s))

  out_mini : (l : List ℕ) → ((u : ℕ) → 0 < count u l → u < C) → (u : ℕ) → C ≤ u → count u l ≡ 0
  out_mini l h u k = elim (dec_lt 0 (count u l)) [ yes p ↦ absurd (omega (arith, h u p)) | no p ↦ omega arith ]

  pub in_minis_lem : IsResized g img e new M w
  in_minis_lem =
      let t = entry_new g z img e new m w (start_word ws setup.new_words) same_entry in
      record {
        kept = preserved g z T img w K sound off_difat cells entry0 groups
            (λ s l. (ap (λ (c : ℕ). eqb c FATSECT) (cell s), ap (λ (c : ℕ). eqb c DIFSECT) (cell s)));
        others = λ i q. kept_entry g z T img w K sound off_difat cells entry0 i (other i q);
        fields = t.0;
        start = t.1;
        size = t.2;
        sector_cells = relinked_at v.sectors (volume g w).sectors [] (in_sectors M us) [] (in_sectors M ws) (in_sectors_small M us hs) (in_sectors_small M ws hs)
            (same_cells v.sectors (volume g w).sectors (λ u. sector_cell g w u ∙ cell u ∙ sym (sector_cell g img u)));
        mini_cells = relinked_at v.minis (volume g w).minis us (in_minis M us) ws (in_minis M ws) (in_minis_small M us hs) (in_minis_small M ws hs)
            (record {
              cells = λ u l. mini_cell_lem u;
              rest = λ u l. mini_cell_lem u ∙ rechain_out us ws v.minis.cell u (out_mini us us_lim u l) (out_mini ws ws_lim u l);
            });
        sector_bytes = refilled_at v.sectors (volume g w).sectors img w (system_sectors v) [] (in_sectors M ws) (target v.sectors.unit (block v.sectors img) us ws n new) (in_sectors_small M ws hs)
            (record {
              bytes = λ u l q. sector_block g z T img w K sound off_difat u
                  (omega (arith, T_count u, mini_fat_in g z img sound u, mini_stream_in g z img sound u, dirs_in g z img sound u, q));
              sized = λ u l. sector_sized_lem g z img w sound K.size u l;
            });
        mini_bytes = refilled_at v.minis (volume g w).minis img w [] ws (in_minis M ws) (target v.minis.unit (block v.minis img) us ws n new) (in_minis_small M ws hs)
            (record {
              bytes = λ u l q. mini_block_at g z T img w K sound off_difat cells entry0 u
                  ∙ edit_bytes g z img v.minis mf ms dirs us ws n new e any_unit setup u l tt;
              sized = λ u l. ap length (mini_block_at g z T img w K sound off_difat cells entry0 u) ∙ block_length v.minis (length img) (mini_units g z img sound) w K.size u l;
            });
      }
