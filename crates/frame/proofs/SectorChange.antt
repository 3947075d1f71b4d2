-- A change of length in sectors.
use mathlib.Core.Path.{◌≡◌, refl, sym, ap, ◌∙◌, subst}
use mathlib.Core.Logic.{◌≢◌, inl, inr}
use mathlib.Core.List.{List, [], ◌++◌}
use mathlib.Core.Bool.{Bool, true, false}
use Prim.Native.Nat.{ℕ, ◌+◌, ◌*◌, ◌≤◌, ◌<◌, max, min}
use native.Mathlib.Decide.{dec_lt}
use native.Mathlib.Omega.{arith}
use lib.Dec.{eqb, ltb}
use lib.ListN.{length, take}
use borrow.Author.Tests.{ne_eqb, le-ltb}
use Rattle.format.specs.Basics.Lists.{count, member}
use Rattle.format.specs.Basics.Bytes.{Bytes}
use Rattle.format.specs.Layout.Geometry.{Geometry, cells_in, mini_bytes, sector_count}
use Rattle.format.specs.Layout.Need.{cutoff, round_up}
use Rattle.format.specs.Layout.Chain.{FREE, END, FATSECT, DIFSECT, start_of}
use Rattle.format.specs.Layout.Space.{Space, free_units, block}
use Rattle.format.specs.Layout.Tables.{cell_in, fat_sectors, difat_sectors, fat_cell}
use Rattle.format.specs.Layout.Entry.{size, start}
use Rattle.format.specs.Layout.Directory.{entry_in}
use Rattle.format.specs.Layout.Volume.{Volume, volume, system_sectors, mini_cells, directory_sectors_of, mini_fat_sectors, mini_stream_sectors, directory}
use Rattle.format.specs.Layout.Stream.{stream_units, stream_size}
use Rattle.format.specs.Calls.SetLength.{edit_space, new_units}
use Rattle.theory.specs.Links.{Linked, rechain}
use Rattle.theory.specs.Blocks.{target}
use Rattle.theory.proofs.Chains.{linked_below, linked_agree}
use Rattle.theory.specs.Owned.{MayBecome}
use Rattle.theory.proofs.FreeUnits.{resized_becomes, resized_front}
use Rattle.frame.specs.Kept.{Sized, Kept, Off}
use Rattle.frame.proofs.Blocks.{block_length}
use Rattle.frame.proofs.Sound.{Sound, sound_of, marks_of_lem}
use Rattle.frame.proofs.Views.{kept_fat}
use Rattle.frame.specs.Edits.{in_sectors, in_minis, MayResize, IsResized}
use Rattle.frame.proofs.Parts.{RootKept, root_kept, fat_cells_is, fat_cell_is, system_apart, fat_in, difat_in_lem, dirs_in, mini_fat_in, mini_stream_in, table_of, sector_units, mini_units, kept_entry, preserved, kept_mini_cell, mini_block, sector_place_lem, entry_is, entry_at}
use Rattle.frame.proofs.Streams.{space_large, in_sectors_large, in_minis_large, stream_in_sectors, stream_units_long, stream_apart}
use Rattle.frame.proofs.Writing.{sectors_put, sector_limit_lem, sector_cell, sector_block_at, sector_sized_lem}
use Rattle.frame.proofs.Entry.{stamped}
use Rattle.frame.proofs.Edited.{Setup, with_entry, touched_count, edit_kept, edit_cells, edit_other, edit_same, edit_bytes}
use Rattle.frame.proofs.Change.{relinked_at, refilled_at, same_cells, start_word, sectors_free, sectors_place, entry_facts, entry_inside, directory_table_lem, new_units_are, grows, no_units, entry_new}
use Rattle.frame.specs.Groups.{ImageGroups}
use Rattle.frame.proofs.Crossing.{not_crossed}
use Rattle.theory.proofs.RoundUp.{round_zero}
use Rattle.theory.proofs.Relinks.{rechain_ext, rechain_out, rechain_not}
use Rattle.frame.proofs.Accepted.{accepted_kept}

module _ (g : Geometry) (z : Sized g) (img : Bytes) (e new : ℕ) (m : MayResize g img e new) (hb : ltb (max (stream_size (volume g img) e) new) cutoff ≡ false) where
  abbrev v : Volume
  v = volume g img

  abbrev n : ℕ
  n = stream_size (volume g img) e

  abbrev M : ℕ
  M = max (stream_size (volume g img) e) new

  abbrev us : List ℕ
  us = stream_units (volume g img) e

  abbrev ws : List ℕ
  ws = new_units (volume g img) e new

  abbrev dirs : List ℕ
  dirs = directory_sectors_of g img

  groups : ImageGroups g img
  groups = accepted_kept g img m.accepted

  sound : Sound g img
  sound = sound_of g z img groups

  abbrev N : ℕ
  N = sector_count g img

  pub space_is_sectors : edit_space v e new ≡ v.sectors
  unfolding edit_space
  space_is_sectors = space_large v M hb

  lim : N ≤ END
  lim = let f = sound.few in omega arith

  by_size : {P : Type 0} → (ltb n cutoff ≡ false → P) → (n ≡ 0 → P) → P
  by_size {P} f k = go (ltb n cutoff) refl
    where
      go : (t : Bool) → ltb n cutoff ≡ t → P
      go true h = k (not_crossed n new m.within hb h)
      go false h = f h

  linked : Linked (fat_cell g img) N us
  linked = by_size (stream_in_sectors g z img groups e m.inside m.stream) (λ q. subst (λ (l : List ℕ). Linked (fat_cell g img) N l) (sym (no_units g z img e new m q)) tt)

  long : length us ≡ round_up n v.sectors.unit
  long =
      by_size (λ h. stream_units_long g z img groups e m.inside m.stream ∙ ap (λ (s : Space). round_up n s.unit) (space_large v n h))
      (λ q. ap length (no_units g z img e new m q) ∙ sym (ap (λ (k : ℕ). round_up k v.sectors.unit) q ∙ round_zero v.sectors.unit (sector_units g z img sound).some))

  us_sys : (s : ℕ) → 0 < count s us → count s (system_sectors v) ≡ 0
  us_sys s p = by_size (λ h. stream_apart g z img groups e m.inside m.stream h s p) (λ q. absurd (omega (arith, p, ap (count s) (no_units g z img e new m q))))

  becomes : MayBecome N (fat_cell g img) us ws
  becomes =
      subst (λ (l : List ℕ). MayBecome N (fat_cell g img) us l) (sym (new_units_are g z img e new m v.sectors space_is_sectors ∙ ap (λ (l : List ℕ). take (round_up new v.sectors.unit) (us ++ l)) (sectors_free g img)))
      (resized_becomes (fat_cell g img) N lim us linked (round_up new v.sectors.unit))

  ws_sys : (s : ℕ) → 0 < count s ws → count s (system_sectors v) ≡ 0
  ws_sys s p =
      elim (becomes.from s p).1 [
        | inl a ↦ us_sys s a
        | inr a ↦ elim (dec_lt 0 (count s (system_sectors v))) [ yes k ↦ absurd (sound.allocated s k a) | no k ↦ omega arith ]
      ]

  ws_off : (s : ℕ) → 0 < count s (system_sectors v) → count s ws ≡ 0
  ws_off s p = elim (dec_lt 0 (count s ws)) [ yes k ↦ absurd (omega (arith, ws_sys s k)) | no k ↦ omega arith ]

  us_off : (s : ℕ) → 0 < count s (system_sectors v) → count s us ≡ 0
  us_off s p = elim (dec_lt 0 (count s us)) [ yes k ↦ absurd (omega (arith, us_sys s k)) | no k ↦ omega arith ]

  us_lim : (u : ℕ) → 0 < count u us → u < v.sectors.limit
  us_lim u p = rw (sector_limit_lem g img) (linked_below (fat_cell g img) N us linked u p)

  ws_lim : (u : ℕ) → 0 < count u ws → u < v.sectors.limit
  ws_lim u p = rw (sector_limit_lem g img) (becomes.from u p).0

  cells_in_lem : (u : ℕ) → u < v.sectors.limit → u < cells_in g * length (fat_sectors g img)
  cells_in_lem u p = omega (arith, p, sector_limit_lem g img, sound.enough, fat_cells_is g img)

  front : take (min (length us) (length ws)) us ≡ take (min (length us) (length ws)) ws
  front =
      subst (λ (l : List ℕ). take (min (length us) (length l)) us ≡ take (min (length us) (length l)) l) (sym (new_units_are g z img e new m v.sectors space_is_sectors))
      (resized_front (round_up new v.sectors.unit) us (free_units v.sectors))

  setup : Setup g img v.sectors (fat_sectors g img) ws dirs us ws n new e (λ u. count u (system_sectors v) ≡ 0)
  setup =
      record {
        table = table_of g z img sound (fat_sectors g img) (fat_in g z img sound);
        directory_table = (directory_table_lem g z img e new m);
        places = sectors_place g img;
        units = sector_units g z img sound;
        old_cells = λ u p. cells_in_lem u (us_lim u p);
        new_cells = λ u p. cells_in_lem u (ws_lim u p);
        old_below = us_lim;
        new_below = ws_lim;
        new_words = λ u p. let f = sound.few in omega (arith, (becomes.from u p).0);
        once = becomes.diff;
        few = rw (sector_limit_lem g img) lim;
        chain = subst (λ (k : ℕ). Linked (cell_in g img (fat_sectors g img) (cells_in g * length (fat_sectors g img))) k us) (sym (sector_limit_lem g img))
            (linked_agree (fat_cell g img) (cell_in g img (fat_sectors g img) (cells_in g * length (fat_sectors g img))) N us (λ s p. sym (fat_cell_is g img s)) linked);
        front = front;
        inside = (entry_inside g z img e new m);
        apart = λ s.
            elim (dec_lt 0 (count s ws)) [
              | yes k ↦ omega (arith, ws_sys s k, fat_in g z img sound s, dirs_in g z img sound s, becomes.diff s)
              | no k ↦ omega (arith, system_apart g z img sound s)
            ];
        put_kept = sectors_put g z img sound ws becomes.diff ws_lim;
        new_allowed = ws_sys;
        block_kept = λ T a b x h u l k.
            sector_place_lem g img T a b x u (elim (dec_lt 0 (count u T)) [ yes c ↦ absurd (omega (arith, h u c, k, fat_in g z img sound u, dirs_in g z img sound u)) | no c ↦ omega arith ]);
        grows = grows g z img e new m v.sectors space_is_sectors (sector_units g z img sound) long us_lim;
      }

  abbrev w : Bytes
  w = with_entry g dirs v.sectors img us ws n new e

  abbrev T : List ℕ
  T = fat_sectors g img ++ ws ++ dirs

  T_count : (s : ℕ) → count s T ≡ count s (fat_sectors g img) + count s ws + count s dirs
  T_count = touched_count g z img v.sectors (fat_sectors g img) ws dirs us ws n new e (λ u. count u (system_sectors v) ≡ 0) setup

  K : Kept g (Off T) img w
  K = edit_kept g z img v.sectors (fat_sectors g img) ws dirs us ws n new e (λ u. count u (system_sectors v) ≡ 0) setup

  off : (l : List ℕ) → ((s : ℕ) → count s l ≤ count s (system_sectors v)) → ((s : ℕ) → count s (fat_sectors g img) + count s dirs + count s l ≤ 1) → (s : ℕ) → 0 < count s l → count s T ≡ 0
  off l f h s p = omega (arith, T_count s, h s, ws_off s (omega (arith, f s)))

  off_difat : (s : ℕ) → 0 < count s (difat_sectors g img) → count s T ≡ 0
  off_difat = off (difat_sectors g img) (difat_in_lem g z img sound) (λ s. omega (arith, system_apart g z img sound s))

  cell : (s : ℕ) → fat_cell g w s ≡ rechain us ws (fat_cell g img) s
  cell s =
      fat_cell_is g w s ∙ ap (λ (l : List ℕ). cell_in g w l (cells_in g * length l) s) (kept_fat g z T img w K sound.needs off_difat)
      ∙ edit_cells g z img v.sectors (fat_sectors g img) ws dirs us ws n new e (λ u. count u (system_sectors v) ≡ 0) setup s
      ∙ rechain_ext us ws (cell_in g img (fat_sectors g img) (cells_in g * length (fat_sectors g img))) (fat_cell g img) s (sym (fat_cell_is g img s))

  cell_sys : (s : ℕ) → 0 < count s (system_sectors v) → fat_cell g w s ≡ fat_cell g img s
  cell_sys s p = cell s ∙ rechain_out us ws (fat_cell g img) s (us_off s p) (omega (arith, ws_off s p))

  cells : (s : ℕ) → 0 < count s (directory_sectors_of g img) + count s (mini_fat_sectors g img) + count s (mini_stream_sectors g img) → fat_cell g w s ≡ fat_cell g img s
  cells s p =
      cell_sys s
      (elim (dec_lt 0 (count s (directory_sectors_of g img))) [
        | yes k ↦ omega (arith, dirs_in g z img sound s)
        | no k ↦ elim (dec_lt 0 (count s (mini_fat_sectors g img))) [ yes j ↦ omega (arith, mini_fat_in g z img sound s) | no j ↦ omega (arith, mini_stream_in g z img sound s) ]
      ])

  other : (i : ℕ) → i ≢ e → entry_in g w dirs i ≡ entry_in g img dirs i
  other = edit_other g z img v.sectors (fat_sectors g img) ws dirs us ws n new e (λ u. count u (system_sectors v) ≡ 0) setup

  entry0 : RootKept g img w
  entry0 = root_kept g img w (other 0 (λ q. (entry_facts g z img e new m).0 (sym q)))

  same_entry : (volume g w).directory.entry e ≡ stamped (v.directory.entry e) (start_of ws) new
  same_entry =
      entry_at g z T img w K sound off_difat cells entry0 e
      ∙ edit_same g z img v.sectors (fat_sectors g img) ws dirs us ws n new e (λ u. count u (system_sectors v) ≡ 0) setup
      ∙ ap (λ (b : Bytes). stamped b (start_of ws) new) (sym (entry_is g img e))

  -- no cell becomes a mark, and none g z img e new m that is one changes
  mark : (c : ℕ) → c ≢ END → c ≢ FREE → N ≤ c → (s : ℕ) → s < N → (l : List ℕ) → ((t : ℕ) → count t l ≤ count t (system_sectors v)) → eqb (fat_cell g img s) c ≡ member s l
      → eqb (fat_cell g w s) c ≡ eqb (fat_cell g img s) c
  unfolding member
  mark c n1 n2 hc s hs l f q =
      elim (dec_lt 0 (count s us + count s ws)) [
        | yes p ↦
            let y : count s (system_sectors v) ≡ 0 = elim (dec_lt 0 (count s us)) [ yes k ↦ us_sys s k | no k ↦ ws_sys s (omega arith) ] in
            let o : count c ws ≡ 0 = elim (dec_lt 0 (count c ws)) [ yes k ↦ absurd (omega (arith, (becomes.from c k).0)) | no k ↦ omega arith ] in
            ne_eqb (fat_cell g w s) c (λ t. rechain_not us ws (fat_cell g img) s c n1 n2 o p (sym (cell s) ∙ t)) ∙ sym (q ∙ le-ltb 0 (count s l) (omega (arith, f s, y)))
        | no p ↦ ap (λ (x : ℕ). eqb x c) (cell s ∙ rechain_out us ws (fat_cell g img) s (omega arith) (omega arith))
      ]

  out : (l : List ℕ) → ((u : ℕ) → 0 < count u l → u < v.sectors.limit) → (u : ℕ) → v.sectors.limit ≤ u → count u l ≡ 0
  out l h u k = elim (dec_lt 0 (count u l)) [ yes p ↦ absurd (omega (arith, h u p)) | no p ↦ omega arith ]

  mini_same : (u : ℕ) → u < v.minis.limit → block (volume g w).minis w u ≡ block v.minis img u
  mini_same = mini_block g z T img w K sound off_difat cells entry0 (off (mini_stream_sectors g img) (mini_stream_in g z img sound) (λ s. omega (arith, system_apart g z img sound s)))

  pub in_sectors_lem : IsResized g img e new M w
  in_sectors_lem =
      let t = entry_new g z img e new m w (start_word ws setup.new_words) same_entry in
      record {
        kept = preserved g z T img w K sound off_difat cells entry0 groups
            (λ s l. (
              mark FATSECT (omega arith) (omega arith) (let f = sound.few in omega arith) s l (fat_sectors g img) (fat_in g z img sound) (marks_of_lem g z img groups s l).0,
              mark DIFSECT (omega arith) (omega arith) (let f = sound.few in omega arith) s l (difat_sectors g img) (difat_in_lem g z img sound) (marks_of_lem g z img groups s l).1,
            ));
        others = λ i q. kept_entry g z T img w K sound off_difat cells entry0 i (other i q);
        fields = t.0;
        start = t.1;
        size = t.2;
        sector_cells = relinked_at v.sectors (volume g w).sectors us (in_sectors M us) ws (in_sectors M ws) (in_sectors_large M us hb) (in_sectors_large M ws hb)
            (record {
              cells = λ u l. sector_cell g w u ∙ cell u ∙ rechain_ext us ws (fat_cell g img) v.sectors.cell u (sym (sector_cell g img u));
              rest = λ u l. sector_cell g w u ∙ cell u ∙ rechain_out us ws (fat_cell g img) u (out us us_lim u l) (out ws ws_lim u l) ∙ sym (sector_cell g img u);
            });
        mini_cells = relinked_at v.minis (volume g w).minis [] (in_minis M us) [] (in_minis M ws) (in_minis_large M us hb) (in_minis_large M ws hb)
            (same_cells v.minis (volume g w).minis (kept_mini_cell g z T img w K sound off_difat cells entry0 (off (mini_fat_sectors g img) (mini_fat_in g z img sound) (λ s. omega (arith, system_apart g z img sound s)))));
        sector_bytes = refilled_at v.sectors (volume g w).sectors img w (system_sectors v) ws (in_sectors M ws) (target v.sectors.unit (block v.sectors img) us ws n new) (in_sectors_large M ws hb)
            (record {
              bytes = λ u l q. sector_block_at g img w u
                  ∙ edit_bytes g z img v.sectors (fat_sectors g img) ws dirs us ws n new e (λ u. count u (system_sectors v) ≡ 0) setup u l q;
              sized = λ u l. sector_sized_lem g z img w sound K.size u l;
            });
        mini_bytes = refilled_at v.minis (volume g w).minis img w [] [] (in_minis M ws) (target v.minis.unit (block v.minis img) us ws n new) (in_minis_large M ws hb)
            (record {
              bytes = λ u l q. mini_same u l;
              sized = λ u l. ap length (mini_same u l) ∙ block_length v.minis (length img) (mini_units g z img sound) img refl u l;
            });
      }
