-- Who owns the sectors of a fresh image: the system, in one run, and nobody else.
use Prim.Native.Nat.{ℕ, ◌+◌, ◌≤◌, ◌<◌}
use mathlib.Core.Path.{◌≡◌, refl, sym, ap, ◌∙◌}
use mathlib.Core.Logic.{◌≢◌, inl, inr}
use mathlib.Core.Bool.{Bool, true, false}
use mathlib.Core.List.{[], ◌++◌}
use native.Mathlib.Nat.{zero-add}
use native.Mathlib.Omega.{arith}
use native.Mathlib.Decide.{dec_lt}
use lib.ListN.{length, get_or}
use Rattle.format.specs.Basics.Lists.{count}
use Rattle.format.specs.Basics.Bytes.{Bytes}
use Rattle.format.specs.Layout.Geometry.{Geometry}
use Rattle.format.specs.Layout.Chain.{FREE}
use Rattle.format.specs.Layout.Tables.{sector_space}
use Rattle.format.specs.Layout.Volume.{Volume, volume, system_sectors, directory}
use Rattle.theory.specs.Sums.{owners, lengths}
use Rattle.theory.specs.Owned.{Owned}
use Rattle.theory.proofs.Below.{list_below_ext, length_below, get_or_below}
use Rattle.theory.proofs.Counts.{sum_zero}
use Rattle.theory.proofs.ListSums.{lengths_below}
use Rattle.theory.proofs.OwnerCounts.{owner_place}
use Rattle.frame.specs.Kept.{Sized}
use Rattle.frame.specs.Good.{space_of, system_of, units_of, entry_units}
use Rattle.format.specs.Fresh.Plan.{Plan, fat_part, difat_part, directory_from, mini_fat_from, mini_stream_from, spare_from, mini_stream_part}
use Rattle.format.specs.Fresh.Cells.{link_in, fresh_cell}
use Rattle.format.specs.Fresh.Image.{fresh_image}
use Rattle.fresh.specs.Facts.{Headed, Planned}
use Rattle.fresh.specs.Run.{run}
use Rattle.fresh.proofs.Runs.{run_append, run_once, run_past, length_run}
use Rattle.fresh.proofs.Numbers.{Order, order}
use Rattle.fresh.proofs.Header.{sector_count_lem}
use Rattle.fresh.proofs.Cells.{cell_fat, cell_difat, cell_directory, cell_mini_fat, cell_stream, cell_free, link_cases}
use Rattle.fresh.proofs.Difat.{fat_sectors_are, difat_sectors_are}
use Rattle.fresh.proofs.Tables.{fat_cell_is}
use Rattle.fresh.proofs.Directory.{directory_sectors_are, entry_count_is, no_stream}
use Rattle.fresh.proofs.Minis.{mini_fat_sectors_are, mini_stream_sectors_are, mini_cell_free}

module _ (g : Geometry) (p : Plan) (h : Headed g) (q : Planned g p) where
  abbrev z : Sized g
  z = h.sized

  abbrev img : Bytes
  img = fresh_image g p

  abbrev v : Volume
  v = volume g img

  abbrev o : Order g p z q
  o = order g p z q

  -- ---- the system's sectors

  join_run : (n m s : ℕ) → s ≡ n → run 0 n ++ run s m ≡ run 0 (n + m)
  join_run n m s e = rw e (ap (λ t. run 0 n ++ run t m) (sym (zero-add n)) ∙ run_append 0 n m)

  pub system_run : system_sectors v ≡ run 0 (spare_from g p)
  unfolding system_sectors volume
  system_run =
      rw (
        fat_sectors_are g p h q,
        difat_sectors_are g p h q,
        directory_sectors_are g p h q,
        mini_fat_sectors_are g p h q,
        mini_stream_sectors_are g p h q,
        join_run (fat_part g p) (difat_part g p) (fat_part g p) refl,
        ← o.directory,
        join_run (directory_from g p) p.directory (directory_from g p) refl,
        ← o.mini_fat,
        join_run (mini_fat_from g p) p.mini_fat (mini_fat_from g p) refl,
        ← o.mini_stream,
        join_run (mini_stream_from g p) (mini_stream_part g p) (mini_stream_from g p) refl,
        ← o.free,
      )

  pub system_length : length (system_sectors v) ≡ spare_from g p
  system_length = rw system_run (length_run 0 (spare_from g p))

  count_in : (s : ℕ) → s < spare_from g p → count s (system_sectors v) ≡ 1
  count_in s l = rw system_run (run_once 0 (spare_from g p) s (omega arith) (omega arith))

  count_past : (s : ℕ) → spare_from g p ≤ s → count s (system_sectors v) ≡ 0
  count_past s l = rw system_run (run_past 0 (spare_from g p) s (omega arith))

  system_inside : (s : ℕ) → 0 < count s (system_sectors v) → s < spare_from g p
  system_inside s l =
      elim (dec_lt s (spare_from g p)) [
        | yes a ↦ a
        | no a ↦ absurd (omega (arith, count_past s (omega arith)))
      ]

  -- no cell of the system is free
  link_used : (end s c : ℕ) → end ≤ p.sectors → s < end → c ≡ link_in end s → c ≢ FREE
  link_used end s c a b e =
      elim (link_cases end s b) [
        | inl k ↦ omega (arith, o.few)
        | inr k ↦ omega arith
      ]

  cell_used : (s : ℕ) → s < spare_from g p → fresh_cell g p s ≢ FREE
  cell_used s l =
      elim (dec_lt s (fat_part g p)) [
        | yes a ↦ omega (arith, cell_fat g p z q s a)
        | no a ↦
            elim (dec_lt s (directory_from g p)) [
              | yes b ↦ omega (arith, cell_difat g p z q s (omega arith) b)
              | no b ↦
                  elim (dec_lt s (mini_fat_from g p)) [
                    | yes c ↦ link_used (mini_fat_from g p) s (fresh_cell g p s) (omega (arith, o)) c (cell_directory g p z q s (omega arith) c)
                    | no c ↦
                        elim (dec_lt s (mini_stream_from g p)) [
                          | yes d ↦ link_used (mini_stream_from g p) s (fresh_cell g p s) (omega (arith, o)) d (cell_mini_fat g p z q s (omega arith) d)
                          | no d ↦ link_used (spare_from g p) s (fresh_cell g p s) (omega (arith, o)) l (cell_stream g p z q s (omega arith) l)
                        ]
                  ]
            ]
      ]

  -- ---- no entry has units

  no_units : (b : Bool) (i : ℕ) → i < v.directory.count → units_of v b i ≡ []
  unfolding volume units_of
  no_units b i l = rw (no_stream g p h q i (rw (entry_count_is g p h q) at l))

  no_units_at : (b : Bool) (i : ℕ) → i < length (entry_units v b) → get_or (entry_units v b) i [] ≡ []
  unfolding entry_units
  no_units_at b i l =
      let k : i < v.directory.count = omega (arith, length_below v.directory.count (units_of v b)) in
      get_or_below v.directory.count (units_of v b) i [] k ∙ no_units b i k

  no_owners : (b : Bool) (s : ℕ) → owners s (entry_units v b) ≡ 0
  no_owners b s =
      elim (dec_lt 0 (owners s (entry_units v b))) [
        | yes a ↦ let r = owner_place s (entry_units v b) a in absurd (omega (arith, r.2, ap (count s) (no_units_at b r.0 r.1)))
        | no a ↦ omega arith
      ]

  pub no_lengths : (b : Bool) → lengths (entry_units v b) ≡ 0
  unfolding entry_units
  no_lengths b =
      let n = v.directory.count in
      ap lengths (list_below_ext n (λ i. []) (units_of v b) (no_units b)) ∙ lengths_below n (λ i. []) ∙ sum_zero n

  -- ---- 11 and 18

  pub all_owned : (b : Bool) → Owned (space_of v b).limit (system_of v b) (space_of v b).cell (entry_units v b)
  unfolding volume sector_space
  all_owned true =
      record {
        chains = λ i l. rw (no_units_at true i l) tt;
        single = λ s. omega (arith, no_owners true s);
        others = λ s l e. mini_cell_free g p h q s;
        within = λ s l. absurd (omega arith);
        system = λ s l. absurd (omega arith);
      }
  all_owned false =
      record {
        chains = λ i l. rw (no_units_at false i l) tt;
        single = λ s. single s (dec_lt s (spare_from g p));
        others = λ s l e. fat_cell_is g p h q s ∙ cell_free g p z q s (unowned s (dec_lt s (spare_from g p)) (omega arith));
        within = λ s l. rw (sector_count_lem g p h q) (omega (arith, o, system_inside s l));
        system = λ s l. rw (fat_cell_is g p h q s) (cell_used s (system_inside s l));
      }
    where
      single : (s : ℕ) → Dec (s < spare_from g p) → count s (system_sectors v) + owners s (entry_units v false) ≤ 1
      single s (yes a) = omega (arith, no_owners false s, count_in s a)
      single s (no a) = omega (arith, no_owners false s, count_past s (omega arith))

      unowned : (s : ℕ) → Dec (s < spare_from g p) → count s (system_sectors v) ≡ 0 → spare_from g p ≤ s
      unowned s (yes a) e = absurd (omega (arith, count_in s a))
      unowned s (no a) e = omega arith
