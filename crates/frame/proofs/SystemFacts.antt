-- What groups 11, 13 and 16 say of the system's sectors: they are below the limit and not free, and its chains are chains.
use Prim.Native.Nat.{ℕ, ◌-◌, ◌*◌, ◌/◌, ◌%◌, ◌≤◌, ◌<◌}
use mathlib.Core.Path.{◌≡◌, refl, subst, ◌∙◌}
use mathlib.Core.Logic.{◌≢◌}
use mathlib.Core.Bool.{true, ◌&&◌, beq}
use mathlib.Core.List.{◌++◌}
use native.Mathlib.Nat.{div-le_self, div-mul-le_self, mul-le-mul_right}
use native.Mathlib.Omega.{arith}
use native.Mathlib.Decide.{dec_lt}
use lib.Dec.{eqb, leb}
use lib.ListN.{length}
use borrow.Author.Tests.{eqb-true, ltb-true, lt-ltb}
use Rattle.format.specs.Basics.Lists.{all_below, all, count, member, distinct}
use Rattle.format.specs.Basics.Bytes.{Bytes}
use Rattle.format.specs.Layout.Geometry.{Geometry, mini_bytes, sector_count}
use Rattle.format.specs.Layout.Need.{round_up}
use Rattle.format.specs.Layout.Chain.{FREE, FATSECT, DIFSECT, chain, END, start_of}
use Rattle.format.specs.Layout.Space.{units_for, chain_for}
use Rattle.format.specs.Layout.Tables.{fat_sectors, difat_sectors, sector_space}
use Rattle.format.specs.Layout.Entry.{start}
use Rattle.format.specs.Layout.Directory.{directory_sectors}
use Rattle.format.specs.Layout.Volume.{Volume, volume, root, system_sectors, mini_fat_sectors, mini_stream_sectors, directory_sectors_of, directory, root_size}
use Rattle.format.specs.Rules.Cells.{plain_cell, rest_free}
use Rattle.format.specs.Rules.Tables.{table_rules, table_counts, difat_ends, difat_rest, table_sectors, table_marks, is_sector, mark_right}
use Rattle.format.specs.Rules.Directory.{some_chain, directory_rules, count_right}
use Rattle.format.specs.Rules.Mini.{mini_rules, mini_fat_chain, mini_stream_chain, mini_cell_right}
use Rattle.theory.specs.Links.{Linked}
use Rattle.theory.proofs.Counts.{count_append}
use Rattle.theory.proofs.Chains.{linked_below, linked_not_free, length_units, chain_linked, follow_units}
use Rattle.theory.proofs.Tests.{both, below_at, all_at, beq_equal}
use Rattle.frame.specs.Good.{Chain}
use Rattle.frame.proofs.Lengths.{allowed_short}
use Rattle.frame.specs.Groups.{ImageGroups}

module _ {g : Geometry} {img : Bytes} (pos : 0 < g.sector_bytes) (ok : ImageGroups g img) where
  abbrev vol : Volume
  vol = volume g img

  abbrev f : ℕ → ℕ
  f = vol.sectors.cell

  abbrev N : ℕ
  N = vol.sectors.limit

  pub bounded : length img ≤ 0x400_0000
  bounded = allowed_short g img ok.allowed

  sectors_below_length : N ≤ length img
  unfolding volume sector_space sector_count
  sectors_below_length = omega (arith, div-le_self (length img) g.sector_bytes)

  pub sector_bytes_lem : N * g.sector_bytes ≤ length img
  unfolding volume sector_space sector_count
  sector_bytes_lem =
      let a = div-mul-le_self (length img) g.sector_bytes in
      let k : length img / g.sector_bytes - 1 ≤ length img / g.sector_bytes = omega arith in
      let b = mul-le-mul_right g.sector_bytes k in
      omega arith

  pub sector_limit_lem : N ≤ END
  sector_limit_lem = omega (arith, bounded, sectors_below_length)

  -- the parts of group 13
  directory_parts : (some_chain vol.sectors vol.directory_sectors vol.directory_start ≡ true) × (count_right vol ≡ true)
  unfolding directory_rules
  directory_parts = both (some_chain vol.sectors vol.directory_sectors vol.directory_start) (count_right vol) ok.volume.directory

  pub directory_counted_lem : count_right vol ≡ true
  directory_counted_lem = directory_parts.1

  -- the system's chains
  pub directory_chain : Chain vol.sectors vol.directory_sectors vol.directory_start (length vol.directory_sectors)
  unfolding some_chain volume directory_sectors_of directory_sectors
  directory_chain =
      let h = (both (leb 1 (length vol.directory_sectors)) (chain f N (length vol.directory_sectors) vol.directory_start) directory_parts.0).1 in
      let c = chain_linked f N (length vol.directory_sectors) vol.directory_start h in
      let e = follow_units f N N vol.directory_start in
      record { linked = subst (λ us. Linked f N us) e c.0; head = subst (λ us. start_of us ≡ vol.directory_start) e c.1; long = refl }

  pub directory_long_lem : leb 1 (length vol.directory_sectors) ≡ true
  unfolding some_chain volume
  directory_long_lem = (both (leb 1 (length vol.directory_sectors)) (chain f N (length vol.directory_sectors) vol.directory_start) directory_parts.0).0

  -- the parts of group 16
  mini_parts : (mini_fat_chain vol ≡ true) × (mini_stream_chain vol ≡ true) × (leb vol.minis.limit vol.minis.cells ≡ true)
      × (all_below vol.minis.limit (mini_cell_right vol.minis) ≡ true) × (rest_free vol.minis ≡ true)
  unfolding mini_rules
  mini_parts =
      let fat = mini_fat_chain vol in
      let stream = mini_stream_chain vol in
      let table = leb vol.minis.limit vol.minis.cells in
      let cells = all_below vol.minis.limit (mini_cell_right vol.minis) in
      let d = both (fat && stream && table && cells) (rest_free vol.minis) ok.volume.minis in
      let c = both (fat && stream && table) cells d.0 in
      let b = both (fat && stream) table c.0 in
      let a = both fat stream b.0 in
      (a.0, a.1, b.1, c.1, d.1)

  pub mini_table_lem : leb vol.minis.limit vol.minis.cells ≡ true
  mini_table_lem = mini_parts.2

  pub mini_cells_lem : (m : ℕ) → m < vol.minis.limit → plain_cell vol.minis (vol.minis.cell m) ≡ true
  unfolding mini_cell_right
  mini_cells_lem = below_at vol.minis.limit (mini_cell_right vol.minis) mini_parts.3

  pub mini_rest_lem : rest_free vol.minis ≡ true
  mini_rest_lem = mini_parts.4

  mini_stream_parts : (eqb (root_size vol % mini_bytes) 0 ≡ true) × (chain_for vol.sectors (root_size vol) (start (root vol)) ≡ true)
  unfolding mini_stream_chain
  mini_stream_parts = both (eqb (root_size vol % mini_bytes) 0) (chain_for vol.sectors (root_size vol) (start (root vol))) mini_parts.1

  pub root_size_lem : eqb (root_size vol % mini_bytes) 0 ≡ true
  root_size_lem = mini_stream_parts.0

  pub mini_fat_chain_lem : Chain vol.sectors vol.mini_fat vol.mini_fat_start vol.mini_fat_count
  unfolding mini_fat_chain volume mini_fat_sectors sector_space
  mini_fat_chain_lem =
      let c = chain_linked f N vol.mini_fat_count vol.mini_fat_start mini_parts.0 in
      record { linked = c.0; head = c.1; long = length_units f vol.mini_fat_count vol.mini_fat_start }

  pub mini_stream_chain_lem : Chain vol.sectors vol.mini_stream (start (root vol)) (round_up (root_size vol) vol.sectors.unit)
  unfolding volume mini_stream_sectors root root_size chain_for units_for
  mini_stream_chain_lem =
      let n = round_up (root_size vol) vol.sectors.unit in
      let c = chain_linked f N n (start (root vol)) mini_stream_parts.1 in
      record { linked = c.0; head = c.1; long = length_units f n (start (root vol)) }

  -- FAT and DIFAT sectors
  table_facts : (table_sectors g img ≡ true) × (table_marks g img ≡ true)
  unfolding table_rules
  table_facts =
      let front = table_counts g img && difat_ends g img && difat_rest g img in
      let b = both (front && table_sectors g img) (table_marks g img) ok.tables in
      ((both front (table_sectors g img) b.0).1, b.1)

  table_sector_below : (s : ℕ) → 0 < count s (vol.fat ++ vol.difat) → s < N
  unfolding table_sectors is_sector volume sector_space
  table_sector_below s h =
      let a = (both (all (is_sector g img) (fat_sectors g img ++ difat_sectors g img)) (distinct (fat_sectors g img ++ difat_sectors g img)) table_facts.0).0 in
      ltb-true s (sector_count g img) (all_at (is_sector g img) (fat_sectors g img ++ difat_sectors g img) a s h)

  -- FATSECT and DIFSECT stand for exactly these sectors
  pub marks_at_lem : (s : ℕ) → s < N → (eqb (f s) FATSECT ≡ member s vol.fat) × (eqb (f s) DIFSECT ≡ member s vol.difat)
  unfolding table_marks mark_right volume sector_space
  marks_at_lem s h =
      let a = below_at (sector_count g img) (mark_right g img) table_facts.1 s h in
      let b = both (beq (eqb (f s) FATSECT) (member s vol.fat)) (beq (eqb (f s) DIFSECT) (member s vol.difat)) a in
      (beq_equal (eqb (f s) FATSECT) (member s vol.fat) b.0, beq_equal (eqb (f s) DIFSECT) (member s vol.difat) b.1)

  pub system_facts : (s : ℕ) → 0 < count s (system_sectors vol) → (s < N) × (f s ≢ FREE)
  unfolding system_sectors member
  system_facts s h =
      let tables = count_append s vol.fat vol.difat in
      let a = count_append s (vol.fat ++ vol.difat) vol.directory_sectors in
      let b = count_append s (vol.fat ++ vol.difat ++ vol.directory_sectors) vol.mini_fat in
      let c = count_append s (vol.fat ++ vol.difat ++ vol.directory_sectors ++ vol.mini_fat) vol.mini_stream in
      elim (dec_lt 0 (count s vol.fat)) [
        | yes p ↦ let k = table_sector_below s (omega arith) in (k, λ z. let e = eqb-true (f s) FATSECT ((marks_at_lem s k).0 ∙ lt-ltb 0 (count s vol.fat) p) in omega arith)
        | no q1 ↦
            elim (dec_lt 0 (count s vol.difat)) [
              | yes p ↦ let k = table_sector_below s (omega arith) in (k, λ z. let e = eqb-true (f s) DIFSECT ((marks_at_lem s k).1 ∙ lt-ltb 0 (count s vol.difat) p) in omega arith)
              | no q2 ↦
                  elim (dec_lt 0 (count s vol.directory_sectors)) [
                    | yes p ↦ (
                      linked_below f N vol.directory_sectors directory_chain.linked s p,
                      linked_not_free f N sector_limit_lem vol.directory_sectors
                          directory_chain.linked s p,
                    )
                    | no q3 ↦
                        elim (dec_lt 0 (count s vol.mini_fat)) [
                          | yes p ↦ (
                            linked_below f N vol.mini_fat mini_fat_chain_lem.linked s p,
                            linked_not_free f N sector_limit_lem vol.mini_fat
                                mini_fat_chain_lem.linked s p,
                          )
                          | no q4 ↦
                              let p : 0 < count s vol.mini_stream = omega arith in (
                                linked_below f N vol.mini_stream mini_stream_chain_lem.linked s p,
                                linked_not_free f N sector_limit_lem vol.mini_stream
                                    mini_stream_chain_lem.linked s p,
                              )
                        ]
                  ]
            ]
      ]
