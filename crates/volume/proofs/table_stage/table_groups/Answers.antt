use mathlib.Core.Path.{◌≡◌, sym, ◌∙◌}
use mathlib.Core.Bool.{true}
use native.Mathlib.Omega.{arith}
use lib.ListN.{length}
use Rattle.format.specs.Rules.Length.{work_need}
use Rattle.format.specs.Rules.Header.{header_rules}
use Rattle.format.specs.Rules.Tables.{table_rules}
use Rattle.format.specs.Rules.Cells.{cell_rules}
use Rattle.format.specs.Layout.Geometry.{sector_count}
use Rattle.format.specs.Layout.Tables.{fat_cell, sector_space}
use Rattle.format.specs.Rules.Directory.{directory_rules}
use Rattle.format.specs.Layout.Volume.{volume, directory_sectors_of}
use Rattle.chains.specs.Answers.{length_answer}
use Rattle.kinds.specs.Sizes.{geometry_of}
use Rattle.kinds.specs.declared.Refusal.TheVariants.{Header, Tables, Cells, Directory}
use Rattle.theory.proofs.Loops.{said_yes, said_no}
use Rattle.tables.specs.Work.{Wrote, Holds}
use Rattle.tables.specs.Listed.{FatListedAt, list_place}
use Rattle.tables.proofs.WorkLaws.{wrote_none, wrote_two}
use Rattle.volume.specs.Passed.{TablesHold}
use Rattle.volume.proofs.Outcomes.{ok_is, err_is, stage_refused, stage_later}
use Rattle.volume.proofs.Verdicts.{header_breaks, tables_break, cells_break, directory_breaks, tables_hold_lem, tables_wrote, cells_listed, cells_wrote, has_length, has_none}
use mathlib.Core.Path.{ap}
use mathlib.Core.Bool.{not}
use Rattle.std.proofs.lemmas.Result.{err_from_is_err_and}
use Rattle.volume.proofs.table_stage.table_groups.Goals as goal
use Rattle.volume.proofs.table_stage.table_groups.Goals.{Else-not-cell_rules, Else-not-table_rules}

cells : (c : Else-not-cell_rules) → let p = c.args in let g = geometry_of p.g in let i = p.img.now in cell_rules (sector_space g i) ≡ true
cells c = said_yes (ap not c.if-not-cell_rules.false) ((let asked' : let p = c.args in let g = geometry_of p.g in let i = p.img.now in (c.cell_rules.result ≡ cell_rules (sector_space g i)) × (Holds c.cell_rules.new.work 0 (sector_count g i) (fat_cell g i) × Wrote c.table_rules.new.work c.cell_rules.new.work 0 (sector_count g i)) = (rw c.tables_of-t.ensures at c.cell_rules.ensures.answer, (rw c.tables_of-t.ensures at c.cell_rules.ensures.holds, rw c.tables_of-t.ensures at c.cell_rules.ensures.wrote)) in asked')).0

tables : (c : Else-not-table_rules) → let p = c.args in table_rules (geometry_of p.g) p.img.now ≡ true
tables c = said_yes (ap not c.if-not-table_rules.false) c.table_rules.ensures.answer

listed : (c : Else-not-table_rules) → let p = c.args in FatListedAt (geometry_of p.g) p.img.now c.table_rules.new.work (sector_count (geometry_of p.g) p.img.now) (list_place p.img.now)
listed c = c.table_rules.ensures.left.listed (c.if-not-table_rules.false)

pub returns-then-not-header_rules : goal.returns-then-not-header_rules
returns-then-not-header_rules c = stage_refused _ _ _ Header (header_breaks _ _ (said_no (ap not c.if-not-header_rules.true) c.header_rules.ensures)) (wrote_none _ 0 _)

pub returns-then-not-table_rules : goal.returns-then-not-table_rules
returns-then-not-table_rules c =
    let header : let p = c.args in header_rules (geometry_of p.g) p.img.now ≡ true = said_yes (ap not c.if-not-header_rules.false) c.header_rules.ensures in
    let wrote : let p = c.args in Wrote p.work.now c.table_rules.new.work 0 (work_need (length p.img.now)) = tables_wrote _ _ c.table_rules.ensures.left c.table_rules.auto.work in
    stage_refused _ _ _ Tables (tables_break _ _ header (said_no (ap not c.if-not-table_rules.true) c.table_rules.ensures.answer)) wrote

pub tables_of-t-requires : goal.tables_of-t-requires
tables_of-t-requires c = record { image_sized = c.requires.image_sized; img_bound = (listed (goal.at.tables_of-t-requires c).Else-not-table_rules).few }

pub cell_rules-requires : goal.cell_rules-requires
cell_rules-requires c = rw c.tables_of-t.ensures (listed (goal.at.cell_rules-requires c).Else-not-table_rules)

pub returns-then-not-cell_rules : goal.returns-then-not-cell_rules
returns-then-not-cell_rules c =
    let header : let p = c.args in header_rules (geometry_of p.g) p.img.now ≡ true = said_yes (ap not c.if-not-header_rules.false) c.header_rules.ensures in
    let wrote' : let p = c.args in Wrote p.work.now c.table_rules.new.work 0 (work_need (length p.img.now)) = tables_wrote _ _ c.table_rules.ensures.left c.table_rules.auto.work in
    let asked : let p = c.args in let g = geometry_of p.g in let i = p.img.now in (c.cell_rules.result ≡ cell_rules (sector_space g i)) × (Holds c.cell_rules.new.work 0 (sector_count g i) (fat_cell g i) × Wrote c.table_rules.new.work c.cell_rules.new.work 0 (sector_count g i)) = (rw c.tables_of-t.ensures at c.cell_rules.ensures.answer, (rw c.tables_of-t.ensures at c.cell_rules.ensures.holds, rw c.tables_of-t.ensures at c.cell_rules.ensures.wrote)) in
    let wrote_both : let p = c.args in let g = geometry_of p.g in let i = p.img.now in Wrote p.work.now c.cell_rules.new.work 0 (work_need (length i)) = wrote_two wrote' (cells_wrote _ _ asked.1.1 (listed (goal.at.returns-then-not-cell_rules c).Else-not-table_rules).sized) in
    stage_refused _ _ _ Cells (cells_break _ _ header (tables (goal.at.returns-then-not-cell_rules c).Else-not-table_rules) (said_no (ap not c.if-not-cell_rules.true) asked.0)) wrote_both

pub directory_length-requires : goal.directory_length-requires
directory_length-requires c =
    let asked : let p = c.args in let g = geometry_of p.g in let i = p.img.now in (c.cell_rules.result ≡ cell_rules (sector_space g i)) × (Holds c.cell_rules.new.work 0 (sector_count g i) (fat_cell g i) × Wrote c.table_rules.new.work c.cell_rules.new.work 0 (sector_count g i)) = (rw c.tables_of-t.ensures at c.cell_rules.ensures.answer, (rw c.tables_of-t.ensures at c.cell_rules.ensures.holds, rw c.tables_of-t.ensures at c.cell_rules.ensures.wrote)) in
    let still : let p = c.args in let g = geometry_of p.g in let i = p.img.now in FatListedAt g i c.cell_rules.new.work (sector_count g i) (list_place i) = cells_listed _ _ asked.1.1 (listed (goal.at.directory_length-requires c).Else-not-table_rules) in
    rw c.tables_of-t.ensures (record { fat_listed = still; holds = asked.1.0 })

pub entry_groups-requires : goal.entry_groups-requires
entry_groups-requires c =
    let found : let p = c.args in let g = geometry_of p.g in let i = p.img.now in c.directory_length.result ≡ length_answer (directory_rules (volume g i)) (length (directory_sectors_of g i)) = rw c.tables_of-t.ensures at c.directory_length.ensures in
    let asked : let p = c.args in let g = geometry_of p.g in let i = p.img.now in (c.cell_rules.result ≡ cell_rules (sector_space g i)) × (Holds c.cell_rules.new.work 0 (sector_count g i) (fat_cell g i) × Wrote c.table_rules.new.work c.cell_rules.new.work 0 (sector_count g i)) = (rw c.tables_of-t.ensures at c.cell_rules.ensures.answer, (rw c.tables_of-t.ensures at c.cell_rules.ensures.holds, rw c.tables_of-t.ensures at c.cell_rules.ensures.wrote)) in
    let still : let p = c.args in let g = geometry_of p.g in let i = p.img.now in FatListedAt g i c.cell_rules.new.work (sector_count g i) (list_place i) = cells_listed _ _ asked.1.1 (listed (goal.at.entry_groups-requires c).Else-not-table_rules) in
    let hold : let p = c.args in let g = geometry_of p.g in let i = p.img.now in TablesHold g i c.cell_rules.new.work c.in_ok-n.n = record { listed = still; whole = omega (arith, c.requires.img_in_bounds, c.table_rules.auto.work, asked.1.1.long); tables = tables (goal.at.entry_groups-requires c).Else-not-table_rules; cells = cells (goal.at.entry_groups-requires c).Else-not-cell_rules; chained = (has_length _ _ (sym (ok_is _ Directory c.in_ok-n.ensures.value) ∙ found)).0; count = (has_length _ _ (sym (ok_is _ Directory c.in_ok-n.ensures.value) ∙ found)).1 } in
    hold

pub returns : goal.returns
returns c =
    let header : let p = c.args in header_rules (geometry_of p.g) p.img.now ≡ true = said_yes (ap not c.if-not-header_rules.false) c.header_rules.ensures in
    let wrote' : let p = c.args in Wrote p.work.now c.table_rules.new.work 0 (work_need (length p.img.now)) = tables_wrote _ _ c.table_rules.ensures.left c.table_rules.auto.work in
    let found : let p = c.args in let g = geometry_of p.g in let i = p.img.now in c.directory_length.result ≡ length_answer (directory_rules (volume g i)) (length (directory_sectors_of g i)) = rw c.tables_of-t.ensures at c.directory_length.ensures in
    let asked : let p = c.args in let g = geometry_of p.g in let i = p.img.now in (c.cell_rules.result ≡ cell_rules (sector_space g i)) × (Holds c.cell_rules.new.work 0 (sector_count g i) (fat_cell g i) × Wrote c.table_rules.new.work c.cell_rules.new.work 0 (sector_count g i)) = (rw c.tables_of-t.ensures at c.cell_rules.ensures.answer, (rw c.tables_of-t.ensures at c.cell_rules.ensures.holds, rw c.tables_of-t.ensures at c.cell_rules.ensures.wrote)) in
    let still : let p = c.args in let g = geometry_of p.g in let i = p.img.now in FatListedAt g i c.cell_rules.new.work (sector_count g i) (list_place i) = cells_listed _ _ asked.1.1 (listed (goal.at.returns c).Else-not-table_rules) in
    let wrote_both : let p = c.args in let g = geometry_of p.g in let i = p.img.now in Wrote p.work.now c.cell_rules.new.work 0 (work_need (length i)) = wrote_two wrote' (cells_wrote _ _ asked.1.1 (listed (goal.at.returns c).Else-not-table_rules).sized) in
    let hold : let p = c.args in let g = geometry_of p.g in let i = p.img.now in TablesHold g i c.cell_rules.new.work c.in_ok-n.n = record { listed = still; whole = omega (arith, c.requires.img_in_bounds, c.table_rules.auto.work, asked.1.1.long); tables = tables (goal.at.returns c).Else-not-table_rules; cells = cells (goal.at.returns c).Else-not-cell_rules; chained = (has_length _ _ (sym (ok_is _ Directory c.in_ok-n.ensures.value) ∙ found)).0; count = (has_length _ _ (sym (ok_is _ Directory c.in_ok-n.ensures.value) ∙ found)).1 } in
    stage_later (tables_hold_lem _ _ header (tables (goal.at.returns c).Else-not-table_rules) (cells (goal.at.returns c).Else-not-cell_rules) hold.chained) wrote_both c.entry_groups.ensures

pub returns-in_err-n : goal.returns-in_err-n
returns-in_err-n c =
    let header : let p = c.args in header_rules (geometry_of p.g) p.img.now ≡ true = said_yes (ap not c.if-not-header_rules.false) c.header_rules.ensures in
    let wrote' : let p = c.args in Wrote p.work.now c.table_rules.new.work 0 (work_need (length p.img.now)) = tables_wrote _ _ c.table_rules.ensures.left c.table_rules.auto.work in
    let found : let p = c.args in let g = geometry_of p.g in let i = p.img.now in c.directory_length.result ≡ length_answer (directory_rules (volume g i)) (length (directory_sectors_of g i)) = rw c.tables_of-t.ensures at c.directory_length.ensures in
    let asked : let p = c.args in let g = geometry_of p.g in let i = p.img.now in (c.cell_rules.result ≡ cell_rules (sector_space g i)) × (Holds c.cell_rules.new.work 0 (sector_count g i) (fat_cell g i) × Wrote c.table_rules.new.work c.cell_rules.new.work 0 (sector_count g i)) = (rw c.tables_of-t.ensures at c.cell_rules.ensures.answer, (rw c.tables_of-t.ensures at c.cell_rules.ensures.holds, rw c.tables_of-t.ensures at c.cell_rules.ensures.wrote)) in
    let wrote_both : let p = c.args in let g = geometry_of p.g in let i = p.img.now in Wrote p.work.now c.cell_rules.new.work 0 (work_need (length i)) = wrote_two wrote' (cells_wrote _ _ asked.1.1 (listed (goal.at.returns-in_err-n c).Else-not-table_rules).sized) in
    let r = err_from_is_err_and c.from_residual.result c.from_residual.ensures.1 in
    let k = err_is _ Directory c.in_err-n.ensures.value in
    rw (r.1, r.2, k.1) (stage_refused _ _ _ Directory (directory_breaks _ _ header (tables (goal.at.returns-in_err-n c).Else-not-table_rules) (cells (goal.at.returns-in_err-n c).Else-not-cell_rules) (has_none _ _ (sym k.0 ∙ found))) wrote_both)
