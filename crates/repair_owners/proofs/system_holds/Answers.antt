use mathlib.Core.Path.{◌≡◌}
use mathlib.Core.Bool.{true}
use native.Mathlib.Omega.{arith}
use lib.ListN.{length}
use Rattle.format.specs.Layout.Volume.{volume, directory_sectors_of}
use Rattle.format.specs.Layout.Geometry.{sector_count}
use Rattle.format.specs.Rules.Length.{work_need}
use Rattle.format.specs.Calls.RepairSteps.{tables_hold, directory_holds}
use Rattle.theory.proofs.Loops.{said_yes, said_no}
use Rattle.kinds.specs.Sizes.{geometry_of}
use Rattle.tables.specs.Work.{Wrote}
use Rattle.tables.specs.Listed.{FatListedAt, list_place}
use Rattle.tables.proofs.WorkLaws.{wrote_two}
use Rattle.chains.specs.Answers.{length_answer}
use Rattle.volume.specs.Passed.{TablesHold}
use Rattle.volume.proofs.Verdicts.{tables_wrote, cells_listed, cells_wrote, has_length, has_none}
use Rattle.repair_asks.proofs.Asked.{tables_say, cells_say, directory_says}
use Rattle.repair_owners.proofs.Asking.{tables_wrong, directory_wrong, entries_decide}
use mathlib.Core.Path.{ap}
use mathlib.Core.Bool.{not}
use Rattle.std.proofs.Common.{Some, None}
use Rattle.repair_owners.proofs.system_holds.Goals as goal
use Rattle.repair_owners.proofs.system_holds.Goals.{Else-not-tables_hold}

-- groups 10 and 11 hold, and the FAT's sectors stand listed
tables : (c : Else-not-tables_hold) → let p = c.args in tables_hold (geometry_of p.g) p.img.now ≡ true
tables c = said_yes (ap not c.if-not-tables_hold.false) c.tables_hold.ensures.answer

listed : (c : Else-not-tables_hold) → let p = c.args in
    FatListedAt (geometry_of p.g) p.img.now c.tables_hold.new.work (sector_count (geometry_of p.g) p.img.now) (list_place p.img.now)
listed c = c.tables_hold.ensures.left.listed (c.if-not-tables_hold.false)

pub tables_hold-requires : goal.tables_hold-requires
tables_hold-requires c = record { image_sized = c.requires.image_sized; img_in_bounds = c.requires.img_in_bounds }

pub returns-then-not-tables_hold : goal.returns-then-not-tables_hold
returns-then-not-tables_hold c =
    let wrote : let p = c.args in Wrote p.work.now c.tables_hold.new.work 0 (work_need (length p.img.now)) = tables_wrote _ _ c.tables_hold.ensures.left c.tables_hold.auto.work in
    tables_wrong _ _ wrote (said_no (ap not c.if-not-tables_hold.true) c.tables_hold.ensures.answer)

pub tables_of-t-requires : goal.tables_of-t-requires
tables_of-t-requires c = record { image_sized = c.requires.image_sized; img_bound = (listed (goal.at.tables_of-t-requires c).Else-not-tables_hold).few }

pub directory_holds-requires : goal.directory_holds-requires
directory_holds-requires c = rw c.tables_of-t.ensures (listed (goal.at.directory_holds-requires c).Else-not-tables_hold)

pub returns-in_err-n : goal.returns-in_err-n
returns-in_err-n c =
    let wrote' : let p = c.args in Wrote p.work.now c.tables_hold.new.work 0 (work_need (length p.img.now)) = tables_wrote _ _ c.tables_hold.ensures.left c.tables_hold.auto.work in
    let found : let p = c.args in let g = geometry_of p.g in let i = p.img.now in (None ≡ length_answer (directory_holds (volume g i)) (length (directory_sectors_of g i))) × Wrote c.tables_hold.new.work c.directory_holds.new.work 0 (sector_count g i) = (rw c.tables_of-t.ensures at c.in_err-n.ensures.answer, rw c.tables_of-t.ensures at c.directory_holds.ensures.wrote) in
    let wrote_both : let p = c.args in let g = geometry_of p.g in let i = p.img.now in Wrote p.work.now c.directory_holds.new.work 0 (work_need (length i)) = wrote_two wrote' (cells_wrote _ _ found.1 (listed (goal.at.returns-in_err-n c).Else-not-tables_hold).sized) in
    rw c.from_residual.ensures (directory_wrong _ _ wrote_both (tables (goal.at.returns-in_err-n c).Else-not-tables_hold) (has_none _ _ found.0))

pub entries_hold-requires : goal.entries_hold-requires
entries_hold-requires c =
    let wrote' : let p = c.args in Wrote p.work.now c.tables_hold.new.work 0 (work_need (length p.img.now)) = tables_wrote _ _ c.tables_hold.ensures.left c.tables_hold.auto.work in
    let found : let p = c.args in let g = geometry_of p.g in let i = p.img.now in (Some c.in_ok-n.n ≡ length_answer (directory_holds (volume g i)) (length (directory_sectors_of g i))) × Wrote c.tables_hold.new.work c.directory_holds.new.work 0 (sector_count g i) = (rw c.tables_of-t.ensures at c.in_ok-n.ensures.answer, rw c.tables_of-t.ensures at c.directory_holds.ensures.wrote) in
    let right : let p = c.args in let g = geometry_of p.g in let i = p.img.now in directory_holds (volume g i) ≡ true = (has_length _ _ found.0).0 in
    let wrote_both : let p = c.args in let g = geometry_of p.g in let i = p.img.now in Wrote p.work.now c.directory_holds.new.work 0 (work_need (length i)) = wrote_two wrote' (cells_wrote _ _ found.1 (listed (goal.at.entries_hold-requires c).Else-not-tables_hold).sized) in
    let hold : let p = c.args in let g = geometry_of p.g in let i = p.img.now in TablesHold g i c.directory_holds.new.work c.in_ok-n.n = record { listed = cells_listed _ _ found.1 (listed (goal.at.entries_hold-requires c).Else-not-tables_hold); whole = omega (arith, c.requires.img_in_bounds, wrote_both.long); tables = tables_say _ _ (tables (goal.at.entries_hold-requires c).Else-not-tables_hold); cells = cells_say _ _ right; chained = directory_says _ _ right; count = (has_length _ _ found.0).1 } in
    hold

pub returns : goal.returns
returns c =
    let wrote' : let p = c.args in Wrote p.work.now c.tables_hold.new.work 0 (work_need (length p.img.now)) = tables_wrote _ _ c.tables_hold.ensures.left c.tables_hold.auto.work in
    let found : let p = c.args in let g = geometry_of p.g in let i = p.img.now in (Some c.in_ok-n.n ≡ length_answer (directory_holds (volume g i)) (length (directory_sectors_of g i))) × Wrote c.tables_hold.new.work c.directory_holds.new.work 0 (sector_count g i) = (rw c.tables_of-t.ensures at c.in_ok-n.ensures.answer, rw c.tables_of-t.ensures at c.directory_holds.ensures.wrote) in
    let right : let p = c.args in let g = geometry_of p.g in let i = p.img.now in directory_holds (volume g i) ≡ true = (has_length _ _ found.0).0 in
    let wrote_both : let p = c.args in let g = geometry_of p.g in let i = p.img.now in Wrote p.work.now c.directory_holds.new.work 0 (work_need (length i)) = wrote_two wrote' (cells_wrote _ _ found.1 (listed (goal.at.returns c).Else-not-tables_hold).sized) in
    entries_decide _ _ wrote_both (tables (goal.at.returns c).Else-not-tables_hold) right c.entries_hold.ensures
