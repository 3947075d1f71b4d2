use mathlib.Core.Path.{◌≡◌, sym, ◌∙◌, ap}
use mathlib.Core.Bool.{true}
use lib.ListN.{length}
use Rattle.format.specs.Layout.Geometry.{sector_count}
use Rattle.format.specs.Layout.Volume.{volume, directory_sectors_of}
use Rattle.format.specs.Rules.Length.{work_need}
use Rattle.format.specs.Calls.RepairSteps.{directory_holds, blackened, third_step}
use Rattle.kinds.specs.Sizes.{geometry_of}
use Rattle.tables.specs.Work.{Wrote}
use Rattle.tables.proofs.WorkLaws.{wrote_two}
use Rattle.chains.specs.Answers.{length_answer}
use Rattle.volume.specs.Passed.{TablesHold}
use Rattle.volume.proofs.Verdicts.{cells_wrote, has_length, has_none}
use Rattle.repair_steps.proofs.Steps.{second_taken, second_left}
use Rattle.repair_steps.proofs.Passing.{second_asked, second_passed}
use Rattle.std.proofs.Common.{Some, None}
use Rattle.repair_steps.proofs.repair_directory.Goals as goal

pub directory_holds-requires : goal.directory_holds-requires
directory_holds-requires c = rw c.tables_of-t.ensures c.requires.listed

pub returns-in_default : goal.returns-in_default
returns-in_default c =
    let found : let p = c.args in let g = geometry_of p.g in let i = p.img.now in (None ≡ length_answer (directory_holds (volume g i)) (length (directory_sectors_of g i))) × Wrote p.work.now c.directory_holds.new.work 0 (sector_count g i) = (rw c.tables_of-t.ensures at c.in_default.ensures.answer, rw c.tables_of-t.ensures at c.directory_holds.ensures.wrote) in
    let wrote' : let p = c.args in let g = geometry_of p.g in let i = p.img.now in Wrote p.work.now c.directory_holds.new.work 0 (work_need (length i)) = cells_wrote _ _ found.1 c.requires.listed.sized in
    record { image = sym (second_left _ _ (has_none _ _ found.0)); wrote = wrote' }

pub open_directory-d-requires : goal.open_directory-d-requires
open_directory-d-requires c =
    let found : let p = c.args in let g = geometry_of p.g in let i = p.img.now in (Some c.in-Some.n ≡ length_answer (directory_holds (volume g i)) (length (directory_sectors_of g i))) × Wrote p.work.now c.directory_holds.new.work 0 (sector_count g i) = (rw c.tables_of-t.ensures at c.in-Some.ensures.answer, rw c.tables_of-t.ensures at c.directory_holds.ensures.wrote) in
    let right : let p = c.args in let g = geometry_of p.g in let i = p.img.now in directory_holds (volume g i) ≡ true = (has_length _ _ found.0).0 in
    let many : let p = c.args in let g = geometry_of p.g in let i = p.img.now in c.in-Some.n ≡ length (directory_sectors_of g i) = (has_length _ _ found.0).1 in
    let hold : let p = c.args in let g = geometry_of p.g in let i = p.img.now in TablesHold g i c.directory_holds.new.work c.in-Some.n = second_asked _ c.requires right many found.1 in
    hold

pub blacken_entries-requires : goal.blacken_entries-requires
blacken_entries-requires c =
    let found : let p = c.args in let g = geometry_of p.g in let i = p.img.now in (Some c.in-Some.n ≡ length_answer (directory_holds (volume g i)) (length (directory_sectors_of g i))) × Wrote p.work.now c.directory_holds.new.work 0 (sector_count g i) = (rw c.tables_of-t.ensures at c.in-Some.ensures.answer, rw c.tables_of-t.ensures at c.directory_holds.ensures.wrote) in
    let right : let p = c.args in let g = geometry_of p.g in let i = p.img.now in directory_holds (volume g i) ≡ true = (has_length _ _ found.0).0 in
    let many : let p = c.args in let g = geometry_of p.g in let i = p.img.now in c.in-Some.n ≡ length (directory_sectors_of g i) = (has_length _ _ found.0).1 in
    let hold : let p = c.args in let g = geometry_of p.g in let i = p.img.now in TablesHold g i c.directory_holds.new.work c.in-Some.n = second_asked _ c.requires right many found.1 in
    record { directory_listed = c.open_directory-d.ensures.directory; img_value = rw c.open_directory-d.ensures.answer hold.chained }

pub repair_entries-requires : goal.repair_entries-requires
repair_entries-requires c =
    let black : let p = c.args in c.blacken_entries.new.img ≡ blackened (volume (geometry_of p.g) p.img.now) p.img.now = rw c.open_directory-d.ensures.answer at c.blacken_entries.ensures in
    let found : let p = c.args in let g = geometry_of p.g in let i = p.img.now in (Some c.in-Some.n ≡ length_answer (directory_holds (volume g i)) (length (directory_sectors_of g i))) × Wrote p.work.now c.directory_holds.new.work 0 (sector_count g i) = (rw c.tables_of-t.ensures at c.in-Some.ensures.answer, rw c.tables_of-t.ensures at c.directory_holds.ensures.wrote) in
    let right : let p = c.args in let g = geometry_of p.g in let i = p.img.now in directory_holds (volume g i) ≡ true = (has_length _ _ found.0).0 in
    let many : let p = c.args in let g = geometry_of p.g in let i = p.img.now in c.in-Some.n ≡ length (directory_sectors_of g i) = (has_length _ _ found.0).1 in
    second_passed _ c.requires right many black c.open_directory-d.ensures.fat (c.open_directory-d.ensures.wrote.long ∙ found.1.long)

pub returns : goal.returns
returns c =
    let black : let p = c.args in c.blacken_entries.new.img ≡ blackened (volume (geometry_of p.g) p.img.now) p.img.now = rw c.open_directory-d.ensures.answer at c.blacken_entries.ensures in
    let found : let p = c.args in let g = geometry_of p.g in let i = p.img.now in (Some c.in-Some.n ≡ length_answer (directory_holds (volume g i)) (length (directory_sectors_of g i))) × Wrote p.work.now c.directory_holds.new.work 0 (sector_count g i) = (rw c.tables_of-t.ensures at c.in-Some.ensures.answer, rw c.tables_of-t.ensures at c.directory_holds.ensures.wrote) in
    let right : let p = c.args in let g = geometry_of p.g in let i = p.img.now in directory_holds (volume g i) ≡ true = (has_length _ _ found.0).0 in
    let wrote' : let p = c.args in let g = geometry_of p.g in let i = p.img.now in Wrote p.work.now c.directory_holds.new.work 0 (work_need (length i)) = cells_wrote _ _ found.1 c.requires.listed.sized in
    let p = c.args in record { image = c.repair_entries.ensures.image ∙ ap (third_step (geometry_of p.g)) black ∙ sym (second_taken _ _ right); wrote = wrote_two wrote' (wrote_two c.open_directory-d.ensures.wrote (rw c.blacken_entries.auto.img at c.repair_entries.ensures.wrote)) }
