use Prim.Native.Nat.{◌*◌}
use mathlib.Core.Path.{◌≡◌, sym, ◌∙◌, ap, ap₂}
use native.Mathlib.Omega.{arith}
use Rattle.format.specs.Layout.Geometry.{cells_in}
use Rattle.format.specs.Layout.Volume.{volume}
use Rattle.format.specs.Calls.RepairSteps.{rest_freed, second_step}
use Rattle.kinds.specs.Sizes.{geometry_of}
use Rattle.header.specs.Sized.{F}
use Rattle.theory.proofs.Loops.{said_yes, said_no}
use Rattle.tables.specs.Listed.{tables_of}
use Rattle.tables.proofs.Places.{cells_short}
use Rattle.tables.proofs.WorkLaws.{wrote_two}
use Rattle.volume.proofs.Verdicts.{tables_wrote}
use Rattle.repair_writes.proofs.Tables.{fat_room}
use Rattle.repair_steps.specs.Passed.{TablesPassed}
use Rattle.repair_steps.proofs.Steps.{first_taken, first_left}
use Rattle.repair_steps.proofs.Passing.{first_is, first_passed}
use mathlib.Core.Bool.{not}
use Rattle.repair_steps.proofs.outcome.Goals as goal
use Rattle.repair_steps.proofs.outcome.Goals.{After-fat_count, Else-not-tables_hold}

-- how many cells the FAT has, as the code works it out
cells : (c : After-fat_count) → let p = c.args in c.cells.result * c.fat_count.result ≡ cells_in (geometry_of p.g) * F p.img.now
cells c = ap₂ (λ m n. m * n) c.cells.ensures c.fat_count.ensures

passed : (c : Else-not-tables_hold) → let p = c.args in TablesPassed (geometry_of p.g) p.img.now c.tables_hold.new.work
passed c =
    record {
      listed = c.tables_hold.ensures.left.listed (c.if-not-tables_hold.false);
      whole = omega (arith, c.requires.img_in_bounds, c.tables_hold.auto.work);
      tables = said_yes (ap not c.if-not-tables_hold.false) c.tables_hold.ensures.answer;
    }

pub returns-then-not-tables_hold : goal.returns-then-not-tables_hold
returns-then-not-tables_hold c = record { image = sym (first_left _ _ (said_no (ap not c.if-not-tables_hold.true) c.tables_hold.ensures.answer)); wrote = tables_wrote _ _ c.tables_hold.ensures.left c.tables_hold.auto.work }

pub tables_of-t-requires : goal.tables_of-t-requires
tables_of-t-requires c = let l = (passed (goal.at.tables_of-t-requires c).Else-not-tables_hold).listed in record { image_sized = l.sized; img_bound = l.few }

pub overflow_mul-cells : goal.overflow_mul-cells
overflow_mul-cells c =
    let l = (passed (goal.at.overflow_mul-cells c).Else-not-tables_hold).listed in
    rw (cells (goal.at.overflow_mul-cells c).After-fat_count) (omega (arith, cells_short l.sized (F c.args.img.now) (omega (arith, l.few)), l.sized.short))

pub free_rest-requires : goal.free_rest-requires
free_rest-requires c =
    let p = c.args in
    let l = (passed (goal.at.free_rest-requires c).Else-not-tables_hold).listed in rw (c.tables_of-t.ensures, cells (goal.at.free_rest-requires c).After-fat_count) (record { table_room = fat_room {t = tables_of p.g p.img.now} l; from_le_to = l.covers })

pub repair_directory-requires : goal.repair_directory-requires
repair_directory-requires c =
    let freed : let p = c.args in c.free_rest.new.img ≡ rest_freed (volume (geometry_of p.g) p.img.now).sectors p.img.now = let p = c.args in (rw (c.tables_of-t.ensures, cells (goal.at.repair_directory-requires c).After-fat_count) at c.free_rest.ensures) ∙ first_is p.g (passed (goal.at.repair_directory-requires c).Else-not-tables_hold) in
    first_passed _ (passed (goal.at.repair_directory-requires c).Else-not-tables_hold) freed

pub returns : goal.returns
returns c =
    let freed : let p = c.args in c.free_rest.new.img ≡ rest_freed (volume (geometry_of p.g) p.img.now).sectors p.img.now = let p = c.args in (rw (c.tables_of-t.ensures, cells (goal.at.returns c).After-fat_count) at c.free_rest.ensures) ∙ first_is p.g (passed (goal.at.returns c).Else-not-tables_hold) in
    let p = c.args in record { image = c.repair_directory.ensures.image ∙ ap (second_step (geometry_of p.g)) freed ∙ sym (first_taken _ _ (said_yes (ap not c.if-not-tables_hold.false) c.tables_hold.ensures.answer)); wrote = wrote_two (tables_wrote _ _ c.tables_hold.ensures.left c.tables_hold.auto.work) (rw c.free_rest.auto.img at c.repair_directory.ensures.wrote) }
