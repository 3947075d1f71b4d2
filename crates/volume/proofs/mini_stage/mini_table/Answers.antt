use borrow.Author.Rules.{rules}
use Prim.Native.Nat.{◌+◌, ◌-◌, ◌*◌, ◌/◌, ◌≤◌}
use mathlib.Core.Path.{◌≡◌, sym, ◌∙◌, ap, ap₂}
use native.Mathlib.Omega.{arith}
use Rattle.format.specs.Layout.Geometry.{cells_in}
use Rattle.format.specs.Layout.Header.{mini_fat_count}
use Rattle.format.specs.Layout.Volume.{volume, mini_space}
use Rattle.kinds.specs.Sizes.{geometry_of}
use Rattle.tables.specs.Work.{Wrote}
use Rattle.tables.specs.Views.{sector_count_of}
use Rattle.tables.proofs.WorkLaws.{wrote_none, wrote_two, wrote_wider}
use Rattle.directory.proofs.Places.{placed, place_inside, root_inside}
use Rattle.minis.specs.Listed.{MiniCounts}
use Rattle.minis.proofs.ListLaws.{listed_kept}
use Rattle.volume.specs.Passed.{mini_cell_rules}
use Rattle.system_chains.proofs.SystemLaws.{root_read, size_read}
use Rattle.volume.proofs.MiniCounts.{units_are, table_short, table_cells, mini_counts, cells_too_few, cells_by_rules}
use Rattle.volume.proofs.mini_stage.mini_table.Goals as goal
use Rattle.volume.proofs.mini_stage.mini_table.Goals.{After-cells, After-size}

-- how many mini sectors there are, as the code works it out
units : (c : After-size) → let p = c.args in c.size.result / 64 ≡ (mini_space (geometry_of p.t.geometry) p.img.now).limit
unfolding volume
units c =
    ap (λ n. n / 64) (size_read _ _ 0 c.size.ensures (root_read _ _ c.requires.directory c.requires.same c.place.ensures)) ∙ sym (units_are _ _)

-- how many cells the mini FAT has
cells : (c : After-cells) → let p = c.args in c.cells.result * c.mini_fat_count-m.result ≡ cells_in (geometry_of p.t.geometry) * mini_fat_count p.img.now
cells c = ap₂ (λ m n. m * n) c.cells.ensures c.mini_fat_count-m.ensures

pub place-requires : goal.place-requires
place-requires c = let l = c.requires.directory in placed l _ (root_inside l)

pub size-requires : goal.size-requires
size-requires c = let l = c.requires.directory in omega (arith, c.place.ensures, place_inside l _ (root_inside l))

pub mini_fat_count-m-requires : goal.mini_fat_count-m-requires
mini_fat_count-m-requires c = omega (arith, c.requires.fat.sized.head)

pub overflow_mul-cells : goal.overflow_mul-cells
overflow_mul-cells c =
    let p = c.requires in
    omega (arith, cells (goal.at.overflow_mul-cells c).After-cells, table_cells _ _ p.fat.sized p.table)

pub returns-then-cells-m : goal.returns-then-cells-m
returns-then-cells-m c = record { answer = cells_too_few _ _ (omega (arith, c.if-cells-m.true, cells (goal.at.returns-then-cells-m c).After-cells, units (goal.at.returns-then-cells-m c).After-size)); wrote = wrote_none _ _ _ }

pub overflow_sub-list : goal.overflow_sub-list
overflow_sub-list c =
    let many : let p = c.args in c.mini_fat_count-m.result ≡ mini_fat_count p.img.now = c.mini_fat_count-m.ensures in
    let room' : let p = c.args in c.mini_fat_count-m.result ≤ p.d.list = let p = c.requires in omega (arith, many, table_short _ _ p.fat.sized p.table, p.room) in
    room'

pub list_minis-minis-requires : goal.list_minis-minis-requires
list_minis-minis-requires c =
    let many : let p = c.args in c.mini_fat_count-m.result ≡ mini_fat_count p.img.now = c.mini_fat_count-m.ensures in
    let room' : let p = c.args in c.mini_fat_count-m.result ≤ p.d.list = let p = c.requires in omega (arith, many, table_short _ _ p.fat.sized p.table, p.room) in
    let counts : let p = c.args in MiniCounts (geometry_of p.t.geometry) p.img.now (c.size.result / 64) = let p = c.requires in mini_counts _ _ p.fat.sized _ p.table p.stream (units (goal.at.list_minis-minis-requires c).After-size) (omega (arith, c.if-cells-m.false, cells (goal.at.list_minis-minis-requires c).After-cells)) in
    let p = c.requires in record { fat_listed = p.fat; mini_counts = counts; units_le_at = omega (arith, counts.few, many, room', table_short _ _ p.fat.sized p.table, p.room); img_bound = omega (arith, many, room', p.before) }

pub copy_minis-requires : goal.copy_minis-requires
copy_minis-requires c =
    let many' : let p = c.args in c.mini_fat_count-m.result ≡ mini_fat_count p.img.now = c.mini_fat_count-m.ensures in
    let room' : let p = c.args in c.mini_fat_count-m.result ≤ p.d.list = let p = c.requires in omega (arith, many', table_short _ _ p.fat.sized p.table, p.room) in
    let counts : let p = c.args in MiniCounts (geometry_of p.t.geometry) p.img.now (c.size.result / 64) = let p = c.requires in mini_counts _ _ p.fat.sized _ p.table p.stream (units (goal.at.copy_minis-requires c).After-size) (omega (arith, c.if-cells-m.false, cells (goal.at.copy_minis-requires c).After-cells)) in
    let apart : let p = c.args in sector_count_of p.t p.img.now + c.list_minis-minis.result.units ≤ c.list_minis-minis.result.list = let p = c.requires in rw c.list_minis-minis.ensures.answer (omega (arith, counts.few, many', room', table_short _ _ p.fat.sized p.table, p.room, p.fat.sized.many)) in
    record { mini_listed = c.list_minis-minis.ensures.listed; units_bound = rw c.requires.fat.count apart }

pub returns-then-not-copy_minis : goal.returns-then-not-copy_minis
returns-then-not-copy_minis c =
    let many' : let p = c.args in c.mini_fat_count-m.result ≡ mini_fat_count p.img.now = c.mini_fat_count-m.ensures in
    let room' : let p = c.args in c.mini_fat_count-m.result ≤ p.d.list = let p = c.requires in omega (arith, many', table_short _ _ p.fat.sized p.table, p.room) in
    let counts : let p = c.args in MiniCounts (geometry_of p.t.geometry) p.img.now (c.size.result / 64) = let p = c.requires in mini_counts _ _ p.fat.sized _ p.table p.stream (units (goal.at.returns-then-not-copy_minis c).After-size) (omega (arith, c.if-cells-m.false, cells (goal.at.returns-then-not-copy_minis c).After-cells)) in
    let apart : let p = c.args in sector_count_of p.t p.img.now + c.list_minis-minis.result.units ≤ c.list_minis-minis.result.list = let p = c.requires in rw c.list_minis-minis.ensures.answer (omega (arith, counts.few, many', room', table_short _ _ p.fat.sized p.table, p.room, p.fat.sized.many)) in
    let rules' : let p = c.args in mini_cell_rules (volume (geometry_of p.t.geometry) p.img.now) ≡ c.copy_minis.result = cells_by_rules _ _ (omega (arith, c.if-cells-m.false, cells (goal.at.returns-then-not-copy_minis c).After-cells, units (goal.at.returns-then-not-copy_minis c).After-size)) (rw c.list_minis-minis.ensures.answer at c.copy_minis.ensures.answer) in
    let listed_wrote : let p = c.args in Wrote p.work.now c.list_minis-minis.new.work (sector_count_of p.t p.img.now) (p.d.list - sector_count_of p.t p.img.now) = let p = c.requires in wrote_wider _ _ (rw many' at c.list_minis-minis.ensures.wrote) (omega (arith, many', room', table_short _ _ p.fat.sized p.table, p.room)) (omega (arith, many', room', table_short _ _ p.fat.sized p.table, p.room)) in
    let wrote' : let p = c.args in Wrote p.work.now c.copy_minis.new.work (sector_count_of p.t p.img.now) (p.d.list - sector_count_of p.t p.img.now) = let p = c.requires in wrote_two listed_wrote (wrote_wider _ _ (rw p.fat.count at c.copy_minis.ensures.wrote) (omega arith) (omega (arith, apart, room', many', ap (λ q. q.list) c.list_minis-minis.ensures.answer, p.room))) in
    record { answer = rules' ∙ c.if-not-copy_minis.true; wrote = wrote' }

pub returns : goal.returns
returns c =
    let many' : let p = c.args in c.mini_fat_count-m.result ≡ mini_fat_count p.img.now = c.mini_fat_count-m.ensures in
    let room' : let p = c.args in c.mini_fat_count-m.result ≤ p.d.list = let p = c.requires in omega (arith, many', table_short _ _ p.fat.sized p.table, p.room) in
    let counts : let p = c.args in MiniCounts (geometry_of p.t.geometry) p.img.now (c.size.result / 64) = let p = c.requires in mini_counts _ _ p.fat.sized _ p.table p.stream (units (goal.at.returns c).After-size) (omega (arith, c.if-cells-m.false, cells (goal.at.returns c).After-cells)) in
    let apart : let p = c.args in sector_count_of p.t p.img.now + c.list_minis-minis.result.units ≤ c.list_minis-minis.result.list = let p = c.requires in rw c.list_minis-minis.ensures.answer (omega (arith, counts.few, many', room', table_short _ _ p.fat.sized p.table, p.room, p.fat.sized.many)) in
    let rules' : let p = c.args in mini_cell_rules (volume (geometry_of p.t.geometry) p.img.now) ≡ c.copy_minis.result = cells_by_rules _ _ (omega (arith, c.if-cells-m.false, cells (goal.at.returns c).After-cells, units (goal.at.returns c).After-size)) (rw c.list_minis-minis.ensures.answer at c.copy_minis.ensures.answer) in
    let listed_wrote : let p = c.args in Wrote p.work.now c.list_minis-minis.new.work (sector_count_of p.t p.img.now) (p.d.list - sector_count_of p.t p.img.now) = let p = c.requires in wrote_wider _ _ (rw many' at c.list_minis-minis.ensures.wrote) (omega (arith, many', room', table_short _ _ p.fat.sized p.table, p.room)) (omega (arith, many', room', table_short _ _ p.fat.sized p.table, p.room)) in
    let wrote' : let p = c.args in Wrote p.work.now c.copy_minis.new.work (sector_count_of p.t p.img.now) (p.d.list - sector_count_of p.t p.img.now) = let p = c.requires in wrote_two listed_wrote (wrote_wider _ _ (rw p.fat.count at c.copy_minis.ensures.wrote) (omega arith) (omega (arith, apart, room', many', ap (λ q. q.list) c.list_minis-minis.ensures.answer, p.room))) in
    let i = rw (units (goal.at.returns c).After-size, many') at c.list_minis-minis.ensures.answer in record {
      answer = (
        rules' ∙ c.if-not-copy_minis.false,
        (i, (listed_kept c.list_minis-minis.ensures.listed (rw c.requires.fat.count at c.copy_minis.ensures.wrote) apart, rw (i, c.requires.fat.count) at (c.copy_minis.ensures.copied (c.if-not-copy_minis.false)))),
      );
      wrote = wrote';
    }
