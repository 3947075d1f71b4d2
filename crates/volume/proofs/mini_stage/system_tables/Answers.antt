use mathlib.Core.Path.{◌≡◌, ap}
use Rattle.kinds.specs.Sizes.{geometry_of}
use Rattle.tables.specs.Listed.{tables_of}
use Rattle.volume.specs.Passed.{TablesHold}
use Rattle.volume.proofs.MiniStage.{chains_wrong, mini_room, table_wrong, table_right, system_for}
use Rattle.volume.proofs.mini_stage.system_tables.Goals as goal
use Rattle.volume.proofs.mini_stage.system_tables.Goals.{After-tables_of-t}

own : (c : After-tables_of-t) → c.tables_of-t.result ≡ tables_of c.tables_of-t.result.geometry c.args.img.now
own c = rw c.tables_of-t.ensures

hold : (c : After-tables_of-t) → TablesHold (geometry_of c.tables_of-t.result.geometry) c.args.img.now c.args.work.now c.args.n
hold c = rw c.tables_of-t.ensures c.requires

sized : (c : After-tables_of-t) → c.tables_of-t.result.geometry ≡ c.args.g
sized c = ap (λ t. t.geometry) c.tables_of-t.ensures

pub tables_of-t-requires : goal.tables_of-t-requires
tables_of-t-requires c = let t = c.requires.listed in record { image_sized = t.sized; img_bound = t.few }

pub copy_tables-d-requires : goal.copy_tables-d-requires
copy_tables-d-requires c = let s = (goal.at.copy_tables-d-requires c).After-tables_of-t in record { tables_hold = hold s; t_value = own s }

pub mark_system-requires : goal.mark_system-requires
mark_system-requires c = record { system_markable = c.copy_tables-d.ensures.copied.system; img_value = (hold (goal.at.mark_system-requires c).After-tables_of-t).chained }

pub returns-in_err-shared : goal.returns-in_err-shared
returns-in_err-shared c =
    let s = (goal.at.returns-in_err-shared c).After-tables_of-t in
    let d = c.copy_tables-d.ensures in
    rw c.from_residual.ensures (system_for _ (sized s) (chains_wrong (hold s) (own s) d.answer d.copied c.in_err-shared.ensures))

pub mini_table-requires : goal.mini_table-requires
mini_table-requires c =
    let s = (goal.at.mini_table-requires c).After-tables_of-t in
    let d = c.copy_tables-d.ensures in
    mini_room (hold s) (own s) d.answer d.copied c.in_ok-shared.ensures

pub returns-in_err-minis : goal.returns-in_err-minis
returns-in_err-minis c =
    let s = (goal.at.returns-in_err-minis c).After-tables_of-t in
    let d = c.copy_tables-d.ensures in
    let m = c.in_err-minis.ensures in
    rw c.from_residual-in_err-minis.ensures (system_for _ (sized s) (table_wrong (hold s) (own s) d.answer d.copied c.in_ok-shared.ensures m.wrote m.answer))

pub returns : goal.returns
returns c =
    let s = (goal.at.returns c).After-tables_of-t in
    let d = c.copy_tables-d.ensures in
    let m = c.in_ok-minis.ensures in
    system_for _ (sized s) (table_right (hold s) (own s) d.answer d.copied c.in_ok-shared.ensures m.wrote m.answer)
