use Prim.Native.Nat.{◌+◌, ◌-◌, ◌≤◌}
use native.Mathlib.Omega.{arith}
use Rattle.tables.specs.Listed.{list_place}
use Rattle.volume.proofs.Walks.{room_before, hold_kept, wrote_before}
use Rattle.volume.proofs.entry_stage.open_directory.Goals as goal

pub tables_of-t-requires : goal.tables_of-t-requires
tables_of-t-requires c = let t = c.requires in record { image_sized = t.listed.sized; img_bound = t.listed.few }

pub overflow_sub-list : goal.overflow_sub-list
overflow_sub-list c = rw c.tables_of-t.ensures (omega (arith, room_before c.requires))

pub list_directory-requires : goal.list_directory-requires
list_directory-requires c = let t = c.requires in rw c.tables_of-t.ensures (record { fat_listed = t.listed; n_value = t.count; img_value = t.chained; n_bound = omega (arith, room_before t) })

pub returns : goal.returns
returns c =
    let e = c.tables_of-t.ensures in
    let h : list_place c.args.img.now - c.args.n + c.args.n ≤ list_place c.args.img.now = omega (arith, room_before c.requires) in record { answer = (rw e at c.list_directory.ensures.answer); directory = c.list_directory.ensures.listed; fat = (hold_kept c.requires (rw e at c.list_directory.ensures.wrote) h).listed; wrote = wrote_before c.requires (rw e at c.list_directory.ensures.wrote) h }
