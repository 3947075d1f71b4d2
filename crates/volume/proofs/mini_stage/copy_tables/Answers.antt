use native.Mathlib.Omega.{arith}
use Rattle.volume.proofs.Copying.{list_room, fat_listed, still_listed, all_copied}
use Rattle.volume.proofs.mini_stage.copy_tables.Goals as goal

pub copy_fat-requires : goal.copy_fat-requires
copy_fat-requires c = fat_listed c.requires.tables_hold c.requires.t_value

pub overflow_sub-list : goal.overflow_sub-list
overflow_sub-list c = omega (arith, list_room c.requires.tables_hold c.requires.t_value)

pub list_directory-requires : goal.list_directory-requires
list_directory-requires c = record { fat_listed = still_listed c.requires.tables_hold c.requires.t_value c.copy_fat.ensures.holds c.copy_fat.ensures.wrote; n_value = c.requires.tables_hold.count; img_value = c.requires.tables_hold.chained; n_bound = omega (arith, list_room c.requires.tables_hold c.requires.t_value) }

pub returns : goal.returns
returns c = record { answer = c.list_directory.ensures.answer; copied = all_copied c.requires.tables_hold c.requires.t_value c.copy_fat.ensures.holds c.copy_fat.ensures.wrote c.list_directory.ensures.wrote c.list_directory.ensures.answer c.list_directory.ensures.listed }
