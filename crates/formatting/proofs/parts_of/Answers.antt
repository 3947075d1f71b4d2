use mathlib.Core.Path.{refl, ◌∙◌}
use native.Mathlib.Omega.{arith}
use Rattle.kinds.specs.Sizes.{geometry_of}
use Rattle.formatting.proofs.Plans.{cells_are, minis_low, fat_low, difat_low, stream_low, parts_start}
use Rattle.fresh_sectors.specs.Parts.{plan_of}
use Rattle.formatting.proofs.parts_of.Goals as goal

pub units_for-fat-requires : goal.units_for-fat-requires
units_for-fat-requires c = let h = c.requires in let g = geometry_of c.args.g in let q = plan_of c.args.p in omega (arith, c.cells.ensures, cells_are g q h)

pub difat_need-requires : goal.difat_need-requires
difat_need-requires c = let h = c.requires in let g = geometry_of c.args.g in let q = plan_of c.args.p in (h.sized.wide, h.narrow, omega (arith, h.sectors, fat_low g q h _ _ c.cells.ensures c.units_for-fat.ensures))

pub overflow_add-directory : goal.overflow_add-directory
overflow_add-directory c = let h = c.requires in let g = geometry_of c.args.g in let q = plan_of c.args.p in omega (arith, h.sectors, h.directory, h.mini_fat, fat_low g q h _ _ c.cells.ensures c.units_for-fat.ensures, difat_low g q h _ _ c.difat_need.ensures)

pub overflow_add-minifat : goal.overflow_add-minifat
overflow_add-minifat c = let h = c.requires in let g = geometry_of c.args.g in let q = plan_of c.args.p in omega (arith, h.sectors, h.directory, h.mini_fat, fat_low g q h _ _ c.cells.ensures c.units_for-fat.ensures, difat_low g q h _ _ c.difat_need.ensures)

pub overflow_add-stream : goal.overflow_add-stream
overflow_add-stream c = let h = c.requires in let g = geometry_of c.args.g in let q = plan_of c.args.p in omega (arith, h.sectors, h.directory, h.mini_fat, fat_low g q h _ _ c.cells.ensures c.units_for-fat.ensures, difat_low g q h _ _ c.difat_need.ensures)

pub overflow_mul-p : goal.overflow_mul-p
overflow_mul-p c = let h = c.requires in let g = geometry_of c.args.g in let q = plan_of c.args.p in omega (arith, minis_low g q h)

pub overflow_add-spare : goal.overflow_add-spare
overflow_add-spare c = let h = c.requires in let g = geometry_of c.args.g in let q = plan_of c.args.p in omega (arith, h.sectors, h.directory, h.mini_fat, fat_low g q h _ _ c.cells.ensures c.units_for-fat.ensures, difat_low g q h _ _ c.difat_need.ensures, stream_low (geometry_of c.args.g) (plan_of c.args.p) h _ c.units_for.ensures)

pub at-requires : goal.at-requires
at-requires c = let h = c.requires in let g = geometry_of c.args.g in let q = plan_of c.args.p in omega (arith, h.sectors, h.directory, h.mini_fat, fat_low g q h _ _ c.cells.ensures c.units_for-fat.ensures, difat_low g q h _ _ c.difat_need.ensures)

pub at-requires-2 : goal.at-requires-2
at-requires-2 c = let h = c.requires in let g = geometry_of c.args.g in let q = plan_of c.args.p in omega (arith, h.sectors, h.directory, h.mini_fat, fat_low g q h _ _ c.cells.ensures c.units_for-fat.ensures, difat_low g q h _ _ c.difat_need.ensures)

pub at-requires-3 : goal.at-requires-3
at-requires-3 c = let h = c.requires in let g = geometry_of c.args.g in let q = plan_of c.args.p in omega (arith, h.sectors, h.directory, h.mini_fat, fat_low g q h _ _ c.cells.ensures c.units_for-fat.ensures, difat_low g q h _ _ c.difat_need.ensures)

pub at-requires-4 : goal.at-requires-4
at-requires-4 c = let h = c.requires in let g = geometry_of c.args.g in let q = plan_of c.args.p in omega (arith, h.sectors, h.directory, h.mini_fat, fat_low g q h _ _ c.cells.ensures c.units_for-fat.ensures, difat_low g q h _ _ c.difat_need.ensures)

pub at-requires-5 : goal.at-requires-5
at-requires-5 c = let h = c.requires in let g = geometry_of c.args.g in let q = plan_of c.args.p in omega (arith, h.sectors, h.directory, h.mini_fat, fat_low g q h _ _ c.cells.ensures c.units_for-fat.ensures, difat_low g q h _ _ c.difat_need.ensures, stream_low (geometry_of c.args.g) (plan_of c.args.p) h _ c.units_for.ensures)

pub returns : goal.returns
returns c = let h = c.requires in let g = geometry_of c.args.g in let q = plan_of c.args.p in let s = parts_start g q h _ _ _ _ c.cells.ensures c.units_for-fat.ensures c.difat_need.ensures c.units_for.ensures in record { geometry = refl; plan = refl; placed = record { difat = c.at.ensures ∙ s.difat; directory = c.at-2.ensures ∙ s.directory; mini_fat = c.at-3.ensures ∙ s.mini_fat; mini_stream = c.at-4.ensures ∙ s.stream; spare = c.at-5.ensures ∙ s.spare } }
