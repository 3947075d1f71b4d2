use borrow.Author.Rules.{rules}
use mathlib.Core.Path.{refl, ◌∙◌}
use native.Mathlib.Omega.{arith}
use Rattle.spaces.specs.Units.{number_in}
use Rattle.spaces.proofs.Units.{unit_as}
use Rattle.edits.proofs.Rewriting.{writable_less, rewritten_is}
use Rattle.edits.proofs.resize.rewrite.Goals as goal

pub put_cells-requires : goal.put_cells-requires
put_cells-requires c = record { writable = writable_less _ _ c.requires.writable refl (omega arith); from_le_to = omega (arith, c.least-kept.ensures) }

pub put_cells-requires-2 : goal.put_cells-requires-2
put_cells-requires-2 c = record { writable = writable_less _ _ c.requires.writable c.put_cells.auto.img (omega arith); from_le_to = omega (arith, c.saturating_sub.ensures, c.least-kept.ensures) }

pub fill_tail-requires : goal.fill_tail-requires
fill_tail-requires c = record { writable = writable_less _ _ c.requires.writable (c.put_cells-2.auto.img ∙ c.put_cells.auto.img) (omega arith); size_bound = c.requires.size_bound }

pub chain_start-first-requires : goal.chain_start-first-requires
chain_start-first-requires c = omega (arith, c.requires.writable.room)

pub put_entry-requires : goal.put_entry-requires
put_entry-requires c = let l = c.fill_tail.auto.img ∙ c.put_cells-2.auto.img ∙ c.put_cells.auto.img in record { entry_room = record { placed = c.requires.entry_room.placed; inside = omega (arith, l, c.requires.entry_room.inside) }; img_len_bound = omega (arith, l, c.requires.writable.short) }

pub returns : goal.returns
returns c =
    let a = c.args in
    let r = c.requires.writable.room in
    rewritten_is _ _ a.work.now a.old a.n a.e.size a.new a.img.now (omega arith) (omega arith) c.least-kept.result c.saturating_sub.result (number_in c.chain_start-first.result) c.least-kept.ensures c.saturating_sub.ensures (unit_as a.kind _ c.chain_start-first.ensures).1 c.put_cells.ensures c.put_cells-2.ensures c.fill_tail.ensures c.put_entry.ensures
