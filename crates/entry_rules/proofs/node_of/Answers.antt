use mathlib.Core.Path.{◌≡◌, ap, ◌∙◌}
use mathlib.Core.Bool.{true, ◌||◌}
use native.Mathlib.Omega.{arith}
use Rattle.format.specs.Layout.Entry.{is_storage, is_stream}
use Rattle.entries.specs.Entry.{entry_at}
use Rattle.nodes.specs.Slots.{slot_of}
use Rattle.entry_rules.proofs.Reading.{units_few, packable}
use Rattle.entry_rules.proofs.node_of.Goals as goal
use Rattle.entry_rules.proofs.node_of.Goals.{Then-is_storage-is_stream}

object : (c : Then-is_storage-is_stream) → let p = c.args in let e = entry_at p.img.now p.p in (is_storage e || is_stream e) ≡ true
object c = rw (← c.entry_type-t.ensures, ← c.is_storage.ensures, ← c.is_stream.ensures) c.if-is_storage-is_stream.true

pub overflow_cast-units : goal.overflow_cast-units
overflow_cast-units c = omega (arith, units_few c.requires.n_nonzero c.requires.object_named (object (goal.at.overflow_cast-units c).Then-is_storage-is_stream) c.name_units-units.ensures)

pub pack-requires : goal.pack-requires
pack-requires c =
    packable c.requires.n_nonzero c.requires.object_named (object (goal.at.pack-requires c).Then-is_storage-is_stream) c.name_units-units.ensures
    (c.of-low.ensures ∙ ap (slot_of _) c.left.ensures)
    (c.of-high.ensures ∙ ap (slot_of _) c.right.ensures)
    (c.of-below.ensures ∙ ap (slot_of _) c.child.ensures)
