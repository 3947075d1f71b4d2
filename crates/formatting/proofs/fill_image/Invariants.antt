use Prim.Native.Nat.{suc, ◌+◌, ◌≤◌, ◌*◌}
use mathlib.Core.Path.{◌≡◌}
use lib.ListN.{length}
use Rattle.fresh_sectors.specs.Parts.{sizes, plan}
use Rattle.fresh_sectors.specs.Laid.{Laid}
use Rattle.formatting.specs.Numbers.{image_block}
use Rattle.formatting.proofs.fill_image.Given as goal

abbrev pub invariant-loop-s : goal.invariant-loop-s
invariant-loop-s l =
    (goal.iterator-loop-s).can_next l.s-iterator × (goal.iterator-loop-s).is_finite l.s-iterator
    × (length l.initial.img ≡ suc l.l.plan.sectors * l.l.geometry.bytes)
    × (l.s-iterator.end ≡ l.l.plan.sectors)
    × (l.s-iterator.next ≤ l.l.plan.sectors)
    × Laid l.l.geometry.bytes (suc l.l.plan.sectors) (image_block (sizes l.l) (plan l.l)) l.initial.img (l.s-iterator.next + 1) l.img
