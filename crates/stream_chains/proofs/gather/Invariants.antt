use Rattle.std.proofs.Common.{◌≡◌, ◌-◌, ◌≤◌, length}
use Rattle.tables.specs.Views.{volume_of}
use Rattle.stream_chains.specs.Asked.{Gathered}
use Rattle.stream_chains.proofs.gather.Given as goal

abbrev pub invariant-loop-y : goal.invariant-loop-y
invariant-loop-y l =
    (goal.iterator-loop-y).can_next l.y-iterator × (goal.iterator-loop-y).is_finite l.y-iterator
    × ((l.y-iterator.end ≡ l.end) × (l.fn.x.0 ≤ l.y-iterator.next) × (l.y-iterator.next ≤ l.end) × (length l.starts ≡ 32) × (length l.sizes ≡ 32)
    × Gathered (volume_of l.d.geometry l.img) l.fn.x.0 (l.y-iterator.next - l.fn.x.0) l.k l.starts l.sizes)
