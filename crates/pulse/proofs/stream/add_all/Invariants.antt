use mathlib.Core.Path.{◌≡◌}
use Prim.Native.Nat.{◌-◌}
use lib.ListN.{length}
use Rattle.format.specs.Layout.Stream.{contents}
use Rattle.format.specs.Rules.Version.{own_volume}
use Rattle.pulse_records.proofs.Summing.{Summing}
use Rattle.pulse.proofs.stream.add_all.Given as goal

abbrev pub invariant-loop-start : goal.invariant-loop-start
invariant-loop-start l = (Summing (contents (own_volume l.image) l.image l.e.id.0) l.first l.count.0 0 l.start l.total.0) × (length l.piece ≡ length l.initial.piece)

abbrev pub decreases-loop-start : goal.decreases-loop-start
decreases-loop-start l = l.count.0 - l.start
