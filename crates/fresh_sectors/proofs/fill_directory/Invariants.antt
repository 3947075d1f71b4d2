use Prim.Native.Nat.{◌-◌}
use Rattle.format.specs.Layout.Geometry.{entries_in}
use Rattle.fresh_sectors.specs.Tables.{entry_from}
use Rattle.fresh_sectors.specs.Parts.{sizes, plan}
use Rattle.fresh_sectors.specs.Laid.{Laid}
use Rattle.fresh_sectors.proofs.fill_directory.Given as goal

abbrev pub invariant-loop-i : goal.invariant-loop-i
invariant-loop-i l = Laid 128 (entries_in (sizes l.l)) (entry_from (sizes l.l) (plan l.l) l.first) l.initial.part l.i l.part
