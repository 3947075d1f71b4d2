use Prim.Native.Nat.{◌-◌}
use Rattle.format.specs.Layout.Geometry.{cells_in}
use Rattle.format.specs.Fresh.Header.{bytes_at}
use Rattle.fresh_sectors.specs.Parts.{sizes, plan}
use Rattle.fresh_sectors.specs.Tables.{table_number}
use Rattle.fresh_sectors.specs.Laid.{Laid}
use Rattle.fresh_sectors.proofs.fill_table.Given as goal

abbrev pub invariant-loop-i : goal.invariant-loop-i
invariant-loop-i l = Laid 4 (cells_in (sizes l.l)) (bytes_at (table_number (sizes l.l) (plan l.l) l.s.0)) l.initial.part l.i l.part
