use Prim.Native.Nat.{◌-◌}
use Rattle.format.specs.Fresh.Header.{bytes_at}
use Rattle.formatting.specs.Numbers.{header_number}
use Rattle.fresh_sectors.specs.Laid.{Laid}
use Rattle.fresh_sectors.specs.Parts.{sizes, plan}
use Rattle.formatting.proofs.put_numbers.Given as goal

abbrev pub invariant-loop-i : goal.invariant-loop-i
invariant-loop-i l = Laid 4 118 (bytes_at (header_number (sizes l.l) (plan l.l))) l.initial.part l.i l.part
