use native.Mathlib.Omega.{arith}
use Rattle.tables.proofs.DifatLaws.{entries_enough}
use Rattle.tables.proofs.sectors.list_fats.Goals as goal

pub difat_entry-requires : goal.difat_entry-requires
difat_entry-requires c = record { difats = rw c.requires.f_value c.loop-k.invariant.difats; i_bound = omega (arith, c.loop-k-test.true, c.requires.f_value, entries_enough c.requires.difats.counted) }
