use Rattle.pulse_records.proofs.Summing.{Summing}
use Rattle.pulse_records.proofs.sums.add_records.Given as goal

abbrev pub invariant-loop-k : goal.invariant-loop-k
invariant-loop-k l = Summing l.bytes 0 l.fn.n.0 l.initial.total.0 l.k l.total.0
