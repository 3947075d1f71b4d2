use Rattle.text.proofs.Writing.{Writing}
use Rattle.text.proofs.put_decimal.Given as goal

abbrev pub invariant-loop-i : goal.invariant-loop-i
invariant-loop-i l = Writing l.initial.out l.n l.out l.i l.m
