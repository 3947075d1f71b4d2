use Rattle.stream_chains.specs.Split.{SplitReady}
use Rattle.stream_chains.proofs.split.Given as goal

abbrev pub invariant-loop-j : goal.invariant-loop-j
invariant-loop-j l = SplitReady l.g l.sectors l.j l.starts l.sizes l.c l.sh l.sl l.lh l.ll
