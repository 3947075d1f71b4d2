use Rattle.directory.specs.Listed.{entries_of}
use Rattle.listing.specs.Walks.{pairs}
use Rattle.listing.proofs.Walked.{count_come}
use Rattle.listing.proofs.Measures.{Measuring}
use Rattle.listing.proofs.measure.Given as goal

abbrev pub invariant-loop-n : goal.invariant-loop-n
invariant-loop-n l = Measuring l.d l.img l.most l.initial.work l.work l.n l.objects l.bytes

abbrev pub decreases-loop-n : goal.decreases-loop-n
decreases-loop-n l = count_come (entries_of l.d l.img) (pairs l.work l.n)
