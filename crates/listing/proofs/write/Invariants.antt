use Rattle.directory.specs.Listed.{entries_of}
use Rattle.listing.specs.Walks.{pairs}
use Rattle.listing.proofs.Walked.{count_come}
use Rattle.listing.proofs.Writes.{Writing}
use Rattle.listing.proofs.write.Given as goal

abbrev pub invariant-loop-n : goal.invariant-loop-n
invariant-loop-n l = Writing l.d l.img l.objects l.initial.out l.initial.work l.work l.n l.out l.at l.from

abbrev pub decreases-loop-n : goal.decreases-loop-n
decreases-loop-n l = count_come (entries_of l.d l.img) (pairs l.work l.n)
