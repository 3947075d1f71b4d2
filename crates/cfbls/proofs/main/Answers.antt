use borrow.Author.Rules.{rules}
use mathlib.Core.Path.{sym}
use lib.Seq.{length-take-le}
use Rattle.cfbls.proofs.Output.{capacity_work, capacity_out}
use Rattle.cfbls.proofs.main.Goals as goal

pub report-k-requires : goal.report-k-requires
report-k-requires c = record { work_len = capacity_work; out_len = capacity_out (sym c.large_buffer-out.ensures) }

pub slice_bounds-write_all-end : goal.slice_bounds-write_all-end
slice_bounds-write_all-end c = sym (length-take-le _ _ c.report-k.ensures.upper_bound)
