use Rattle.std.proofs.Common.{arith, refl, ◌*◌, ◌-◌, ◌≤◌, ◌∙◌}
use Rattle.format.specs.Basics.Bytes.{put_bytes}
use Rattle.fresh_sectors.proofs.Laying.{laid_start, laid_step, laid_end}
use Rattle.fresh_sectors.proofs.Standing.{index_few, parts_risen, entries_few_lem, entries_bytes, entry_sized, entries_block}
use Rattle.fresh_sectors.specs.Parts.{sizes, plan}
use Rattle.fresh_sectors.specs.Tables.{entry_from}
use Rattle.fresh_sectors.proofs.fill_directory.Goals as goal
use Rattle.fresh_sectors.proofs.fill_directory.Goals.{After-index-2}

few : (c : After-index-2) → (c.entries-n.result ≤ 32) × (c.entries-n.result * (c.index.result - c.index-2.result) ≤ 0x800_0000)
few c =
    let r : c.entries-n.result ≤ 32 = omega (arith, entries_few_lem c.args.l c.requires.stands) in
    (r, index_few c.entries-n.result (c.index.result - c.index-2.result) (omega arith) (omega (arith, parts_risen c.args.l c.requires.stands)))

pub overflow_mul-first : goal.overflow_mul-first
overflow_mul-first c = omega (arith, few (goal.at.overflow_mul-first c).After-index-2)

pub loop-i-init : goal.loop-i-init
loop-i-init c = laid_start 128 _ _ _ (entry_sized c.args.l c.requires.stands _)

pub overflow_mul-i : goal.overflow_mul-i
overflow_mul-i c = omega (arith, few (goal.at.overflow_mul-i c).After-index-2)

pub overflow_add-first : goal.overflow_add-first
overflow_add-first c = omega (arith, few (goal.at.overflow_add-first c).After-index-2)

pub at-requires : goal.at-requires
at-requires c = omega (arith, few (goal.at.at-requires c).After-index-2)

pub put_entry-requires-clause-p_in_bounds : goal.put_entry-requires-clause-p_in_bounds
put_entry-requires-clause-p_in_bounds c = omega (arith, entries_bytes c.args.l c.requires.stands)

pub loop-i-preserved : goal.loop-i-preserved
unfolding put_bytes entry_from
loop-i-preserved c =
    laid_step 128 _ (entry_from (sizes c.args.l) (plan c.args.l) _) c.args.part.now (entry_sized c.args.l c.requires.stands _) c.loop-i.i c.loop-i.part _ _
    (omega (arith, entries_bytes c.args.l c.requires.stands)) c.loop-i.invariant (omega arith) refl (c.put_entry.ensures ∙ rw c.at.ensures)

pub returns : goal.returns
returns c =
    laid_end 128 _ (entry_from (sizes c.args.l) (plan c.args.l) _) c.args.part.now (entry_sized c.args.l c.requires.stands _) _ _
    (omega (arith, entries_bytes c.args.l c.requires.stands)) c.loop-i.invariant (omega arith)
    ∙ entries_block c.args.l c.requires.stands _ _ c.entries-n.ensures ∙ cc
