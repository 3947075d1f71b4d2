use borrow.Author.Rules.{rules}
use Prim.Native.Nat.{◌<◌}
use mathlib.Core.Path.{◌≡◌}
use native.Mathlib.Omega.{arith}
use lib.ListN.{length}
use Rattle.volume.proofs.ListsKept.{ready_kept}
use Rattle.unitlists.proofs.Limits.{limit_end}
use Rattle.unitlists.proofs.Picking.{picking_start, picking_cells, picking_below, picking_step, picking_none, picking_full}
use Rattle.unitlists.proofs.list_free.Goals as goal
use Rattle.unitlists.proofs.list_free.Goals.{In-loop-n}

in_work : (c : In-loop-n) → c.loop-n.n < length c.loop-n.work
in_work c = omega (arith, c.requires.need_le_stream, c.requires.readied.stream.room, c.loop-n.invariant.wrote.long)

pub loop-n-init : goal.loop-n-init
loop-n-init c = picking_start c.requires.k_le_need

pub next_free-s-requires : goal.next_free-s-requires
next_free-s-requires c =
    let l = c.loop-n.invariant in
    record { readied = ready_kept l.wrote c.requires.need_le_stream c.requires.readied; from_bound = l.within }

pub overflow_add-looked : goal.overflow_add-looked
overflow_add-looked c = omega (arith, picking_cells c.loop-n.invariant c.args.kind c.next_free-s.ensures (omega arith), limit_end c.requires.readied c.args.kind)

pub returns-in_default : goal.returns-in_default
returns-in_default c = let d = picking_none c.loop-n.invariant c.args.kind c.next_free-s.ensures (omega arith) c.in_default.is in record { value = d.0; work_after = d.1; wrote = c.loop-n.invariant.wrote }

pub offset_bounds-work-n : goal.offset_bounds-work-n
offset_bounds-work-n c = omega (arith, in_work (goal.at.offset_bounds-work-n c).In-loop-n)

pub bounds-work-n : goal.bounds-work-n
bounds-work-n c = in_work (goal.at.bounds-work-n c).In-loop-n

pub overflow_add-from : goal.overflow_add-from
overflow_add-from c = omega (arith, c.index-from.ensures, picking_below c.loop-n.invariant c.args.kind c.next_free-s.ensures (omega arith) c.in-Some.is, limit_end c.requires.readied c.args.kind)

pub loop-n-preserved : goal.loop-n-preserved
loop-n-preserved c = rw (c.number.ensures, c.index-from.ensures) (picking_step c.loop-n.invariant c.args.kind c.next_free-s.ensures (omega arith) c.in-Some.is (in_work (goal.at.loop-n-preserved c).In-loop-n))

pub returns : goal.returns
returns c =
    let l = c.loop-n.invariant in
    let e : c.loop-n.n ≡ c.args.need = omega (arith, l.some) in
    let d = rw e at (picking_full l (omega arith)) in
    record { value = d.0; work_after = d.1; wrote = l.wrote }
