use borrow.Author.Rules.{rules}
use native.Mathlib.Omega.{arith}
use Rattle.format.specs.Calls.CursorMoves.{cursor_call}
use Rattle.paging.proofs.Moves.{move_fits, move_is}
use Rattle.paging.proofs.cursor.read_from.Goals as goal

pub read_at-r-requires : goal.read_at-r-requires
unfolding cursor_call
read_at-r-requires c = search rules

pub count-requires : goal.count-requires
unfolding cursor_call
count-requires c = search rules

pub overflow_add-next : goal.overflow_add-next
unfolding cursor_call
overflow_add-next c =
    let p = c.args in
    omega (arith, move_fits p.image.now p.c.entry.0 p.c.position p.out.now p.work.now (λ i. omega (arith, c.shared_slice_known-1.given i)) (omega arith) c.read_at-r.ensures.result_value c.count.ensures)

pub returns : goal.returns
unfolding cursor_call
returns c = let p = c.args in record { read_value = c.read_at-r.ensures.result_value; cursor_value = move_is p.image.now p.c.entry.0 p.c.position p.out.now p.work.now c.read_at-r.ensures.result_value c.count.ensures; out_after = c.read_at-r.ensures.out_after; work_after = c.read_at-r.ensures.work_after }
