use native.Mathlib.Omega.{arith}
use Rattle.directory.proofs.Places.{count_is}
use Rattle.owners.proofs.Blocks.{measured, block_wrong, block_broken, block_marked}
use Rattle.owners.proofs.mark_block.Goals as goal

pub gather-k-requires-clause-x_le_end : goal.gather-k-requires-clause-x_le_end
gather-k-requires-clause-x_le_end c = (c.requires.x_le_end.0, omega (arith, c.requires.x_le_end.1, count_is c.requires.streams_markable.directory), c.requires.x_le_end.2)

pub returns-in_err-c : goal.returns-in_err-c
returns-in_err-c c =
    let z = c.requires.streams_markable in
    rw c.from_residual.ensures (block_wrong z c.gather-k.ensures (c.in_err-c.ensures _ (measured z.sectors)))

pub returns-in_err-small : goal.returns-in_err-small
returns-in_err-small c = rw c.from_residual-in_err-small.ensures (block_broken c.requires.streams_markable c.gather-k.ensures c.in_ok-c.ensures c.in_err-small.ensures)

pub returns-in_err-large : goal.returns-in_err-large
returns-in_err-large c =
    rw c.from_residual-in_err-large.ensures (block_marked c.requires.streams_markable c.gather-k.ensures c.in_ok-c.ensures c.in_ok-small.ensures c.in_err-large.ensures)

pub returns : goal.returns
returns c = block_marked c.requires.streams_markable c.gather-k.ensures c.in_ok-c.ensures c.in_ok-small.ensures c.in_ok-large.ensures
