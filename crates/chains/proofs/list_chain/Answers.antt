use native.Mathlib.Omega.{arith}
use Rattle.chains.proofs.Listing.{listing_below, listing_step}
use Rattle.chains.proofs.list_chain.Goals as goal

pub cell_at-s-requires-clause-s_bound : goal.cell_at-s-requires-clause-s_bound
cell_at-s-requires-clause-s_bound c = let l = c.loop-i.invariant in omega (arith, listing_below l (omega arith), l.listed.covers)

pub loop-i-preserved : goal.loop-i-preserved
loop-i-preserved c = rw c.cell_at-s.ensures (listing_step c.loop-i.invariant c.loop-i-test.true)
