use Prim.Native.Nat.{◌-◌}
use native.Mathlib.Omega.{arith}
use Rattle.formatting.specs.Numbers.{header_number}
use Rattle.fresh_sectors.proofs.Laying.{numbers_start, numbers_step, numbers_end}
use Rattle.fresh_sectors.specs.Parts.{sizes, plan}
use Rattle.formatting.proofs.put_numbers.Goals as goal

pub loop-i-init : goal.loop-i-init
loop-i-init c = numbers_start _ _ _

pub put_u32-requires : goal.put_u32-requires
put_u32-requires c = omega (arith, c.loop-i.invariant.long, c.requires.part_len)

pub loop-i-preserved : goal.loop-i-preserved
loop-i-preserved c = numbers_step 118 (header_number (sizes c.args.l) (plan c.args.l)) c.args.part.now c.loop-i.i c.loop-i.part _ _ (omega (arith, c.requires.part_len)) c.loop-i.invariant (omega arith) c.header_number.ensures c.put_u32.ensures

pub returns : goal.returns
returns c = numbers_end 118 (header_number (sizes c.args.l) (plan c.args.l)) c.args.part.now _ _ (omega (arith, c.requires.part_len)) c.loop-i.invariant (omega arith)
