use Rattle.cfb_c.proofs.Packing.{packed}
use Rattle.cfb_c.proofs.opened_calls.pack.Goals as goal

pub returns : goal.returns
returns c = packed c.args.v c.requires
