use native.Mathlib.Omega.{arith}
use Rattle.format.specs.Calls.Program.{refused_line}
use Rattle.cfbls.proofs.Refused.{refused_most}
use Rattle.cfbls.proofs.put_refused.Goals as goal

pub put_number_line-requires : goal.put_number_line-requires
unfolding refused_line
put_number_line-requires c = omega (arith, refused_most c.from.result, c.requires)

pub returns : goal.returns
unfolding refused_line
returns c =
    let s = c.put_number_line.ensures in
    rw (← c.from.ensures) (record { count = s.count; written = s.written })
