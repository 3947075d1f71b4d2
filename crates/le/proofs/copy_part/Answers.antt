use Rattle.std.proofs.Common.{arith, ◌≡◌, ◌+◌, ◌-◌}
use Rattle.format.specs.Basics.Bytes.{part, put_bytes}
use Rattle.theory.proofs.ByteTests.{length_part}
use Rattle.theory.proofs.Sets.{lent_back}
use Rattle.le.proofs.copy_part.Goals as goal

pub returns : goal.returns
unfolding part put_bytes
returns c =
    let a = c.args in
    let y : a.p + a.n - a.p ≡ a.n = omega arith in
    let l = length_part a.from.now a.p a.n c.requires.n_in_bounds_2 in
    rw (c.copy.ensures, y) (lent_back a.to.now (part a.from.now a.p a.n) a.at (a.at + a.n) (omega arith) c.requires.n_in_bounds)
