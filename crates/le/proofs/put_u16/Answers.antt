use Rattle.std.proofs.Common.{arith, ◌≡◌, ◌+◌, ◌∙◌}
use Rattle.format.specs.Basics.Bytes.{put_bytes, put16, le16}
use Rattle.theory.proofs.Sets.{lent_back}
use Rattle.le.proofs.put_u16.Goals as goal

pub returns : goal.returns
unfolding put16 put_bytes le16
returns c =
    let a = c.args in
    let e : c.copy_from_slice.new.self ≡ le16 a.v = c.copy_from_slice.ensures.after ∙ c.to_le_bytes.ensures in
    rw e (lent_back a.b.now (le16 a.v) a.at (a.at + 2) (omega arith) c.requires)
