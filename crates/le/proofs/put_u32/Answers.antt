use Rattle.std.proofs.Common.{arith, ◌≡◌, ◌+◌, ◌∙◌}
use native.Mathlib.Nat.{div-div-eq-div-mul}
use Rattle.format.specs.Basics.Bytes.{put_bytes, put32, le16, le32}
use Rattle.theory.proofs.Sets.{lent_back}
use Rattle.le.proofs.put_u32.Goals as goal

pub returns : goal.returns
unfolding put32 put_bytes le32 le16
returns c =
    let a = c.args in
    let e : c.copy_from_slice.new.self ≡ le32 a.v = c.copy_from_slice.ensures.after ∙ c.to_le_bytes.ensures ∙ simp div-div-eq-div-mul in
    rw e (lent_back a.b.now (le32 a.v) a.at (a.at + 4) (omega arith) c.requires)
