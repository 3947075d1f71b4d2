use Rattle.std.proofs.Common.{arith, ◌≡◌, ◌+◌, ◌∙◌}
use native.Mathlib.Nat.{div-div-eq-div-mul}
use Rattle.format.specs.Basics.Bytes.{put_bytes, put64, le16, le32, le64}
use Rattle.theory.proofs.Sets.{lent_back}
use Rattle.le.proofs.put_u64.Goals as goal

pub returns : goal.returns
unfolding put64 put_bytes le64 le32 le16
returns c =
    let a = c.args in
    let e : c.copy_from_slice.new.self ≡ le64 a.v = c.copy_from_slice.ensures.after ∙ c.to_le_bytes.ensures ∙ simp div-div-eq-div-mul in
    rw e (lent_back a.b.now (le64 a.v) a.at (a.at + 8) (omega arith) c.requires)
