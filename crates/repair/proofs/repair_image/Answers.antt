use Prim.Native.Nat.{◌≤◌}
use mathlib.Core.Path.{◌≡◌, refl, sym, ap, ◌∙◌}
use mathlib.Core.Logic.{inl, inr}
use mathlib.Core.Bool.{true, ◌&&◌}
use native.Mathlib.Omega.{arith}
use lib.Dec.{leb}
use lib.ListN.{length, take}
use lib.Seq.{length-take-le}
use Rattle.format.specs.Rules.Length.{length_allowed, work_need}
use Rattle.format.specs.Rules.Version.{version_of}
use Rattle.format.specs.Calls.Buffers.{work_cleared}
use Rattle.theory.proofs.Loops.{said_yes, said_no}
use Rattle.frame.proofs.Lengths.{allowed_short}
use Rattle.kinds.specs.declared.Refusal.TheVariants.{BadLength, ShortWork}
use Rattle.header.proofs.Allowed.{own_value, own_narrow}
use Rattle.volume.proofs.Opening.{cleared_same}
use Rattle.repair.proofs.Replies.{same_reply, same_image}
use Rattle.repair.proofs.Answers.{enough, length_refused, short_refused, enough_is, early, work_clear, spare_clear, lent_long, lent_clear}
use mathlib.Core.Bool.{not}
use Rattle.repair.proofs.repair_image.Goals as goal
use Rattle.repair.proofs.repair_image.Goals.{Else-not-length_allowed}

-- the length is allowed, by the image's own version
allowed : (c : Else-not-length_allowed) → let i = c.args.image.now in length_allowed (version_of i) (length i) ≡ true
allowed c =
    ap (λ h. length_allowed h (length c.args.image.now)) (sym c.version_of-g.ensures) ∙ said_yes (ap not c.if-not-length_allowed.false) c.length_allowed.ensures

pub length_allowed-requires : goal.length_allowed-requires
length_allowed-requires c = let i = c.args.image.now in record { bytes_nonzero = omega (arith, (own_value i c.version_of-g.ensures).wide); bytes_bound = own_narrow i c.version_of-g.ensures }

pub returns-then-not-length_allowed : goal.returns-then-not-length_allowed
returns-then-not-length_allowed c =
    let p = c.args in let r = early p.image.now p.spare.now p.work.now BadLength
    (length_refused p.image.now p.spare.now p.work.now (ap (λ h. length_allowed h (length p.image.now)) (sym c.version_of-g.ensures) ∙ said_no (ap not c.if-not-length_allowed.true) c.length_allowed.ensures))
    (inl refl) in record { result_value = r.0; image_after = r.1.0; work_after = r.1.1.0; spare_after = r.1.1.1 }

pub work_need-need-requires : goal.work_need-need-requires
work_need-need-requires c = omega (arith, allowed_short _ c.args.image.now (allowed (goal.at.work_need-need-requires c).Else-not-length_allowed))

pub returns-then-not-enough : goal.returns-then-not-enough
returns-then-not-enough c =
    let tested : let p = c.args in (leb c.work_need-need.result (length p.work.now) && leb (length p.image.now) (length p.spare.now)) ≡ enough p.image.now p.spare.now p.work.now = rw c.work_need-need.ensures in
    let p = c.args in let r = early p.image.now p.spare.now p.work.now ShortWork
    (short_refused p.image.now p.spare.now p.work.now (allowed (goal.at.returns-then-not-enough c).Else-not-length_allowed) (said_no (ap not c.if-not-enough.true) tested))
    (inr refl) in record { result_value = r.0; image_after = r.1.0; work_after = r.1.1.0; spare_after = r.1.1.1 }

pub slice_bounds-repair_by-end : goal.slice_bounds-repair_by-end
slice_bounds-repair_by-end c =
    let tested : let p = c.args in (leb c.work_need-need.result (length p.work.now) && leb (length p.image.now) (length p.spare.now)) ≡ enough p.image.now p.spare.now p.work.now = rw c.work_need-need.ensures in
    let room : let p = c.args in enough p.image.now p.spare.now p.work.now ≡ true = said_yes (ap not c.if-not-enough.false) tested in
    let fits : let p = c.args in (work_need (length p.image.now) ≤ length p.work.now) × (length p.image.now ≤ length p.spare.now) = let p = c.args in enough_is p.image.now p.spare.now p.work.now room in
    fits.1

pub slice_bounds-repair_by-end-2 : goal.slice_bounds-repair_by-end-2
slice_bounds-repair_by-end-2 c =
    let tested : let p = c.args in (leb c.work_need-need.result (length p.work.now) && leb (length p.image.now) (length p.spare.now)) ≡ enough p.image.now p.spare.now p.work.now = rw c.work_need-need.ensures in
    let room : let p = c.args in enough p.image.now p.spare.now p.work.now ≡ true = said_yes (ap not c.if-not-enough.false) tested in
    let fits : let p = c.args in (work_need (length p.image.now) ≤ length p.work.now) × (length p.image.now ≤ length p.spare.now) = let p = c.args in enough_is p.image.now p.spare.now p.work.now room in
    sym (length-take-le _ _ fits.1)

pub repair_by-r-requires : goal.repair_by-r-requires
repair_by-r-requires c =
    let tested : let p = c.args in (leb c.work_need-need.result (length p.work.now) && leb (length p.image.now) (length p.spare.now)) ≡ enough p.image.now p.spare.now p.work.now = rw c.work_need-need.ensures in
    let room' : let p = c.args in enough p.image.now p.spare.now p.work.now ≡ true = said_yes (ap not c.if-not-enough.false) tested in
    let fits : let p = c.args in (work_need (length p.image.now) ≤ length p.work.now) × (length p.image.now ≤ length p.spare.now) = let p = c.args in enough_is p.image.now p.spare.now p.work.now room' in
    record {
      own = c.version_of-g.ensures;
      allowed = said_yes (ap not c.if-not-length_allowed.false) c.length_allowed.ensures;
      room = fits.0;
      long = length-take-le _ _ fits.1;
    }

pub clear-requires : goal.clear-requires
clear-requires c =
    let tested : let p = c.args in (leb c.work_need-need.result (length p.work.now) && leb (length p.image.now) (length p.spare.now)) ≡ enough p.image.now p.spare.now p.work.now = rw c.work_need-need.ensures in
    let room : let p = c.args in enough p.image.now p.spare.now p.work.now ≡ true = said_yes (ap not c.if-not-enough.false) tested in
    let fits : let p = c.args in (work_need (length p.image.now) ≤ length p.work.now) × (length p.image.now ≤ length p.spare.now) = let p = c.args in enough_is p.image.now p.spare.now p.work.now room in
    let p = c.args in
    let e = fits in
    omega (arith, lent_long (length p.image.now) p.spare.now c.repair_by-r.new.after e.1 c.repair_by-r.auto.after, e.1)

pub zero_first-requires : goal.zero_first-requires
zero_first-requires c =
    let tested : let p = c.args in (leb c.work_need-need.result (length p.work.now) && leb (length p.image.now) (length p.spare.now)) ≡ enough p.image.now p.spare.now p.work.now = rw c.work_need-need.ensures in
    let room : let p = c.args in enough p.image.now p.spare.now p.work.now ≡ true = said_yes (ap not c.if-not-enough.false) tested in
    let fits : let p = c.args in (work_need (length p.image.now) ≤ length p.work.now) × (length p.image.now ≤ length p.spare.now) = let p = c.args in enough_is p.image.now p.spare.now p.work.now room in
    omega (arith, c.work_need-need.ensures, fits.0, c.repair_by-r.auto.work)

pub returns : goal.returns
returns c =
    let tested : let p = c.args in (leb c.work_need-need.result (length p.work.now) && leb (length p.image.now) (length p.spare.now)) ≡ enough p.image.now p.spare.now p.work.now = rw c.work_need-need.ensures in
    let room : let p = c.args in enough p.image.now p.spare.now p.work.now ≡ true = said_yes (ap not c.if-not-enough.false) tested in
    let fits : let p = c.args in (work_need (length p.image.now) ≤ length p.work.now) × (length p.image.now ≤ length p.spare.now) = let p = c.args in enough_is p.image.now p.spare.now p.work.now room in
    let p = c.args in
    let ok = allowed (goal.at.returns c).Else-not-length_allowed in
    let n = length p.image.now in
    let s = take n p.spare.now in
    let l : n ≤ length s = omega (arith, length-take-le n p.spare.now fits.1) in record { result_value = same_reply p.image.now s p.spare.now p.work.now p.work.now l fits.1 refl c.repair_by-r.ensures.reply; image_after = same_image p.image.now s p.spare.now p.work.now p.work.now l fits.1 refl c.repair_by-r.ensures.image; work_after = work_clear p.image.now p.spare.now p.work.now ok room _ (c.zero_first.ensures ∙ ap (λ k. work_cleared k c.repair_by-r.new.work) c.work_need-need.ensures ∙ cleared_same (work_need n) c.repair_by-r.ensures.wrote); spare_after = spare_clear p.image.now p.spare.now p.work.now ok room _ (lent_clear n p.spare.now c.repair_by-r.new.after fits.1 c.repair_by-r.auto.after _ c.clear.ensures) }
