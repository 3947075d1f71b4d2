use borrow.Author.Rules.{rules}
use Prim.Native.Nat.{ℕ, ◌≤◌}
use mathlib.Core.Path.{◌≡◌, refl, sym, ◌∙◌, ap, subst}
use mathlib.Core.Logic.{inl, inr}
use mathlib.Core.Bool.{true}
use mathlib.Core.List.{List}
use native.Mathlib.Omega.{arith}
use lib.ListN.{length}
use Rattle.format.specs.Layout.Geometry.{Geometry}
use Rattle.format.specs.Rules.Length.{length_allowed, work_need}
use Rattle.format.specs.Rules.Version.{version_of}
use Rattle.format.specs.Rules.Verdict.{groups, verdict}
use Rattle.format.specs.Calls.Buffers.{work_cleared}
use Rattle.kinds.specs.Sizes.{geometry_of}
use Rattle.kinds.specs.declared.Refusal.TheVariants.{BadLength, ShortWork}
use Rattle.theory.proofs.Loops.{said_yes, said_no}
use Rattle.frame.proofs.Lengths.{allowed_short}
use Rattle.header.proofs.Allowed.{allowed_sized, own_value, own_narrow}
use Rattle.std.proofs.Common.{Result, Err}
use Rattle.kinds.specs.declared.Refusal.{Refusal}
use Rattle.volume.specs.declared.Volume.{Volume}
use Rattle.volume.specs.Opened.{OpenedRight}
use Rattle.volume.proofs.Verdicts.{length_breaks, work_short, groups_decide}
use Rattle.volume.proofs.Opening.{refused_early, refused_late, opened}
use mathlib.Core.Bool.{not}
use Rattle.volume.proofs.open_volume.Goals as goal
use Rattle.volume.proofs.open_volume.Goals.{After-version_of-g, Else-not-length_allowed, Else-work-need}

allowed : (c : Else-not-length_allowed) → length_allowed ((geometry_of c.version_of-g.result)) (length c.args.img.now) ≡ true
allowed c = said_yes (ap not c.if-not-length_allowed.false) c.length_allowed.ensures

-- what is said by its sizes is said of its version
own : (c : After-version_of-g) → (w : List ℕ) → (w' : List ℕ) → (r : Result Volume Refusal) → let i = c.args.img.now in
    OpenedRight ((geometry_of c.version_of-g.result)) i w w' r → OpenedRight (version_of i) i w w' r
own c w w' r h = subst (λ (x : Geometry). OpenedRight x c.args.img.now w w' r) c.version_of-g.ensures h

narrow : (c : After-version_of-g) → c.version_of-g.result.bytes ≤ 4096
narrow c = own_narrow c.args.img.now c.version_of-g.ensures

wide : (c : After-version_of-g) → 512 ≤ c.version_of-g.result.bytes
wide c = (own_value c.args.img.now c.version_of-g.ensures).wide

enough : (c : Else-work-need) → let p = c.args in work_need (length p.img.now) ≤ length p.work.now
unfolding work_need
enough c = omega (arith, c.if-work-need.false, c.work_need-need.ensures)

decided : (c : Else-not-length_allowed) → let p = c.args in work_need (length p.img.now) ≤ length p.work.now → verdict ((geometry_of c.version_of-g.result)) p.img.now (length p.work.now) ≡ groups ((geometry_of c.version_of-g.result)) p.img.now
decided c h = groups_decide _ _ _ (allowed c) h

pub version_of-g-requires : goal.version_of-g-requires
unfolding work_need
version_of-g-requires c = search rules

pub length_allowed-requires : goal.length_allowed-requires
unfolding work_need
length_allowed-requires c = record { bytes_nonzero = omega (arith, wide (goal.at.length_allowed-requires c).After-version_of-g); bytes_bound = narrow (goal.at.length_allowed-requires c).After-version_of-g }

pub returns-then-not-length_allowed : goal.returns-then-not-length_allowed
unfolding work_need
returns-then-not-length_allowed c = own (goal.at.returns-then-not-length_allowed c).After-version_of-g (c.args.work.now) (c.args.work.now) (Err BadLength) (refused_early ((geometry_of c.version_of-g.result)) _ _ BadLength (length_breaks _ _ _ (said_no (ap not c.if-not-length_allowed.true) c.length_allowed.ensures)) (inl refl))

pub work_need-need-requires : goal.work_need-need-requires
unfolding work_need
work_need-need-requires c = omega (arith, allowed_short ((geometry_of c.version_of-g.result)) c.args.img.now (allowed (goal.at.work_need-need-requires c).Else-not-length_allowed))

pub returns-then-work-need : goal.returns-then-work-need
unfolding work_need
returns-then-work-need c = own (goal.at.returns-then-work-need c).After-version_of-g (c.args.work.now) (c.args.work.now) (Err ShortWork) (refused_early ((geometry_of c.version_of-g.result)) _ _ ShortWork (work_short _ _ _ (allowed (goal.at.returns-then-work-need c).Else-not-length_allowed) (omega (arith, c.if-work-need.true, c.work_need-need.ensures))) (inr refl))

pub table_groups-opened-requires : goal.table_groups-opened-requires
unfolding work_need
table_groups-opened-requires c =
    let enough : let p = c.args in work_need (length p.img.now) ≤ length p.work.now = omega (arith, c.if-work-need.false, c.work_need-need.ensures) in
    let i = c.args.img.now in record { image_sized = allowed_sized ((geometry_of c.version_of-g.result)) i (own_value i c.version_of-g.ensures) (narrow (goal.at.table_groups-opened-requires c).After-version_of-g) (allowed (goal.at.table_groups-opened-requires c).Else-not-length_allowed); img_in_bounds = enough }

pub zero_first-requires : goal.zero_first-requires
unfolding work_need
zero_first-requires c = omega (arith, c.if-work-need.false, c.table_groups-opened.auto.work)

pub returns-then-is_err : goal.returns-then-is_err
unfolding work_need
returns-then-is_err c =
    let s = goal.at.returns-then-is_err c in
    own s.After-version_of-g (c.args.work.now) c.zero_first.new.work c.table_groups-opened.result (refused_late _ (decided s.Else-not-length_allowed (enough s.Else-work-need)) _ c.table_groups-opened.ensures (sym c.is_err.ensures.value ∙ c.if-is_err.true) (c.zero_first.ensures ∙ ap (λ n. work_cleared n c.table_groups-opened.new.work) c.work_need-need.ensures))

pub returns-else-is_err : goal.returns-else-is_err
unfolding work_need
returns-else-is_err c =
    let s = goal.at.returns-else-is_err c in
    own s.After-version_of-g (c.args.work.now) c.table_groups-opened.new.work c.table_groups-opened.result (opened _ (decided s.Else-not-length_allowed (enough s.Else-work-need)) _ c.table_groups-opened.ensures (sym c.is_err.ensures.value ∙ c.if-is_err.false) refl (enough s.Else-work-need))
