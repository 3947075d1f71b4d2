-- An image is accepted exactly if it keeps each group.
use mathlib.Core.Path.{◌≡◌, refl}
use mathlib.Core.Logic.{◌≢◌}
use mathlib.Core.Bool.{Bool, true, false, cond}
use Prim.Native.Nat.{ℕ}
use native.Mathlib.Omega.{arith}
use lib.Dec.{leb}
use lib.ListN.{length}
use borrow.Author.Tests.{le-leb}
use Rattle.format.specs.Basics.Bytes.{Bytes}
use Rattle.format.specs.Layout.Geometry.{Geometry}
use Rattle.format.specs.Layout.Volume.{Volume, volume}
use Rattle.format.specs.Rules.Length.{work_need}
use Rattle.format.specs.Rules.Verdict.{check, volume_groups, groups, verdict, Accepted}
use Rattle.theory.proofs.Tests.{clash}
use Rattle.frame.specs.Groups.{VolumeGroups, ImageGroups}

pub check_zero : (b : Bool) (n later : ℕ) → n ≢ 0 → check b n later ≡ 0 → (b ≡ true) × (later ≡ 0)
unfolding check
check_zero true n later z h = (refl, h)
check_zero false n later z h = absurd (z h)

check_passed : (b : Bool) (n later : ℕ) → b ≡ true → check b n later ≡ later
unfolding check
check_passed true n later e = refl
check_passed false n later e = absurd (clash e refl)

pub volume_kept : (v : Volume) → volume_groups v ≡ 0 → VolumeGroups v
unfolding volume_groups
volume_kept v h =
    let a = check_zero _ 12 _ (omega arith) h in
    let b = check_zero _ 13 _ (omega arith) a.1 in
    let c = check_zero _ 14 _ (omega arith) b.1 in
    let d = check_zero _ 15 _ (omega arith) c.1 in
    let e = check_zero _ 16 _ (omega arith) d.1 in
    let f = check_zero _ 17 _ (omega arith) e.1 in
    let k = check_zero _ 18 _ (omega arith) f.1 in
    record { cells = a.0; directory = b.0; entries = c.0; trees = d.0; minis = e.0; chains = f.0; owners = k.0 }

pub volume_passed : (v : Volume) → VolumeGroups v → volume_groups v ≡ 0
unfolding volume_groups
volume_passed v h =
    rw (
      check_passed _ 12 _ h.cells,
      check_passed _ 13 _ h.directory,
      check_passed _ 14 _ h.entries,
      check_passed _ 15 _ h.trees,
      check_passed _ 16 _ h.minis,
      check_passed _ 17 _ h.chains,
      check_passed _ 18 _ h.owners,
    )

-- whatever the work buffer
pub verdict_kept : (g : Geometry) (img : Bytes) (work : ℕ) → verdict g img work ≡ 0 → ImageGroups g img
unfolding verdict groups
verdict_kept g img work h =
    let a = check_zero _ 1 _ (omega arith) h in
    let b = check_zero _ 2 _ (omega arith) a.1 in
    let c = check_zero _ 10 _ (omega arith) b.1 in
    let d = check_zero _ 11 _ (omega arith) c.1 in
    record { allowed = a.0; header = c.0; tables = d.0; volume = volume_kept (volume g img) d.1 }

pub accepted_kept : (g : Geometry) (img : Bytes) → Accepted g img → ImageGroups g img
accepted_kept g img h = verdict_kept g img (work_need (length img)) h

pub kept_accepted : (g : Geometry) (img : Bytes) → ImageGroups g img → Accepted g img
unfolding verdict groups
kept_accepted g img h =
    rw (
      check_passed _ 1 _ h.allowed,
      check_passed _ 2 _ (le-leb (work_need (length img)) (work_need (length img)) (omega arith)),
      check_passed _ 10 _ h.header,
      check_passed _ 11 _ h.tables,
    )
    (volume_passed (volume g img) h.volume)

-- an accepted image is refused for a short work buffer alone
pub verdict_accepted : (g : Geometry) (img : Bytes) (n : ℕ) → Accepted g img → verdict g img n ≡ cond (leb (work_need (length img)) n) 0 2
unfolding verdict groups check
verdict_accepted g img n h =
    let j = accepted_kept g img h in
    rw (j.allowed, j.header, j.tables, volume_passed (volume g img) j.volume) (go (leb (work_need (length img)) n))
  where
    go : (t : Bool) → check true 1 (check t 2 (check true 10 (check true 11 0))) ≡ cond t 0 2
    go true = refl
    go false = refl
