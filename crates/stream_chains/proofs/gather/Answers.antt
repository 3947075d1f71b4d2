use Prim.Native.Nat.{ℕ, ◌+◌, ◌≤◌, ◌<◌}
use mathlib.Core.Path.{◌≡◌, refl, ◌∙◌}
use mathlib.Core.Bool.{Bool, true, false}
use native.Mathlib.Omega.{arith}
use lib.ListN.{length, length-set}
use Rattle.std.specs.Int.{from_bool}
use Rattle.format.specs.Basics.Lists.{bit}
use Rattle.tables.specs.Views.{volume_of}
use Rattle.directory.specs.Listed.{entries_of}
use Rattle.directory.proofs.Places.{count_is, count_few, place_inside}
use Rattle.stream_chains.proofs.Gathering.{stream_there, start_there, size_there, gathered_none, gathered_next}
use Rattle.stream_chains.proofs.gather.Goals as goal
use Rattle.stream_chains.proofs.gather.Goals.{After-place-p}

-- the entry of a turn
inside : (c : After-place-p) → let a = c.args in c.in-Some.y.0 < (entries_of a.d a.img.now).count
inside c = let s = c.in-Some.ensures.steps in omega (arith, s.0, s.1.0, c.loop-y.invariant.2.0, c.requires.x_le_end, count_is c.requires.directory_listed)

whole : (c : After-place-p) → c.place-p.result + 128 ≤ length c.args.img.now
whole c = omega (arith, c.place-p.ensures, place_inside c.requires.directory_listed _ (inside c))

-- there is room for it
few : (c : After-place-p) {n : ℕ} → n ≡ 32 → c.loop-y.k < n
few c e = let l = c.loop-y.invariant.2 in let s = c.in-Some.ensures.steps in omega (arith, s.0, l.0, l.5.few, c.requires.x_le_end)

as_bit : (b : Bool) → from_bool b ≡ bit b
as_bit true = refl
as_bit false = refl

pub until-y-items-requires : goal.until-y-items-requires
until-y-items-requires c = omega (arith, c.requires.x_le_end, count_is c.requires.directory_listed, count_few c.requires.directory_listed)

pub loop-y-init : goal.loop-y-init
loop-y-init c =
    rw (c.into_iter-y-iterator.ensures.into_iter_gives, c.until-y-items.ensures.0, c.until-y-items.ensures.1)
    (tt, tt, (refl, omega arith, c.requires.x_le_end.0, omega arith, omega arith, gathered_none (volume_of c.args.d.geometry c.args.img.now) c.args.x.0))

pub start_sector-requires : goal.start_sector-requires
start_sector-requires c = whole (goal.at.start_sector-requires c).After-place-p

pub size-requires : goal.size-requires
size-requires c = whole (goal.at.size-requires c).After-place-p

pub entry_type-requires : goal.entry_type-requires
entry_type-requires c = whole (goal.at.entry_type-requires c).After-place-p

pub loop-y-preserved : goal.loop-y-preserved
loop-y-preserved c =
    let a = c.args in
    let r = c.requires.directory_listed in
    let l = c.loop-y.invariant.2 in
    let s = c.in-Some.ensures.steps in
    let n = inside (goal.at.loop-y-preserved c).After-place-p in
    let q = c.place-p.ensures in
    rw (c.from-k.ensures, as_bit c.is_stream.result, s.1.1.0, s.1.1.1, ← s.1.0) (
      tt,
      tt,
      (
        l.0,
        omega (arith, l.1),
        omega (arith, s.0, l.0),
        length-set c.loop-y.starts c.loop-y.k c.start_sector.result.0 ∙ l.3,
        length-set c.loop-y.sizes c.loop-y.k c.size.result ∙ l.4,
        gathered_next (volume_of a.d.geometry a.img.now) a.x.0 (omega (arith, l.1, s.1.0)) (rw (← s.1.0) at l.5) (few (goal.at.loop-y-preserved c).After-place-p l.3) (few (goal.at.loop-y-preserved c).After-place-p l.4) _ _ _
            (stream_there r _ _ n q c.is_stream.ensures c.entry_type.ensures) (start_there r _ _ n q c.start_sector.ensures) (size_there r _ _ n q c.size.ensures),
      ),
    )
