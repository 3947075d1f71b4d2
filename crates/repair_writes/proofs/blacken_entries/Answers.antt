use mathlib.Core.Path.{sym, ap, ◌∙◌}
use Prim.Native.Nat.{◌+◌, ◌≤◌, ◌<◌}
use lib.ListN.{length}
use native.Mathlib.Omega.{arith}
use Rattle.directory.specs.Listed.{count_of, place_of}
use Rattle.directory.proofs.Places.{count_is, count_few, countable, placed, place_inside}
use Rattle.repair_writes.proofs.Blackening.{black_start, black_put, black_left, black_end}
use Rattle.repair_writes.proofs.blacken_entries.Goals as goal
use Rattle.repair_writes.proofs.blacken_entries.Goals.{In-Some, After-place-p}

-- the entry of a turn
inside : (c : In-Some) → c.in-Some.x.0 < count_of c.args.d
inside c = let s = c.in-Some.ensures.steps in omega (arith, c.loop-x.invariant.2.0)

-- it lies in the image
fits : (c : After-place-p) → c.in-Some.x.0 < count_of c.args.d → c.place-p.result + 128 ≤ length c.loop-x.img
fits c h = omega (arith, c.place-p.ensures, place_inside c.requires.directory_listed c.in-Some.x.0 (omega (arith, count_is c.requires.directory_listed)), c.loop-x.auto.img)

pub count-n-requires : goal.count-n-requires
count-n-requires c = countable c.requires.directory_listed

pub until-x-items-requires : goal.until-x-items-requires
until-x-items-requires c = omega (arith, c.count-n.ensures, count_few c.requires.directory_listed)

pub loop-x-init : goal.loop-x-init
loop-x-init c =
    let u = c.until-x-items.ensures in
    rw c.into_iter-x-iterator.ensures.into_iter_gives (tt, tt, (u.1 ∙ c.count-n.ensures, rw u.0 (black_start c.requires.directory_listed)))

pub place-p-requires : goal.place-p-requires
place-p-requires c = placed c.requires.directory_listed _ (omega (arith, inside (goal.at.place-p-requires c).In-Some, count_is c.requires.directory_listed))

pub has_colour-requires : goal.has_colour-requires
has_colour-requires c = fits (goal.at.has_colour-requires c).After-place-p (inside (goal.at.has_colour-requires c).In-Some)

pub put_black-requires : goal.put_black-requires
put_black-requires c = fits (goal.at.put_black-requires c).After-place-p (inside (goal.at.put_black-requires c).In-Some)

pub loop-x-preserved : goal.loop-x-preserved
loop-x-preserved c =
    let s = c.in-Some.ensures.steps in
    let a = c.loop-x.invariant.2 in
    let e = c.place-p.ensures ∙ ap (place_of c.args.d c.args.work.now) s.1.0 in
    let k = sym c.has_colour.ensures ∙ c.if-has_colour.false in
    (tt, tt, (s.1.1.1 ∙ a.0, rw s.1.1.0 (black_left c.requires.directory_listed a.1 (omega arith) (rw e at k))))

pub loop-x-preserved-then-has_colour : goal.loop-x-preserved-then-has_colour
loop-x-preserved-then-has_colour c =
    let s = c.in-Some.ensures.steps in
    let a = c.loop-x.invariant.2 in
    let e = c.place-p.ensures ∙ ap (place_of c.args.d c.args.work.now) s.1.0 in
    let k = sym c.has_colour.ensures ∙ c.if-has_colour.true in
    (tt, tt, (s.1.1.1 ∙ a.0, rw s.1.1.0 (black_put c.requires.directory_listed a.1 (omega arith) c.requires.img_value (rw e at k) _ (rw e at c.put_black.ensures))))

pub returns : goal.returns
returns c = let s = c.in-None.ensures.steps in black_end c.requires.directory_listed c.loop-x.invariant.2.1 (omega (arith, c.loop-x.invariant.2.0))
