use mathlib.Core.Path.{◌≡◌, sym, ap, ◌∙◌}
use Prim.Native.Nat.{◌+◌, ◌≤◌, ◌<◌}
use lib.ListN.{length}
use native.Mathlib.Omega.{arith}
use Rattle.directory.specs.Listed.{entries_of, place_of}
use Rattle.directory.proofs.Places.{count_is, count_few, countable, placed, place_inside}
use Rattle.repair.proofs.Counting.{count_start, count_few as counted-few, count_yes, count_no, count_end}
use Rattle.repair.proofs.Differing.{colour_yes, colour_no}
use Rattle.repair.proofs.differences.colours_differ.Goals as goal
use Rattle.repair.proofs.differences.colours_differ.Goals.{In-Some, After-place-p}

-- the entry of a turn
turn : (c : In-Some) → (c.in-Some.x.0 ≡ c.loop-x.x-iterator.next) × (c.loop-x.x-iterator.next < (entries_of c.args.d c.args.after.now).count)
turn c = let s = c.in-Some.ensures.steps in (s.1.0, omega (arith, s.0, c.loop-x.invariant.2.0))

-- it lies in the image
inside : (c : After-place-p) → c.in-Some.x.0 < (entries_of c.args.d c.args.after.now).count → c.place-p.result + 128 ≤ length c.args.after.now
inside c h = omega (arith, c.place-p.ensures, place_inside c.requires.directory_listed c.in-Some.x.0 h)

pub count-n-requires : goal.count-n-requires
count-n-requires c = countable c.requires.directory_listed

pub until-x-items-requires : goal.until-x-items-requires
until-x-items-requires c = omega (arith, c.count-n.ensures, count_few c.requires.directory_listed)

pub loop-x-init : goal.loop-x-init
loop-x-init c =
    let u = c.until-x-items.ensures in
    rw c.into_iter-x-iterator.ensures.into_iter_gives (tt, tt, (u.1 ∙ c.count-n.ensures ∙ sym (count_is c.requires.directory_listed), rw u.0 (count_start _ _)))

pub place-p-requires : goal.place-p-requires
place-p-requires c = let t = turn (goal.at.place-p-requires c).In-Some in placed c.requires.directory_listed c.in-Some.x.0 (omega arith)

pub colour-requires : goal.colour-requires
colour-requires c = let t = turn (goal.at.colour-requires c).In-Some in omega (arith, inside (goal.at.colour-requires c).After-place-p (omega arith), c.requires.img_len)

pub colour-requires-in-loop-x : goal.colour-requires-in-loop-x
colour-requires-in-loop-x c = let t = turn (goal.at.colour-requires-in-loop-x c).In-Some in inside (goal.at.colour-requires-in-loop-x c).After-place-p (omega arith)

pub overflow_add-count : goal.overflow_add-count
overflow_add-count c = let t = turn (goal.at.overflow_add-count c).In-Some in omega (arith, counted-few c.loop-x.invariant.2.1, count_is c.requires.directory_listed, count_few c.requires.directory_listed)

pub loop-x-preserved-then-colour : goal.loop-x-preserved-then-colour
loop-x-preserved-then-colour c =
    let l = c.requires.directory_listed in
    let s = c.in-Some.ensures.steps in
    let t = turn (goal.at.loop-x-preserved-then-colour c).In-Some in
    let a = c.loop-x.invariant.2 in
    let p = c.place-p.ensures ∙ ap (place_of c.args.d c.args.work.now) t.0 in
    (tt, tt, (s.1.1.1 ∙ a.0, rw s.1.1.0 (count_yes a.1 t.1 (colour_yes l _ _ t.1 p c.colour.ensures c.colour-in-loop-x.ensures c.if-colour.true))))

pub loop-x-preserved : goal.loop-x-preserved
loop-x-preserved c =
    let l = c.requires.directory_listed in
    let s = c.in-Some.ensures.steps in
    let t = turn (goal.at.loop-x-preserved c).In-Some in
    let a = c.loop-x.invariant.2 in
    let p = c.place-p.ensures ∙ ap (place_of c.args.d c.args.work.now) t.0 in
    (tt, tt, (s.1.1.1 ∙ a.0, rw s.1.1.0 (count_no a.1 t.1 (colour_no l _ _ t.1 p c.colour.ensures c.colour-in-loop-x.ensures c.if-colour.false))))

pub returns : goal.returns
returns c = let s = c.in-None.ensures.steps in count_end c.loop-x.invariant.2.1 (omega (arith, c.loop-x.invariant.2.0))
