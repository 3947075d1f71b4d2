use native.Mathlib.Omega.{arith}
use Prim.Native.Nat.{◌+◌, ◌-◌, ◌*◌, ◌<◌}
use mathlib.Core.Path.{◌≡◌}
use lib.ListN.{length}
use Rattle.tables.proofs.WorkLaws.{wrote_two}
use Rattle.entries.specs.Entry.{entry_at}
use Rattle.directory.specs.Listed.{count_of, entries_of, place_of}
use Rattle.directory.proofs.Places.{placed, root_inside}
use Rattle.lines.specs.Lines.{width_of, line_length}
use Rattle.listing.specs.Walks.{entry_on, parent_on, Turning}
use Rattle.listing.proofs.Walks.{ListingLent, start_sound, start_room, start_walks, walks_here, walks_turning, walks_inside, walks_named, walks_count, walks_less}
use Rattle.listing.proofs.Measures.{measuring_start, measuring_long, measuring_more, measuring_end}
use Rattle.listing.proofs.measure.Goals as goal
use Rattle.listing.proofs.measure.Goals.{In-loop-n, After-line_length-k}

-- ---- a turn
turning : (c : In-loop-n) → let p = c.args in let w = c.loop-n.work in let k = c.loop-n.n - 1 in
    Turning (entries_of p.d p.img.now) (count_of p.d) k (entry_on w k) (parent_on w k)
turning c = walks_turning c.loop-n.invariant.walks c.loop-n-test.true

-- the pair lies in the work buffer
inside : (c : In-loop-n) → 2 * (c.loop-n.n - 1) + 1 < length c.loop-n.work
inside c = walks_inside c.loop-n.invariant.walks c.loop-n-test.true

line_is : (c : After-line_length-k) → let s = c.args in
    c.line_length-k.result ≡ line_length (width_of s.d.geometry) (entry_at s.img.now c.place.result) (parent_on c.loop-n.work (c.loop-n.n - 1))
line_is c = rw (← c.pair_at-q.ensures.1) c.line_length-k.ensures

pub child_of-top-requires : goal.child_of-top-requires
child_of-top-requires c = record { directory_listed = c.requires.directory_listed; x_bound = root_inside c.requires.directory_listed }

pub push-n-requires : goal.push-n-requires
push-n-requires c =
    let lent : ListingLent c.args.d c.args.img.now c.args.work.now = record { listed = c.requires.directory_listed; rules = c.requires.img_value; trees = c.requires.img_value_2; apart = c.requires.d_bound; few = c.requires.d_bound_2 } in
    let l = lent in
    let y = c.child_of-top.ensures in record { directory_listed = l.listed; d_bound = l.apart; x_value = start_sound l y; x_bound = start_room l y }

pub loop-n-init : goal.loop-n-init
loop-n-init c =
    let lent : ListingLent c.args.d c.args.img.now c.args.work.now = record { listed = c.requires.directory_listed; rules = c.requires.img_value; trees = c.requires.img_value_2; apart = c.requires.d_bound; few = c.requires.d_bound_2 } in
    measuring_start (walks_here (start_walks lent c.child_of-top.ensures _ c.push-n.ensures.stack c.push-n.ensures.wrote))

pub pair_at-q-requires : goal.pair_at-q-requires
pair_at-q-requires c = inside (goal.at.pair_at-q-requires c).In-loop-n

pub place-requires : goal.place-requires
place-requires c = rw c.pair_at-q.ensures.0 (placed c.loop-n.invariant.walks.lent.listed _ (turning (goal.at.place-requires c).In-loop-n).stands.inside)

pub line_length-k-requires : goal.line_length-k-requires
line_length-k-requires c =
    let place_is : c.place.result ≡ place_of c.args.d c.loop-n.work (entry_on c.loop-n.work (c.loop-n.n - 1)) = rw (← c.pair_at-q.ensures.0) c.place.ensures in
    record { named_at = walks_named c.loop-n.invariant.walks c.loop-n-test.true _ place_is; parent_bound = omega (arith, c.pair_at-q.ensures.1, (turning (goal.at.line_length-k-requires c).In-loop-n).fits) }

pub returns-then-most-bytes : goal.returns-then-most-bytes
returns-then-most-bytes c =
    let place_is : c.place.result ≡ place_of c.args.d c.loop-n.work (entry_on c.loop-n.work (c.loop-n.n - 1)) = rw (← c.pair_at-q.ensures.0) c.place.ensures in
    let m = c.loop-n.invariant in record { answer = measuring_long m c.loop-n-test.true _ place_is (line_is (goal.at.returns-then-most-bytes c).After-line_length-k) c.if-most-bytes.true; wrote = wrote_two c.push-n.ensures.wrote m.walks.wrote }

pub overflow_add-objects : goal.overflow_add-objects
overflow_add-objects c =
    let s = c.loop-n.invariant.walks in
    omega (arith, walks_count s c.loop-n-test.true, s.lent.few)

pub turn-n-requires : goal.turn-n-requires
turn-n-requires c = let l = c.loop-n.invariant.walks.lent in record { directory_listed = l.listed; d_bound = l.apart; img_value = l.rules; turning = turning (goal.at.turn-n-requires c).In-loop-n }

pub loop-n-smaller : goal.loop-n-smaller
loop-n-smaller c = walks_less c.loop-n.invariant.walks c.loop-n-test.true _ c.turn-n.ensures.stack c.turn-n.ensures.wrote

pub loop-n-preserved : goal.loop-n-preserved
loop-n-preserved c =
    let place_is : c.place.result ≡ place_of c.args.d c.loop-n.work (entry_on c.loop-n.work (c.loop-n.n - 1)) = rw (← c.pair_at-q.ensures.0) c.place.ensures in
    measuring_more c.loop-n.invariant c.loop-n-test.true _ place_is (line_is (goal.at.loop-n-preserved c).After-line_length-k) c.if-most-bytes.false _ c.turn-n.ensures.stack c.turn-n.ensures.wrote

pub returns : goal.returns
returns c = let m = c.loop-n.invariant in record { answer = measuring_end m c.loop-n-test.false _ c.with_first.ensures; wrote = wrote_two c.push-n.ensures.wrote m.walks.wrote }
