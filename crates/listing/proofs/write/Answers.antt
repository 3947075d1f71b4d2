use native.Mathlib.Omega.{arith}
use Prim.Native.Nat.{◌+◌, ◌-◌, ◌*◌, ◌≤◌, ◌<◌}
use mathlib.Core.Path.{◌≡◌, ◌∙◌, ap}
use lib.ListN.{length}
use Rattle.format.specs.Calls.Listing.{listing}
use Rattle.text.proofs.Over.{over_length}
use Rattle.tables.proofs.WorkLaws.{wrote_two}
use Rattle.entries.specs.Entry.{entry_at}
use Rattle.directory.specs.Listed.{count_of, entries_of, place_of}
use Rattle.directory.proofs.Places.{placed, root_inside}
use Rattle.lines.specs.Lines.{width_of, line_length}
use Rattle.listing.specs.Walks.{entry_on, parent_on, Turning}
use Rattle.text.proofs.Filled.{filled_length}
use Rattle.listing.proofs.Walks.{ListingLent, start_sound, start_room, start_walks, walks_here, walks_turning, walks_inside, walks_named, walks_less}
use Rattle.listing.proofs.Writes.{first_room, room_kept, writing_start, line_behind, line_fits, writing_more, writing_end}
use Rattle.listing.proofs.write.Goals as goal
use Rattle.listing.proofs.write.Goals.{In-loop-n, After-line_length-at}

-- the buffer with the first line has room for the listing
room : (c : In-loop-n) → let p = c.args in length (listing (entries_of p.d p.img.now)) ≤ length c.put_first-at.new.out
room c = let p = c.args in room_kept (entries_of p.d p.img.now) p.out.now c.requires.objects_value c.requires.img_in_bounds c.put_first-at.ensures.written

first_long : (c : In-loop-n) → length c.put_first-at.new.out ≡ length c.args.out.now
first_long c =
    let p = c.args in
    ap length c.put_first-at.ensures.written ∙ over_length _ _ (first_room (entries_of p.d p.img.now) p.out.now c.requires.objects_value c.requires.img_in_bounds)

-- ---- a turn
turning : (c : In-loop-n) → let p = c.args in let w = c.loop-n.work in let k = c.loop-n.n - 1 in
    Turning (entries_of p.d p.img.now) (count_of p.d) k (entry_on w k) (parent_on w k)
turning c = walks_turning c.loop-n.invariant.walks c.loop-n-test.true

-- the pair lies in the work buffer
inside : (c : In-loop-n) → 2 * (c.loop-n.n - 1) + 1 < length c.loop-n.work
inside c = walks_inside c.loop-n.invariant.walks c.loop-n-test.true

line_is : (c : After-line_length-at) → c.line_length-at.result ≡ line_length (width_of c.args.d.geometry) (entry_at c.args.img.now c.place-p.result) (parent_on c.loop-n.work (c.loop-n.n - 1))
line_is c = rw (← c.pair_at-q.ensures.1) c.line_length-at.ensures

pub put_first-at-requires : goal.put_first-at-requires
put_first-at-requires c = first_room (entries_of c.args.d c.args.img.now) c.args.out.now c.requires.objects_value c.requires.img_in_bounds

pub child_of-top-requires : goal.child_of-top-requires
child_of-top-requires c = record { directory_listed = c.requires.directory_listed; x_bound = root_inside c.requires.directory_listed }

pub push-n-requires : goal.push-n-requires
push-n-requires c =
    let lent : ListingLent c.args.d c.args.img.now c.args.work.now = record { listed = c.requires.directory_listed; rules = c.requires.img_value; trees = c.requires.img_value_2; apart = c.requires.d_bound; few = c.requires.d_bound_2 } in
    let l = lent in
    let y = c.child_of-top.ensures in record { directory_listed = l.listed; d_bound = l.apart; x_value = start_sound l y; x_bound = start_room l y }

pub loop-n-init : goal.loop-n-init
loop-n-init c =
    let lent : ListingLent c.args.d c.args.img.now c.args.work.now = record { listed = c.requires.directory_listed; rules = c.requires.img_value; trees = c.requires.img_value_2; apart = c.requires.d_bound; few = c.requires.d_bound_2 } in
    let v = walks_here (start_walks lent c.child_of-top.ensures _ c.push-n.ensures.stack c.push-n.ensures.wrote) in
    let f = first_room (entries_of c.args.d c.args.img.now) c.args.out.now c.requires.objects_value c.requires.img_in_bounds in
    writing_start c.args.out.now v c.put_first-at.ensures.count c.put_first-at.ensures.written (omega (arith, f, ap length c.put_first-at.ensures.written, over_length _ c.args.out.now f))

pub pair_at-q-requires : goal.pair_at-q-requires
pair_at-q-requires c = inside (goal.at.pair_at-q-requires c).In-loop-n

pub place-p-requires : goal.place-p-requires
place-p-requires c = rw c.pair_at-q.ensures.0 (placed c.loop-n.invariant.walks.lent.listed _ (turning (goal.at.place-p-requires c).In-loop-n).stands.inside)

pub put_line-from-requires : goal.put_line-from-requires
put_line-from-requires c =
    let place_is : c.place-p.result ≡ place_of c.args.d c.loop-n.work (entry_on c.loop-n.work (c.loop-n.n - 1)) = rw (← c.pair_at-q.ensures.0) c.place-p.ensures in
    let m = c.loop-n.invariant in
    let h = c.loop-n-test.true in
    let o = c.requires.objects_value in
    let r = room (goal.at.put_line-from-requires c).In-loop-n in
    let q = place_is in rw c.pair_at-q.ensures.1 (record { named_at = walks_named m.walks h _ q; parent_bound = line_behind m o r h _ q; parent_in_bounds = line_fits m o r h _ q })

pub line_length-at-requires : goal.line_length-at-requires
line_length-at-requires c =
    let place_is : c.place-p.result ≡ place_of c.args.d c.loop-n.work (entry_on c.loop-n.work (c.loop-n.n - 1)) = rw (← c.pair_at-q.ensures.0) c.place-p.ensures in
    record { named_at = walks_named c.loop-n.invariant.walks c.loop-n-test.true _ place_is; parent_bound = omega (arith, c.pair_at-q.ensures.1, (turning (goal.at.line_length-at-requires c).In-loop-n).fits) }

pub overflow_add-at : goal.overflow_add-at
overflow_add-at c =
    let place_is : c.place-p.result ≡ place_of c.args.d c.loop-n.work (entry_on c.loop-n.work (c.loop-n.n - 1)) = rw (← c.pair_at-q.ensures.0) c.place-p.ensures in
    let f = line_fits c.loop-n.invariant c.requires.objects_value (room (goal.at.overflow_add-at c).In-loop-n) c.loop-n-test.true _ place_is in
    -- the buffer's length fits, as it did at the start
    omega (arith, f, line_is (goal.at.overflow_add-at c).After-line_length-at, filled_length c.loop-n.invariant.placed, first_long (goal.at.overflow_add-at c).In-loop-n, c.well_formed.1.1.1.1.0)

pub turn-n-requires : goal.turn-n-requires
turn-n-requires c = let l = c.loop-n.invariant.walks.lent in record { directory_listed = l.listed; d_bound = l.apart; img_value = l.rules; turning = turning (goal.at.turn-n-requires c).In-loop-n }

pub loop-n-smaller : goal.loop-n-smaller
loop-n-smaller c = walks_less c.loop-n.invariant.walks c.loop-n-test.true _ c.turn-n.ensures.stack c.turn-n.ensures.wrote

pub loop-n-preserved : goal.loop-n-preserved
loop-n-preserved c =
    let place_is : c.place-p.result ≡ place_of c.args.d c.loop-n.work (entry_on c.loop-n.work (c.loop-n.n - 1)) = rw (← c.pair_at-q.ensures.0) c.place-p.ensures in
    writing_more c.loop-n.invariant c.requires.objects_value (room (goal.at.loop-n-preserved c).In-loop-n) c.loop-n-test.true _ place_is c.put_line-from.ensures.path (rw (← c.pair_at-q.ensures.1) c.put_line-from.ensures.written) (line_is (goal.at.loop-n-preserved c).After-line_length-at) _ c.turn-n.ensures.stack c.turn-n.ensures.wrote

pub returns : goal.returns
returns c = let m = c.loop-n.invariant in record { written = writing_end m c.requires.objects_value (room_kept (entries_of c.args.d c.args.img.now) c.args.out.now c.requires.objects_value c.requires.img_in_bounds c.put_first-at.ensures.written) c.loop-n-test.false c.args.out.now c.put_first-at.ensures.written; wrote = wrote_two c.push-n.ensures.wrote m.walks.wrote }
