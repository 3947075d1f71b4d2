use borrow.Author.Rules.{rules}
use Prim.Native.Nat.{◌+◌, ◌-◌, ◌%◌, ◌≤◌, ◌<◌}
use mathlib.Core.Path.{◌≡◌}
use native.Mathlib.Nat.{mod-lt}
use native.Mathlib.Omega.{arith}
use lib.ListN.{length}
use Rattle.spaces.proofs.Units.{unit_as}
use Rattle.streams.proofs.Places.{bytes_some, index_listed, index_fits, byte_listed, unit_room_lem}
use Rattle.streams.proofs.Pieces.{Asked, Pieces, piece_long, piece_more, piece_done, pieces_start, pieces_step}
use Rattle.streams.proofs.read_part.Goals as goal
use Rattle.streams.proofs.read_part.Goals.{After-kind_for-kind, After-unit_bytes-bytes, After-unit_place}

-- the unit of the next byte lies in the image, and the byte in the unit
room : (c : After-unit_place) → c.unit_place.result + c.unit_bytes-bytes.result ≤ length c.args.image.now
room c =
    let q = (let asked' : let a = c.args in Asked a.v a.image.now a.work.now c.kind_for-kind.result a.offset a.out.now a.e = record { listed = c.requires.open_stream; kind_is = c.kind_for-kind.ensures; within = c.requires.out_bound } in asked') in
    unit_room_lem q.listed q.kind_is c.unit_bytes-bytes.ensures _ (omega (arith, q.within, c.loop-i-test.true)) c.of.ensures c.unit_place.ensures

some : (c : After-unit_bytes-bytes) → 0 < c.unit_bytes-bytes.result
some c = bytes_some ((let asked' : let a = c.args in Asked a.v a.image.now a.work.now c.kind_for-kind.result a.offset a.out.now a.e = record { listed = c.requires.open_stream; kind_is = c.kind_for-kind.ensures; within = c.requires.out_bound } in asked')).listed c.kind_for-kind.ensures c.unit_bytes-bytes.ensures

-- what is asked for
asked : (c : After-kind_for-kind) → let a = c.args in Asked a.v a.image.now a.work.now c.kind_for-kind.result a.offset a.out.now a.e
asked c = record { listed = c.requires.open_stream; kind_is = c.kind_for-kind.ensures; within = c.requires.out_bound }

pub loop-i-init : goal.loop-i-init
loop-i-init c = pieces_start

pub overflow_add-at : goal.overflow_add-at
overflow_add-at c = omega (arith, c.loop-i-test.true, (asked (goal.at.overflow_add-at c).After-kind_for-kind).within)

pub nonzero_rem-o : goal.nonzero_rem-o
nonzero_rem-o c = some (goal.at.nonzero_rem-o c).After-unit_bytes-bytes

pub nonzero_div-at : goal.nonzero_div-at
nonzero_div-at c = some (goal.at.nonzero_div-at c).After-unit_bytes-bytes

pub offset_bounds-work-at : goal.offset_bounds-work-at
offset_bounds-work-at c =
    let q = asked (goal.at.offset_bounds-work-at c).After-kind_for-kind in
    index_fits q.listed q.kind_is c.unit_bytes-bytes.ensures _ (omega (arith, q.within, c.loop-i-test.true))

pub bounds-work-at : goal.bounds-work-at
bounds-work-at c =
    let q = asked (goal.at.bounds-work-at c).After-kind_for-kind in
    index_listed q.listed q.kind_is c.unit_bytes-bytes.ensures _ (omega (arith, q.within, c.loop-i-test.true))

pub unit_place-requires : goal.unit_place-requires
unit_place-requires c =
    let q = asked (goal.at.unit_place-requires c).After-kind_for-kind in
    let u = unit_as c.kind_for-kind.result _ c.of.ensures in
    rw (u.0, u.1) (byte_listed q.listed q.kind_is c.unit_bytes-bytes.ensures _ (omega (arith, q.within, c.loop-i-test.true)))

pub overflow_add-p : goal.overflow_add-p
overflow_add-p c =
    let inner : (c.args.offset + c.loop-i.i) % c.unit_bytes-bytes.result < c.unit_bytes-bytes.result = mod-lt _ (some (goal.at.overflow_add-p c).After-unit_bytes-bytes) in
    omega (arith, room (goal.at.overflow_add-p c).After-unit_place, inner)

pub overflow_sub-bytes : goal.overflow_sub-bytes
overflow_sub-bytes c =
    let inner : (c.args.offset + c.loop-i.i) % c.unit_bytes-bytes.result < c.unit_bytes-bytes.result = mod-lt _ (some (goal.at.overflow_sub-bytes c).After-unit_bytes-bytes) in
    omega (arith, inner)

pub overflow_sub-end : goal.overflow_sub-end
overflow_sub-end c = omega (arith, c.loop-i-test.true)

pub copy_part-requires : goal.copy_part-requires
copy_part-requires c =
    let long : length c.loop-i.out ≡ length c.args.out.now = piece_long (asked (goal.at.copy_part-requires c).After-kind_for-kind) c.loop-i.invariant in
    let inner : (c.args.offset + c.loop-i.i) % c.unit_bytes-bytes.result < c.unit_bytes-bytes.result = mod-lt _ (some (goal.at.copy_part-requires c).After-unit_bytes-bytes) in
    let more : (0 < c.least-run.result) × (c.loop-i.i + c.least-run.result ≤ length c.args.out.now) = piece_more (asked (goal.at.copy_part-requires c).After-kind_for-kind) c.loop-i.invariant c.unit_bytes-bytes.ensures c.loop-i-test.true c.least-run.ensures in
    record { n_in_bounds = omega (arith, more.1, long); n_in_bounds_2 = omega (arith, c.least-run.ensures, room (goal.at.copy_part-requires c).After-unit_place, inner) }

pub overflow_add-i : goal.overflow_add-i
overflow_add-i c =
    let more : (0 < c.least-run.result) × (c.loop-i.i + c.least-run.result ≤ length c.args.out.now) = piece_more (asked (goal.at.overflow_add-i c).After-kind_for-kind) c.loop-i.invariant c.unit_bytes-bytes.ensures c.loop-i-test.true c.least-run.ensures in
    omega (arith, more.1)

pub loop-i-smaller : goal.loop-i-smaller
loop-i-smaller c =
    let more : (0 < c.least-run.result) × (c.loop-i.i + c.least-run.result ≤ length c.args.out.now) = piece_more (asked (goal.at.loop-i-smaller c).After-kind_for-kind) c.loop-i.invariant c.unit_bytes-bytes.ensures c.loop-i-test.true c.least-run.ensures in
    let m = more in omega (arith, m.0, m.1)

pub loop-i-preserved : goal.loop-i-preserved
loop-i-preserved c = pieces_step c.loop-i.invariant c.unit_bytes-bytes.ensures c.loop-i-test.true c.least-run.ensures c.of.ensures c.unit_place.ensures c.copy_part.ensures

pub returns : goal.returns
returns c = piece_done (asked (goal.at.returns c).After-kind_for-kind) c.loop-i.invariant c.loop-i-test.false
