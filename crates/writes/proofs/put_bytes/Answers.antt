use borrow.Author.Rules.{rules}
use Prim.Native.Nat.{◌+◌, ◌-◌, ◌≤◌, ◌<◌}
use mathlib.Core.Path.{◌≡◌}
use native.Mathlib.Omega.{arith}
use lib.ListN.{length, get_or, take}
use Rattle.spaces.specs.Spaces.{listed_space}
use Rattle.spaces.specs.Units.{kind_of, number_in}
use Rattle.spaces.proofs.Units.{unit_as}
use Rattle.writes.proofs.Putting.{Putting, putting_start, putting_below, putting_step, putting_done}
use Rattle.writes.proofs.put_bytes.Goals as goal
use Rattle.writes.proofs.put_bytes.Goals.{After-of, After-unit_bytes-unit, After-unit_place, In-loop-i}

-- where it starts
starts : (c : After-unit_place) → let a = c.args in
    c.unit_place.result ≡ (listed_space a.v a.work.now a.kind).unit_place (get_or a.work.now c.loop-i.k 0)
starts c = let u = (let unit_is' : let a = c.args in (kind_of c.of.result ≡ a.kind) × (number_in c.of.result ≡ get_or a.work.now c.loop-i.k 0) = unit_as c.args.kind _ c.of.ensures in unit_is') in rw (u.0, u.1) at c.unit_place.ensures

-- and the place in it is one
inner : (c : After-unit_place) → c.loop-i.o < c.unit_bytes-unit.result
inner c = omega (arith, c.loop-i.invariant.inner, c.unit_bytes-unit.ensures)

-- it lies in the image
inside : (c : After-unit_place) → c.unit_place.result + c.unit_bytes-unit.result ≤ length c.loop-i.img
inside c =
    omega (arith, c.requires.writable.unit_room c.loop-i.k ((let below' : c.loop-i.k < c.args.n = putting_below _ _ c.args.offset c.args.bytes.now c.args.img.now c.loop-i.invariant c.loop-i-test.true c.args.n c.requires.bytes_bound in below')), c.loop-i.invariant.long, starts c, c.unit_bytes-unit.ensures)

unit_is : (c : After-of) → let a = c.args in
    (kind_of c.of.result ≡ a.kind) × (number_in c.of.result ≡ get_or a.work.now c.loop-i.k 0)
unit_is c = unit_as c.args.kind _ c.of.ensures

-- the unit at hand is one of the stream's
below : (c : In-loop-i) → c.loop-i.k < c.args.n
below c = putting_below _ _ c.args.offset c.args.bytes.now c.args.img.now c.loop-i.invariant c.loop-i-test.true c.args.n c.requires.bytes_bound

some : (c : After-unit_bytes-unit) → 0 < c.unit_bytes-unit.result
some c = omega (arith, c.unit_bytes-unit.ensures, c.requires.writable.some)

pub nonzero_div-k : goal.nonzero_div-k
nonzero_div-k c = some (goal.at.nonzero_div-k c).After-unit_bytes-unit

pub nonzero_rem-o : goal.nonzero_rem-o
nonzero_rem-o c = some (goal.at.nonzero_rem-o c).After-unit_bytes-unit

pub loop-i-init : goal.loop-i-init
loop-i-init c = rw c.unit_bytes-unit.ensures (putting_start (listed_space c.args.v c.args.work.now c.args.kind) (take c.args.n c.args.work.now) c.args.offset c.args.bytes.now c.args.img.now c.requires.writable.some)

pub offset_bounds-work-k : goal.offset_bounds-work-k
offset_bounds-work-k c = omega (arith, below (goal.at.offset_bounds-work-k c).In-loop-i, c.requires.writable.room)

pub bounds-work-k : goal.bounds-work-k
bounds-work-k c = omega (arith, below (goal.at.bounds-work-k c).In-loop-i, c.requires.writable.room)

pub unit_place-requires : goal.unit_place-requires
unit_place-requires c = let u = unit_is (goal.at.unit_place-requires c).After-of in rw (u.0, u.1) (c.requires.writable.units c.loop-i.k (below (goal.at.unit_place-requires c).In-loop-i))

pub overflow_add-p : goal.overflow_add-p
overflow_add-p c = omega (arith, inside (goal.at.overflow_add-p c).After-unit_place, inner (goal.at.overflow_add-p c).After-unit_place, c.requires.writable.short, c.loop-i.invariant.long)

pub overflow_sub-unit : goal.overflow_sub-unit
overflow_sub-unit c = omega (arith, inner (goal.at.overflow_sub-unit c).After-unit_place)

pub overflow_sub-end : goal.overflow_sub-end
overflow_sub-end c = let h = c.loop-i-test.true in omega arith

pub copy_part-requires : goal.copy_part-requires
copy_part-requires c =
    let more : (0 < c.least-run.result) × (c.loop-i.i + c.least-run.result ≤ length c.args.bytes.now) = let w = inner (goal.at.copy_part-requires c).After-unit_place in let e = c.least-run.ensures in let h = c.loop-i-test.true in (omega (arith, w, e, h), omega (arith, e, h)) in
    record { n_in_bounds = omega (arith, c.least-run.ensures, inside (goal.at.copy_part-requires c).After-unit_place, inner (goal.at.copy_part-requires c).After-unit_place); n_in_bounds_2 = more.1 }

pub overflow_add-i : goal.overflow_add-i
overflow_add-i c =
    let more : (0 < c.least-run.result) × (c.loop-i.i + c.least-run.result ≤ length c.args.bytes.now) = let w = inner (goal.at.overflow_add-i c).After-unit_place in let e = c.least-run.ensures in let h = c.loop-i-test.true in (omega (arith, w, e, h), omega (arith, e, h)) in
    omega (arith, more.1)

pub overflow_add-k : goal.overflow_add-k
overflow_add-k c = omega (arith, below (goal.at.overflow_add-k c).In-loop-i, c.requires.writable.room)

pub loop-i-smaller : goal.loop-i-smaller
loop-i-smaller c =
    let more : (0 < c.least-run.result) × (c.loop-i.i + c.least-run.result ≤ length c.args.bytes.now) = let w = inner (goal.at.loop-i-smaller c).After-unit_place in let e = c.least-run.ensures in let h = c.loop-i-test.true in (omega (arith, w, e, h), omega (arith, e, h)) in
    let m = more in omega (arith, m.0, m.1)

pub loop-i-preserved : goal.loop-i-preserved
loop-i-preserved c = putting_step _ c.args.work.now c.args.n c.args.offset c.args.bytes.now c.args.img.now c.requires.bytes_bound c.loop-i.invariant c.loop-i-test.true _ _ c.least-run.result c.unit_bytes-unit.ensures (starts (goal.at.loop-i-preserved c).After-unit_place) c.least-run.ensures c.copy_part.new.to c.copy_part.ensures

pub returns : goal.returns
returns c = putting_done _ _ c.args.offset c.args.bytes.now c.args.img.now c.loop-i.invariant (omega arith)
