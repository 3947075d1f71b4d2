use borrow.Author.Rules.{rules}
use Prim.Native.Nat.{◌+◌, ◌-◌, ◌≤◌, ◌<◌}
use mathlib.Core.Path.{◌≡◌}
use native.Mathlib.Omega.{arith}
use lib.ListN.{length, get_or, take}
use Rattle.spaces.specs.Spaces.{listed_space}
use Rattle.spaces.specs.Units.{kind_of, number_in}
use Rattle.spaces.proofs.Units.{unit_as}
use Rattle.writes.proofs.Zeroing.{Zeroing, zeroing_start, zeroing_step, zeroing_done}
use Rattle.writes.proofs.zero_from.Goals as goal
use Rattle.writes.proofs.zero_from.Goals.{After-of, After-unit_bytes-bytes, After-unit_place-p}

-- the byte where the unit at hand starts
starts : (c : After-unit_place-p) → let a = c.args in
    c.unit_place-p.result ≡ (listed_space a.v a.work.now a.kind).unit_place (get_or a.work.now c.loop-k.k 0)
starts c = let u = unit_as c.args.kind _ c.of.ensures in rw (u.0, u.1) at c.unit_place-p.ensures

-- and the place in it is one
inner : (c : After-unit_place-p) → c.loop-k.o < c.unit_bytes-bytes.result
inner c = omega (arith, c.loop-k.invariant.inner, c.unit_bytes-bytes.ensures)

-- it lies in the image
inside : (c : After-unit_place-p) → c.unit_place-p.result + c.unit_bytes-bytes.result ≤ length c.loop-k.img
inside c =
    omega (arith, c.requires.writable.unit_room c.loop-k.k (omega arith), c.loop-k.invariant.long, starts c, c.unit_bytes-bytes.ensures)

-- the unit at hand, and where it starts
unit_is : (c : After-of) → let a = c.args in
    (kind_of c.of.result ≡ a.kind) × (number_in c.of.result ≡ get_or a.work.now c.loop-k.k 0)
unit_is c = unit_as c.args.kind _ c.of.ensures

some : (c : After-unit_bytes-bytes) → 0 < c.unit_bytes-bytes.result
some c = omega (arith, c.unit_bytes-bytes.ensures, c.requires.writable.some)

pub nonzero_rem-o : goal.nonzero_rem-o
nonzero_rem-o c = some (goal.at.nonzero_rem-o c).After-unit_bytes-bytes

pub loop-k-init : goal.loop-k-init
loop-k-init c = rw c.unit_bytes-bytes.ensures (zeroing_start (listed_space c.args.v c.args.work.now c.args.kind) (take c.args.n c.args.work.now) c.args.from c.args.img.now c.requires.writable.some)

pub offset_bounds-work-k : goal.offset_bounds-work-k
offset_bounds-work-k c = let r = c.requires.writable.room in omega arith

pub bounds-work-k : goal.bounds-work-k
bounds-work-k c = let r = c.requires.writable.room in omega arith

pub unit_place-p-requires : goal.unit_place-p-requires
unit_place-p-requires c = let u = unit_is (goal.at.unit_place-p-requires c).After-of in rw (u.0, u.1) (c.requires.writable.units c.loop-k.k (omega arith))

pub overflow_add-start : goal.overflow_add-start
overflow_add-start c = omega (arith, inside (goal.at.overflow_add-start c).After-unit_place-p, inner (goal.at.overflow_add-start c).After-unit_place-p, c.requires.writable.short, c.loop-k.invariant.long)

pub overflow_add-end : goal.overflow_add-end
overflow_add-end c = omega (arith, inside (goal.at.overflow_add-end c).After-unit_place-p, c.requires.writable.short, c.loop-k.invariant.long)

pub slice_bounds-fill-count : goal.slice_bounds-fill-count
slice_bounds-fill-count c = omega (arith, inner (goal.at.slice_bounds-fill-count c).After-unit_place-p)

pub slice_bounds-fill-start : goal.slice_bounds-fill-start
slice_bounds-fill-start c = omega (arith, inner (goal.at.slice_bounds-fill-start c).After-unit_place-p)

pub slice_bounds-fill-end : goal.slice_bounds-fill-end
slice_bounds-fill-end c = inside (goal.at.slice_bounds-fill-end c).After-unit_place-p

pub loop-k-preserved : goal.loop-k-preserved
loop-k-preserved c = zeroing_step _ c.args.work.now c.args.n c.requires.writable.room c.args.from c.args.img.now c.loop-k.invariant (omega arith) _ _ c.unit_bytes-bytes.ensures (starts (goal.at.loop-k-preserved c).After-unit_place-p) (inside (goal.at.loop-k-preserved c).After-unit_place-p) _ (c.fill.ensures.after (λ y h. cc))

pub returns : goal.returns
returns c = zeroing_done _ c.args.work.now c.args.n c.requires.writable.room c.args.from c.args.img.now c.loop-k.invariant (omega arith)
