use borrow.Author.Rules.{rules}
use Prim.Native.Nat.{◌+◌, ◌-◌, ◌≤◌, ◌<◌, min}
use mathlib.Core.Path.{◌≡◌, refl, sym, ◌∙◌, ap, ap₂}
use native.Mathlib.Omega.{arith}
use lib.ListN.{length}
use Rattle.format.specs.Layout.Space.{Space, chain_for, units_for}
use Rattle.theory.proofs.RoundUp.{round_lt}
use Rattle.spaces.specs.Spaces.{space_at, unit_bytes}
use Rattle.spaces.specs.Units.{kind_of, number_in}
use Rattle.spaces.proofs.Units.{unit_as, cell_as}
use Rattle.spaces.proofs.Listed.{unit_same, unit_many, units_stand, unit_listed, unit_place_lem}
use Rattle.reading.proofs.Reading.{Reading, ReadingFrom, none_read, reading_start, reading_below, reading_inner, reading_room, reading_more, reading_step, reading_done}
use Rattle.reading.proofs.read_units.Goals as goal
use Rattle.reading.proofs.read_units.Goals.{After-unit_after-u, After-unit_place, In-loop-i}

-- where it starts
starts : (c : After-unit_place) → c.unit_place.result ≡ ((space_at c.args.v c.args.img.now (kind_of c.args.start))).unit_place (number_in c.loop-i.u)
unfolding units_for
starts c =
    (rw ((let same_kind' : kind_of c.loop-i.u ≡ kind_of c.args.start = c.loop-i.invariant.0 ∙ (let first_kind' : kind_of c.unit_after-u.result ≡ kind_of c.args.start = (unit_as (kind_of c.args.start) _ c.unit_after-u.ensures).0 in first_kind') in same_kind')) at c.unit_place.ensures) ∙ unit_place_lem c.requires.readied (kind_of c.args.start) (number_in c.loop-i.u) ((let below' : number_in c.loop-i.u < ((space_at c.args.v c.args.img.now (kind_of c.args.start))).limit = reading_below c.args.img.now (units_stand c.requires.readied (kind_of c.args.start)) c.requires.start_value c.requires.out_bound ((let walk' : let a = c.args in Reading ((space_at c.args.v c.args.img.now (kind_of c.args.start))) a.img.now a.size (number_in a.start) a.offset a.out.now c.loop-i.out (number_in c.loop-i.u) c.loop-i.o c.loop-i.i = let e = (unit_as (kind_of c.args.start) _ c.unit_after-u.ensures).1 in (rw ((let first_kind' : kind_of c.unit_after-u.result ≡ kind_of c.args.start = (unit_as (kind_of c.args.start) _ c.unit_after-u.ensures).0 in first_kind')) at c.loop-i.invariant.1) (number_in c.args.start) c.requires.start_value (rw (c.units_for-n.ensures, (let bytes_are' : c.unit_bytes-bytes.result ≡ ((space_at c.args.v c.args.img.now (kind_of c.args.start))).unit = c.unit_bytes-bytes.ensures ∙ ap (unit_bytes c.args.v) c.kind.ensures ∙ unit_same c.requires.readied (kind_of c.args.start) in bytes_are')) at e) in walk')) c.loop-i-test.true in below'))

inner : (c : In-loop-i) → c.loop-i.o < c.unit_bytes-bytes.result
unfolding units_for
inner c =
    rw ((let bytes_are' : c.unit_bytes-bytes.result ≡ ((space_at c.args.v c.args.img.now (kind_of c.args.start))).unit = c.unit_bytes-bytes.ensures ∙ ap (unit_bytes c.args.v) c.kind.ensures ∙ unit_same c.requires.readied (kind_of c.args.start) in bytes_are')) (reading_inner c.args.img.now (units_stand c.requires.readied (kind_of c.args.start)) c.requires.start_value c.requires.out_bound ((let walk' : let a = c.args in Reading ((space_at c.args.v c.args.img.now (kind_of c.args.start))) a.img.now a.size (number_in a.start) a.offset a.out.now c.loop-i.out (number_in c.loop-i.u) c.loop-i.o c.loop-i.i = let e = (unit_as (kind_of c.args.start) _ c.unit_after-u.ensures).1 in (rw ((let first_kind' : kind_of c.unit_after-u.result ≡ kind_of c.args.start = (unit_as (kind_of c.args.start) _ c.unit_after-u.ensures).0 in first_kind')) at c.loop-i.invariant.1) (number_in c.args.start) c.requires.start_value (rw (c.units_for-n.ensures, (let bytes_are' : c.unit_bytes-bytes.result ≡ ((space_at c.args.v c.args.img.now (kind_of c.args.start))).unit = c.unit_bytes-bytes.ensures ∙ ap (unit_bytes c.args.v) c.kind.ensures ∙ unit_same c.requires.readied (kind_of c.args.start) in bytes_are')) at e) in walk')) c.loop-i-test.true)

room : (c : After-unit_place) → c.unit_place.result + c.loop-i.o + (c.unit_bytes-bytes.result - c.loop-i.o) ≤ length c.args.img.now
unfolding units_for
room c =
    rw (starts c, (let bytes_are' : c.unit_bytes-bytes.result ≡ ((space_at c.args.v c.args.img.now (kind_of c.args.start))).unit = c.unit_bytes-bytes.ensures ∙ ap (unit_bytes c.args.v) c.kind.ensures ∙ unit_same c.requires.readied (kind_of c.args.start) in bytes_are')) (reading_room c.args.img.now (units_stand c.requires.readied (kind_of c.args.start)) c.requires.start_value c.requires.out_bound ((let walk' : let a = c.args in Reading ((space_at c.args.v c.args.img.now (kind_of c.args.start))) a.img.now a.size (number_in a.start) a.offset a.out.now c.loop-i.out (number_in c.loop-i.u) c.loop-i.o c.loop-i.i = let e = (unit_as (kind_of c.args.start) _ c.unit_after-u.ensures).1 in (rw ((let first_kind' : kind_of c.unit_after-u.result ≡ kind_of c.args.start = (unit_as (kind_of c.args.start) _ c.unit_after-u.ensures).0 in first_kind')) at c.loop-i.invariant.1) (number_in c.args.start) c.requires.start_value (rw (c.units_for-n.ensures, (let bytes_are' : c.unit_bytes-bytes.result ≡ ((space_at c.args.v c.args.img.now (kind_of c.args.start))).unit = c.unit_bytes-bytes.ensures ∙ ap (unit_bytes c.args.v) c.kind.ensures ∙ unit_same c.requires.readied (kind_of c.args.start) in bytes_are')) at e) in walk')) c.loop-i-test.true)

-- in the loop the unit at hand is one, and so is the byte in it
below : (c : In-loop-i) → number_in c.loop-i.u < ((space_at c.args.v c.args.img.now (kind_of c.args.start))).limit
unfolding units_for
below c = reading_below c.args.img.now (units_stand c.requires.readied (kind_of c.args.start)) c.requires.start_value c.requires.out_bound ((let walk' : let a = c.args in Reading ((space_at c.args.v c.args.img.now (kind_of c.args.start))) a.img.now a.size (number_in a.start) a.offset a.out.now c.loop-i.out (number_in c.loop-i.u) c.loop-i.o c.loop-i.i = let e = (unit_as (kind_of c.args.start) _ c.unit_after-u.ensures).1 in (rw ((let first_kind' : kind_of c.unit_after-u.result ≡ kind_of c.args.start = (unit_as (kind_of c.args.start) _ c.unit_after-u.ensures).0 in first_kind')) at c.loop-i.invariant.1) (number_in c.args.start) c.requires.start_value (rw (c.units_for-n.ensures, (let bytes_are' : c.unit_bytes-bytes.result ≡ ((space_at c.args.v c.args.img.now (kind_of c.args.start))).unit = c.unit_bytes-bytes.ensures ∙ ap (unit_bytes c.args.v) c.kind.ensures ∙ unit_same c.requires.readied (kind_of c.args.start) in bytes_are')) at e) in walk')) c.loop-i-test.true

-- the kind stays
first_kind : (c : After-unit_after-u) → kind_of c.unit_after-u.result ≡ kind_of c.args.start
first_kind c = (unit_as (kind_of c.args.start) _ c.unit_after-u.ensures).0

pub returns-then-end-eq0 : goal.returns-then-end-eq0
unfolding chain_for
returns-then-end-eq0 c = none_read _ _ _ c.if-end-eq0.true

pub units_for-n-requires : goal.units_for-n-requires
unfolding chain_for
units_for-n-requires c =
    let many : 1 < c.unit_bytes-bytes.result = rw c.unit_bytes-bytes.ensures (unit_many c.requires.readied c.kind.result) in
    many

pub nonzero_div-offset : goal.nonzero_div-offset
unfolding chain_for
nonzero_div-offset c =
    let many : 1 < c.unit_bytes-bytes.result = rw c.unit_bytes-bytes.ensures (unit_many c.requires.readied c.kind.result) in
    omega (arith, many)

pub unit_after-u-requires : goal.unit_after-u-requires
unfolding chain_for
unit_after-u-requires c =
    let many : 1 < c.unit_bytes-bytes.result = rw c.unit_bytes-bytes.ensures (unit_many c.requires.readied c.kind.result) in
    let bytes_are : c.unit_bytes-bytes.result ≡ ((space_at c.args.v c.args.img.now (kind_of c.args.start))).unit = c.unit_bytes-bytes.ensures ∙ ap (unit_bytes c.args.v) c.kind.ensures ∙ unit_same c.requires.readied (kind_of c.args.start) in
    let z = many in record { readied = c.requires.readied; n_value = rw (c.units_for-n.ensures, bytes_are) c.requires.start_value; k_lt_n = rw c.units_for-n.ensures (round_lt c.args.offset c.args.size c.unit_bytes-bytes.result (omega arith) (omega (arith, c.requires.out_bound, c.if-end-eq0.false))) }

pub nonzero_rem-o : goal.nonzero_rem-o
unfolding chain_for
nonzero_rem-o c =
    let many : 1 < c.unit_bytes-bytes.result = rw c.unit_bytes-bytes.ensures (unit_many c.requires.readied c.kind.result) in
    omega (arith, many)

pub loop-i-init : goal.loop-i-init
unfolding chain_for
loop-i-init c =
    let bytes_are : c.unit_bytes-bytes.result ≡ ((space_at c.args.v c.args.img.now (kind_of c.args.start))).unit = c.unit_bytes-bytes.ensures ∙ ap (unit_bytes c.args.v) c.kind.ensures ∙ unit_same c.requires.readied (kind_of c.args.start) in
    (refl, rw (first_kind (goal.at.loop-i-init c).After-unit_after-u, bytes_are) (λ s h e. reading_start c.args.img.now (units_stand c.requires.readied (kind_of c.args.start)) h c.requires.out_bound _ e))

pub unit_place-requires : goal.unit_place-requires
unfolding chain_for
unit_place-requires c =
    let same_kind : kind_of c.loop-i.u ≡ kind_of c.args.start = c.loop-i.invariant.0 ∙ first_kind (goal.at.unit_place-requires c).After-unit_after-u in
    rw same_kind (unit_listed c.requires.readied (kind_of c.args.start) (number_in c.loop-i.u) (below (goal.at.unit_place-requires c).In-loop-i))

pub overflow_add-p : goal.overflow_add-p
unfolding chain_for
overflow_add-p c = omega (arith, room (goal.at.overflow_add-p c).After-unit_place, c.requires.readied.lists.mini.fat.sized.short)

pub overflow_sub-bytes : goal.overflow_sub-bytes
unfolding chain_for
overflow_sub-bytes c = omega (arith, inner (goal.at.overflow_sub-bytes c).In-loop-i)

pub overflow_sub-end : goal.overflow_sub-end
unfolding chain_for
overflow_sub-end c = let h = c.loop-i-test.true in omega arith

pub copy_part-requires : goal.copy_part-requires
unfolding chain_for units_for
copy_part-requires c =
    let bytes_are : c.unit_bytes-bytes.result ≡ ((space_at c.args.v c.args.img.now (kind_of c.args.start))).unit = c.unit_bytes-bytes.ensures ∙ ap (unit_bytes c.args.v) c.kind.ensures ∙ unit_same c.requires.readied (kind_of c.args.start) in
    let walk : let a = c.args in Reading ((space_at c.args.v c.args.img.now (kind_of c.args.start))) a.img.now a.size (number_in a.start) a.offset a.out.now c.loop-i.out (number_in c.loop-i.u) c.loop-i.o c.loop-i.i = let e = (unit_as (kind_of c.args.start) _ c.unit_after-u.ensures).1 in (rw (first_kind (goal.at.copy_part-requires c).After-unit_after-u) at c.loop-i.invariant.1) (number_in c.args.start) c.requires.start_value (rw (c.units_for-n.ensures, bytes_are) at e) in
    let run_is : c.least-run.result ≡ min (((space_at c.args.v c.args.img.now (kind_of c.args.start))).unit - c.loop-i.o) (length c.loop-i.out - c.loop-i.i) = c.least-run.ensures ∙ ap₂ (λ n k. min (n - c.loop-i.o) (k - c.loop-i.i)) bytes_are (sym walk.long) in
    let more : (0 < c.least-run.result) × (c.loop-i.i + c.least-run.result ≤ length c.args.out.now) = reading_more c.args.img.now (units_stand c.requires.readied (kind_of c.args.start)) c.requires.start_value c.requires.out_bound walk c.loop-i-test.true c.least-run.result run_is in
    record { n_in_bounds = omega (arith, more.1, walk.long); n_in_bounds_2 = omega (arith, c.least-run.ensures, room (goal.at.copy_part-requires c).After-unit_place) }

pub overflow_add-i : goal.overflow_add-i
unfolding chain_for units_for
overflow_add-i c =
    let bytes_are : c.unit_bytes-bytes.result ≡ ((space_at c.args.v c.args.img.now (kind_of c.args.start))).unit = c.unit_bytes-bytes.ensures ∙ ap (unit_bytes c.args.v) c.kind.ensures ∙ unit_same c.requires.readied (kind_of c.args.start) in
    let walk : let a = c.args in Reading ((space_at c.args.v c.args.img.now (kind_of c.args.start))) a.img.now a.size (number_in a.start) a.offset a.out.now c.loop-i.out (number_in c.loop-i.u) c.loop-i.o c.loop-i.i = let e = (unit_as (kind_of c.args.start) _ c.unit_after-u.ensures).1 in (rw (first_kind (goal.at.overflow_add-i c).After-unit_after-u) at c.loop-i.invariant.1) (number_in c.args.start) c.requires.start_value (rw (c.units_for-n.ensures, bytes_are) at e) in
    let run_is : c.least-run.result ≡ min (((space_at c.args.v c.args.img.now (kind_of c.args.start))).unit - c.loop-i.o) (length c.loop-i.out - c.loop-i.i) = c.least-run.ensures ∙ ap₂ (λ n k. min (n - c.loop-i.o) (k - c.loop-i.i)) bytes_are (sym walk.long) in
    let more : (0 < c.least-run.result) × (c.loop-i.i + c.least-run.result ≤ length c.args.out.now) = reading_more c.args.img.now (units_stand c.requires.readied (kind_of c.args.start)) c.requires.start_value c.requires.out_bound walk c.loop-i-test.true c.least-run.result run_is in
    omega (arith, more.1)

pub cell_of-u-requires : goal.cell_of-u-requires
unfolding chain_for
cell_of-u-requires c =
    let same_kind : kind_of c.loop-i.u ≡ kind_of c.args.start = c.loop-i.invariant.0 ∙ first_kind (goal.at.cell_of-u-requires c).After-unit_after-u in
    record { readied = c.requires.readied; u_bound = rw same_kind (below (goal.at.cell_of-u-requires c).In-loop-i) }

pub loop-i-smaller : goal.loop-i-smaller
unfolding chain_for units_for
loop-i-smaller c =
    let bytes_are : c.unit_bytes-bytes.result ≡ ((space_at c.args.v c.args.img.now (kind_of c.args.start))).unit = c.unit_bytes-bytes.ensures ∙ ap (unit_bytes c.args.v) c.kind.ensures ∙ unit_same c.requires.readied (kind_of c.args.start) in
    let walk : let a = c.args in Reading ((space_at c.args.v c.args.img.now (kind_of c.args.start))) a.img.now a.size (number_in a.start) a.offset a.out.now c.loop-i.out (number_in c.loop-i.u) c.loop-i.o c.loop-i.i = let e = (unit_as (kind_of c.args.start) _ c.unit_after-u.ensures).1 in (rw (first_kind (goal.at.loop-i-smaller c).After-unit_after-u) at c.loop-i.invariant.1) (number_in c.args.start) c.requires.start_value (rw (c.units_for-n.ensures, bytes_are) at e) in
    let run_is : c.least-run.result ≡ min (((space_at c.args.v c.args.img.now (kind_of c.args.start))).unit - c.loop-i.o) (length c.loop-i.out - c.loop-i.i) = c.least-run.ensures ∙ ap₂ (λ n k. min (n - c.loop-i.o) (k - c.loop-i.i)) bytes_are (sym walk.long) in
    let more : (0 < c.least-run.result) × (c.loop-i.i + c.least-run.result ≤ length c.args.out.now) = reading_more c.args.img.now (units_stand c.requires.readied (kind_of c.args.start)) c.requires.start_value c.requires.out_bound walk c.loop-i-test.true c.least-run.result run_is in
    let m = more in omega (arith, m.0, m.1)

pub loop-i-preserved : goal.loop-i-preserved
unfolding chain_for units_for
loop-i-preserved c =
    let same_kind : kind_of c.loop-i.u ≡ kind_of c.args.start = c.loop-i.invariant.0 ∙ first_kind (goal.at.loop-i-preserved c).After-unit_after-u in
    let bytes_are : c.unit_bytes-bytes.result ≡ ((space_at c.args.v c.args.img.now (kind_of c.args.start))).unit = c.unit_bytes-bytes.ensures ∙ ap (unit_bytes c.args.v) c.kind.ensures ∙ unit_same c.requires.readied (kind_of c.args.start) in
    let walk : let a = c.args in Reading ((space_at c.args.v c.args.img.now (kind_of c.args.start))) a.img.now a.size (number_in a.start) a.offset a.out.now c.loop-i.out (number_in c.loop-i.u) c.loop-i.o c.loop-i.i = let e = (unit_as (kind_of c.args.start) _ c.unit_after-u.ensures).1 in (rw (first_kind (goal.at.loop-i-preserved c).After-unit_after-u) at c.loop-i.invariant.1) (number_in c.args.start) c.requires.start_value (rw (c.units_for-n.ensures, bytes_are) at e) in
    let run_is : c.least-run.result ≡ min (((space_at c.args.v c.args.img.now (kind_of c.args.start))).unit - c.loop-i.o) (length c.loop-i.out - c.loop-i.i) = c.least-run.ensures ∙ ap₂ (λ n k. min (n - c.loop-i.o) (k - c.loop-i.i)) bytes_are (sym walk.long) in
    let w : ReadingFrom _ _ _ _ _ _ _ _ _ _ = rw (first_kind (goal.at.loop-i-preserved c).After-unit_after-u) at c.loop-i.invariant.1 in
    let e = cell_as c.args.v c.args.img.now c.loop-i.u _ _ same_kind refl c.cell_of-u.ensures in (
      e.0 ∙ sym (first_kind (goal.at.loop-i-preserved c).After-unit_after-u),
      rw (e.1, first_kind (goal.at.loop-i-preserved c).After-unit_after-u) (λ s h e.
          rw (c.copy_part.ensures, starts (goal.at.loop-i-preserved c).After-unit_place)
          (reading_step c.args.img.now (units_stand c.requires.readied (kind_of c.args.start)) h c.requires.out_bound (w s h e) c.loop-i-test.true c.least-run.result run_is)),
    )

pub returns : goal.returns
unfolding chain_for units_for
returns c =
    let bytes_are : c.unit_bytes-bytes.result ≡ ((space_at c.args.v c.args.img.now (kind_of c.args.start))).unit = c.unit_bytes-bytes.ensures ∙ ap (unit_bytes c.args.v) c.kind.ensures ∙ unit_same c.requires.readied (kind_of c.args.start) in
    let walk : let a = c.args in Reading ((space_at c.args.v c.args.img.now (kind_of c.args.start))) a.img.now a.size (number_in a.start) a.offset a.out.now c.loop-i.out (number_in c.loop-i.u) c.loop-i.o c.loop-i.i = let e = (unit_as (kind_of c.args.start) _ c.unit_after-u.ensures).1 in (rw (first_kind (goal.at.returns c).After-unit_after-u) at c.loop-i.invariant.1) (number_in c.args.start) c.requires.start_value (rw (c.units_for-n.ensures, bytes_are) at e) in
    reading_done c.args.img.now (units_stand c.requires.readied (kind_of c.args.start)) c.requires.start_value c.requires.out_bound walk (omega arith)
