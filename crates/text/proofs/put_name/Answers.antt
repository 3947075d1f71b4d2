use Rattle.std.proofs.Common.{arith, refl, ◌≡◌, ◌<◌, ◌≤◌, length, get_or}
use Rattle.entries.specs.Entry.{name_at, entry_at}
use Rattle.entries.proofs.NameLaws.{unit_inside}
use Rattle.text.proofs.Names.{unit_is, put_start, put_length, put_room, put_lent, put_next, put_end, printed_end}
use Rattle.text.proofs.put_name.Goals as goal
use Rattle.text.proofs.put_name.Goals.{After-name_unit, In-loop-i}

inside : (c : In-loop-i) → c.loop-i.i < length (name_at c.args.img.now c.args.p)
inside c = omega arith

within : (c : In-loop-i) → c.loop-i.k ≤ length c.loop-i.out
within c = omega (arith, put_room c.loop-i.invariant (inside c) refl)

-- the unit that is read
read : (c : After-name_unit) → c.name_unit.result ≡ get_or (name_at c.args.img.now c.args.p) c.loop-i.i 0
read c = unit_is (entry_at c.args.img.now c.args.p) _ (omega arith) c.name_unit.ensures

pub loop-i-init : goal.loop-i-init
loop-i-init c = put_start _ _ c.requires.p_in_bounds

pub slice_bounds-put_name_unit-count : goal.slice_bounds-put_name_unit-count
slice_bounds-put_name_unit-count c = within (goal.at.slice_bounds-put_name_unit-count c).In-loop-i

pub slice_bounds-put_name_unit-start : goal.slice_bounds-put_name_unit-start
slice_bounds-put_name_unit-start c = within (goal.at.slice_bounds-put_name_unit-start c).In-loop-i

pub name_unit-requires : goal.name_unit-requires
name_unit-requires c = unit_inside c.requires.named_at _ (omega arith)

pub put_name_unit-k-requires : goal.put_name_unit-k-requires
put_name_unit-k-requires c = put_lent c.loop-i.invariant (omega arith) (read (goal.at.put_name_unit-k-requires c).After-name_unit)

pub overflow_add-k : goal.overflow_add-k
overflow_add-k c = let r = read (goal.at.overflow_add-k c).After-name_unit in omega (arith, put_room c.loop-i.invariant (omega arith) r, put_length c.loop-i.invariant)

pub loop-i-preserved : goal.loop-i-preserved
loop-i-preserved c =
    let r = read (goal.at.loop-i-preserved c).After-name_unit in
    put_next c.loop-i.invariant (omega arith) r c.put_name_unit-k.ensures.count c.put_name_unit-k.ensures.written

pub returns : goal.returns
returns c =
    let w = c.loop-i.invariant in
    let h : length (name_at c.args.img.now c.args.p) ≤ c.loop-i.i = omega arith in
    record { count = printed_end w.printed h; written = put_end w h }
