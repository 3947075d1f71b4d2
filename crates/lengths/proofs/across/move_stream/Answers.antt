use borrow.Author.Rules.{rules}
use Prim.Native.Nat.{◌≤◌}
use mathlib.Core.Path.{◌≡◌, refl, sym, ◌∙◌, ap}
use mathlib.Core.Bool.{not}
use native.Mathlib.Omega.{arith}
use lib.Dec.{ltb}
use lib.ListN.{length}
use borrow.Author.Tests.{not-false}
use Rattle.format.specs.Layout.Need.{round_up}
use Rattle.format.specs.Layout.Entry.{start}
use Rattle.format.specs.Layout.Space.{free_units}
use Rattle.format.specs.Layout.Stream.{space_for}
use Rattle.format.specs.Calls.Search.{length_searches, cells_looked}
use Rattle.format.specs.Calls.Answer.{length_answer}
use Rattle.format.specs.Calls.Reply.{on_zero}
use Rattle.kinds.specs.Sizes.{geometry_of}
use Rattle.tables.proofs.WorkLaws.{wrote_two}
use Rattle.spaces.specs.Spaces.{kind_for, volume_in, space_at, unit_bytes}
use Rattle.spaces.specs.Units.{kind_of, number_in}
use Rattle.spaces.proofs.Listed.{unit_same, unit_many}
use Rattle.queries.proofs.Streams.{stream_start, stream_placed, stream_room}
use Rattle.edits.proofs.Gathering.{gathered_ready}
use Rattle.edits.proofs.Overwrites.{over_chain, over_units}
use Rattle.lengths.specs.Listed.{BothListed}
use Rattle.edits.proofs.Growths.{growth_enough, growth_looked}
use Rattle.edits.proofs.Looks.{length_most}
use Rattle.lengths.proofs.Crossings.{front_length, kinds_differ, none_before}
use Rattle.lengths.proofs.MoveAnswers.{too_few, enough_free, move_looked}
use Rattle.lengths.proofs.across.move_stream.Goals as goal
use Rattle.lengths.proofs.across.move_stream.Goals.{After-units_for-old, Else-not-g}

enough : (c : Else-not-g) → let a = c.args in
    (c.units_for-need.result ≤ length (free_units (space_at a.v a.img.now (kind_for a.new))))
    × (0 ≡ length_answer (geometry_of a.v.tables.geometry) (volume_in a.v a.img.now) a.e.size a.new)
enough c =
    enough_free c.requires.fact c.requires.stream_at c.args.new c.requires.value _ ((let wanted' : let a = c.args in c.units_for-need.result ≡ round_up a.new (space_at a.v a.img.now (kind_for a.new)).unit = c.units_for-need.ensures ∙ ap (round_up c.args.new) (c.unit_bytes-2.ensures ∙ ap (unit_bytes c.args.v) c.kind_for-to.ensures ∙ unit_same c.requires.fact.ready (kind_for c.args.new)) in wanted')) ((let answered' : let a = c.args in c.gather_across-g.result.enough ≡ not (ltb (length (free_units (space_at a.v a.img.now (kind_for a.new)))) c.units_for-need.result) = (rw c.kind_for-to.ensures at (growth_enough _ _ _ c.gather_across-g.ensures.answer)) ∙ sym (none_before (length (free_units (space_at c.args.v c.args.img.now (kind_for c.args.new)))) c.units_for-need.result) in answered')) c.if-not-g.false

-- how many units there are and shall be, and the first
many : (c : After-units_for-old) → let a = c.args in c.units_for-old.result ≡ round_up a.e.size (space_at a.v a.img.now (kind_for a.e.size)).unit
many c =
    c.units_for-old.ensures
    ∙ ap (round_up c.args.e.size) (c.unit_bytes.ensures ∙ ap (unit_bytes c.args.v) c.kind_for-from.ensures ∙ unit_same c.requires.fact.ready (kind_for c.args.e.size))

-- what stands listed then
listed : (c : Else-not-g) → let a = c.args in
    BothListed a.v a.img.now c.gather_across-g.new.work a.e a.new c.units_for-old.result c.units_for-need.result
listed c =
    let f = (let first' : let a = c.args in (kind_of c.start_unit-first.result ≡ kind_for a.e.size) × (number_in c.start_unit-first.result ≡ start ((volume_in a.v a.img.now).directory.entry a.e.id.0)) = let f = stream_start c.requires.fact c.requires.stream_at _ c.kind_for-from.result c.place.ensures c.start_unit-first.ensures in (f.0 ∙ c.kind_for-from.ensures, f.1) in first') in
    let m = (let many' : let a = c.args in c.units_for-old.result ≡ round_up a.e.size (space_at a.v a.img.now (kind_for a.e.size)).unit = c.units_for-old.ensures ∙ ap (round_up c.args.e.size) (c.unit_bytes.ensures ∙ ap (unit_bytes c.args.v) c.kind_for-from.ensures ∙ unit_same c.requires.fact.ready (kind_for c.args.e.size)) in many') in
    record {
      many = m;
      wanted = (let wanted' : let a = c.args in c.units_for-need.result ≡ round_up a.new (space_at a.v a.img.now (kind_for a.new)).unit = c.units_for-need.ensures ∙ ap (round_up c.args.new) (c.unit_bytes-2.ensures ∙ ap (unit_bytes c.args.v) c.kind_for-to.ensures ∙ unit_same c.requires.fact.ready (kind_for c.args.new)) in wanted');
      own = (rw (f.0, f.1) at c.gather_across-g.ensures.own) ∙ over_units c.requires.fact c.requires.stream_at _ m;
      free = rw c.kind_for-to.ensures at (c.gather_across-g.ensures.free (not-false _ c.if-not-g.false));
      enough = (enough c).0;
    }

pub units_for-old-requires : goal.units_for-old-requires
unfolding on_zero
units_for-old-requires c = rw c.unit_bytes.ensures (unit_many c.requires.fact.ready c.kind_for-from.result)

pub units_for-need-requires : goal.units_for-need-requires
unfolding on_zero
units_for-need-requires c = rw c.unit_bytes-2.ensures (unit_many c.requires.fact.ready c.kind_for-to.result)

pub place-requires : goal.place-requires
unfolding on_zero
place-requires c = stream_placed c.requires.fact c.requires.stream_at

pub start_unit-first-requires : goal.start_unit-first-requires
unfolding on_zero
start_unit-first-requires c = stream_room c.requires.fact c.requires.stream_at _ c.place.ensures

pub gather_across-g-requires : goal.gather_across-g-requires
unfolding on_zero
gather_across-g-requires c =
    let first : let a = c.args in (kind_of c.start_unit-first.result ≡ kind_for a.e.size) × (number_in c.start_unit-first.result ≡ start ((volume_in a.v a.img.now).directory.entry a.e.id.0)) = let f = stream_start c.requires.fact c.requires.stream_at _ c.kind_for-from.result c.place.ensures c.start_unit-first.ensures in (f.0 ∙ c.kind_for-from.ensures, f.1) in
    let f = first in record { readied = c.requires.fact.ready; value = rw (f.0, f.1) (over_chain c.requires.fact c.requires.stream_at _ (many (goal.at.gather_across-g-requires c).After-units_for-old)); start_nonzero = rw (f.0, c.kind_for-to.ensures) (kinds_differ c.args.e.size c.args.new c.requires.value) }

pub returns-then-not-g : goal.returns-then-not-g
unfolding on_zero
returns-then-not-g c =
    let wanted : let a = c.args in c.units_for-need.result ≡ round_up a.new (space_at a.v a.img.now (kind_for a.new)).unit = c.units_for-need.ensures ∙ ap (round_up c.args.new) (c.unit_bytes-2.ensures ∙ ap (unit_bytes c.args.v) c.kind_for-to.ensures ∙ unit_same c.requires.fact.ready (kind_for c.args.new)) in
    let answered : let a = c.args in c.gather_across-g.result.enough ≡ not (ltb (length (free_units (space_at a.v a.img.now (kind_for a.new)))) c.units_for-need.result) = (rw c.kind_for-to.ensures at (growth_enough _ _ _ c.gather_across-g.ensures.answer)) ∙ sym (none_before (length (free_units (space_at c.args.v c.args.img.now (kind_for c.args.new)))) c.units_for-need.result) in
    let looked' : let a = c.args in let vol = volume_in a.v a.img.now in (c.gather_across-g.result.looked ≡ cells_looked (length_searches vol a.e.id.0 a.new)) × (c.gather_across-g.result.looked ≤ (space_for vol a.new).limit) = let n = (rw c.kind_for-to.ensures at (growth_looked _ _ _ c.gather_across-g.ensures.answer)) ∙ move_looked c.requires.fact c.requires.stream_at c.args.new c.requires.value _ wanted in (n, omega (arith, n, length_most (volume_in c.args.v c.args.img.now) c.args.e.id.0 c.args.new)) in
    record { answer_value = too_few c.requires.fact c.requires.stream_at c.args.new c.requires.value _ wanted answered c.if-not-g.true; img_after = refl; wrote = c.gather_across-g.ensures.wrote; looked_value = looked'.0; looked_bound = looked'.1 }

pub kept_bytes-n-requires : goal.kept_bytes-n-requires
unfolding on_zero
kept_bytes-n-requires c = c.requires.value

pub slice_bounds-bytes-end : goal.slice_bounds-bytes-end
unfolding on_zero
slice_bounds-bytes-end c = omega (arith, c.kept_bytes-n.ensures.few)

pub slice_bounds-relocate-end : goal.slice_bounds-relocate-end
unfolding on_zero
slice_bounds-relocate-end c = front_length _ c.kept_bytes-n.ensures.few

pub relocate-requires : goal.relocate-requires
unfolding on_zero
relocate-requires c = record { fact = record { ready = gathered_ready c.requires.fact.ready c.gather_across-g.ensures.wrote; groups = c.requires.fact.groups }; stream_at = c.requires.stream_at; value = c.requires.value; both_listed = listed (goal.at.relocate-requires c).Else-not-g; kept_len = sym (front_length _ c.kept_bytes-n.ensures.few) ∙ c.kept_bytes-n.ensures.count }

pub returns : goal.returns
unfolding on_zero
returns c =
    let wanted : let a = c.args in c.units_for-need.result ≡ round_up a.new (space_at a.v a.img.now (kind_for a.new)).unit = c.units_for-need.ensures ∙ ap (round_up c.args.new) (c.unit_bytes-2.ensures ∙ ap (unit_bytes c.args.v) c.kind_for-to.ensures ∙ unit_same c.requires.fact.ready (kind_for c.args.new)) in
    let looked' : let a = c.args in let vol = volume_in a.v a.img.now in (c.gather_across-g.result.looked ≡ cells_looked (length_searches vol a.e.id.0 a.new)) × (c.gather_across-g.result.looked ≤ (space_for vol a.new).limit) = let n = (rw c.kind_for-to.ensures at (growth_looked _ _ _ c.gather_across-g.ensures.answer)) ∙ move_looked c.requires.fact c.requires.stream_at c.args.new c.requires.value _ wanted in (n, omega (arith, n, length_most (volume_in c.args.v c.args.img.now) c.args.e.id.0 c.args.new)) in
    record { answer_value = (enough (goal.at.returns c).Else-not-g).1; img_after = c.relocate.ensures.image; wrote = wrote_two c.gather_across-g.ensures.wrote c.relocate.ensures.wrote; looked_value = looked'.0; looked_bound = looked'.1 }
