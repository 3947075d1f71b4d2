use borrow.Author.Rules.{rules}
use Prim.Native.Nat.{◌+◌, ◌≤◌, max}
use mathlib.Core.Path.{◌≡◌, refl, ◌∙◌, ap}
use mathlib.Core.Bool.{false, not}
use mathlib.Core.List.{◌++◌}
use native.Mathlib.Omega.{arith}
use lib.Dec.{ltb}
use lib.ListN.{length, take}
use borrow.Author.Tests.{not-false}
use Rattle.format.specs.Layout.Need.{round_up}
use Rattle.format.specs.Layout.Chain.{units}
use Rattle.format.specs.Layout.Entry.{start}
use Rattle.format.specs.Layout.Space.{free_units}
use Rattle.format.specs.Layout.Stream.{space_for}
use Rattle.format.specs.Calls.Search.{length_searches, cells_looked}
use Rattle.format.specs.Calls.Answer.{length_answer}
use Rattle.format.specs.Calls.Reply.{on_zero}
use Rattle.kinds.specs.Sizes.{geometry_of}
use Rattle.volume.specs.Opened.{Readied}
use Rattle.spaces.specs.Spaces.{kind_for, volume_in, space_at, unit_bytes}
use Rattle.spaces.specs.Units.{kind_of, number_in}
use Rattle.spaces.proofs.Listed.{unit_same, unit_many}
use Rattle.queries.proofs.Streams.{stream_start, stream_placed, stream_room}
use Rattle.edits.proofs.Gathering.{gathered_ready}
use Rattle.edits.proofs.Growths.{growth_enough, growth_looked}
use Rattle.edits.proofs.Looks.{length_most}
use Rattle.edits.proofs.Resizes.{too_few, enough_free, resize_chain, looked_is, gathered}
use Rattle.edits.proofs.resize.change_length.Goals as goal
use Rattle.edits.proofs.resize.change_length.Goals.{After-kind_for-kind, After-unit_bytes-bytes, After-units_for-old}

bytes_are : (c : After-unit_bytes-bytes) → let a = c.args in c.unit_bytes-bytes.result ≡ (space_at a.v a.img.now (kind_for (max a.e.size a.new))).unit
bytes_are c = c.unit_bytes-bytes.ensures ∙ ap (unit_bytes c.args.v) ((let kind_is' : let a = c.args in c.kind_for-kind.result ≡ kind_for (max a.e.size a.new) = c.kind_for-kind.ensures ∙ ap kind_for c.max.ensures in kind_is')) ∙ unit_same c.requires.fact.ready (kind_for (max c.args.e.size c.args.new))

many : (c : After-units_for-old) → let a = c.args in c.units_for-old.result ≡ round_up a.e.size (space_at a.v a.img.now (kind_for (max a.e.size a.new))).unit
many c = c.units_for-old.ensures ∙ ap (round_up c.args.e.size) ((let bytes_are' : let a = c.args in c.unit_bytes-bytes.result ≡ (space_at a.v a.img.now (kind_for (max a.e.size a.new))).unit = c.unit_bytes-bytes.ensures ∙ ap (unit_bytes c.args.v) ((let kind_is' : let a = c.args in c.kind_for-kind.result ≡ kind_for (max a.e.size a.new) = c.kind_for-kind.ensures ∙ ap kind_for c.max.ensures in kind_is')) ∙ unit_same c.requires.fact.ready (kind_for (max c.args.e.size c.args.new)) in bytes_are'))

-- the kind of unit, how many there are and shall be, and the first
kind_is : (c : After-kind_for-kind) → let a = c.args in c.kind_for-kind.result ≡ kind_for (max a.e.size a.new)
kind_is c = c.kind_for-kind.ensures ∙ ap kind_for c.max.ensures

pub units_for-old-requires : goal.units_for-old-requires
unfolding on_zero
units_for-old-requires c = rw c.unit_bytes-bytes.ensures (unit_many c.requires.fact.ready c.kind_for-kind.result)

pub units_for-need-requires : goal.units_for-need-requires
unfolding on_zero
units_for-need-requires c = rw c.unit_bytes-bytes.ensures (unit_many c.requires.fact.ready c.kind_for-kind.result)

pub place-requires : goal.place-requires
unfolding on_zero
place-requires c = stream_placed c.requires.fact c.requires.stream_at

pub start_unit-first-requires : goal.start_unit-first-requires
unfolding on_zero
start_unit-first-requires c = stream_room c.requires.fact c.requires.stream_at _ c.place.ensures

pub gather-g-requires : goal.gather-g-requires
unfolding on_zero
gather-g-requires c =
    let wanted : let a = c.args in c.units_for-need.result ≡ round_up a.new (space_at a.v a.img.now (kind_for (max a.e.size a.new))).unit = c.units_for-need.ensures ∙ ap (round_up c.args.new) (bytes_are (goal.at.gather-g-requires c).After-unit_bytes-bytes) in
    let first : let a = c.args in (kind_of c.start_unit-first.result ≡ kind_for (max a.e.size a.new)) × (number_in c.start_unit-first.result ≡ start ((volume_in a.v a.img.now).directory.entry a.e.id.0)) = let f = stream_start c.requires.fact c.requires.stream_at _ c.kind_for-kind.result c.place.ensures c.start_unit-first.ensures in (f.0 ∙ kind_is (goal.at.gather-g-requires c).After-kind_for-kind, f.1) in
    let f = first in record { readied = c.requires.fact.ready; value = rw (f.0, f.1) (resize_chain c.requires.fact c.requires.stream_at c.args.new c.requires.value _ _ (many (goal.at.gather-g-requires c).After-units_for-old) wanted) }

pub returns-then-not-g : goal.returns-then-not-g
unfolding on_zero
returns-then-not-g c =
    let wanted : let a = c.args in c.units_for-need.result ≡ round_up a.new (space_at a.v a.img.now (kind_for (max a.e.size a.new))).unit = c.units_for-need.ensures ∙ ap (round_up c.args.new) (bytes_are (goal.at.returns-then-not-g c).After-unit_bytes-bytes) in
    let first : let a = c.args in (kind_of c.start_unit-first.result ≡ kind_for (max a.e.size a.new)) × (number_in c.start_unit-first.result ≡ start ((volume_in a.v a.img.now).directory.entry a.e.id.0)) = let f = stream_start c.requires.fact c.requires.stream_at _ c.kind_for-kind.result c.place.ensures c.start_unit-first.ensures in (f.0 ∙ kind_is (goal.at.returns-then-not-g c).After-kind_for-kind, f.1) in
    let answered : let a = c.args in let sp = space_at a.v a.img.now (kind_for (max a.e.size a.new)) in let old = c.units_for-old.result in let need = c.units_for-need.result in c.gather-g.result.enough ≡ not (ltb (old + length (free_units sp)) need) = rw first.0 at (growth_enough _ _ _ c.gather-g.ensures.value_2) in
    let looked' : let a = c.args in let vol = volume_in a.v a.img.now in (c.gather-g.result.looked ≡ cells_looked (length_searches vol a.e.id.0 a.new)) × (c.gather-g.result.looked ≤ (space_for vol a.new).limit) = let n = (rw first.0 at (growth_looked _ _ _ c.gather-g.ensures.value_2)) ∙ looked_is c.requires.fact c.requires.stream_at c.args.new c.requires.value _ _ (many (goal.at.returns-then-not-g c).After-units_for-old) wanted in (n, omega (arith, n, length_most (volume_in c.args.v c.args.img.now) c.args.e.id.0 c.args.new)) in
    record { answer_value = too_few c.requires.fact c.requires.stream_at c.args.new c.requires.value _ _ (many (goal.at.returns-then-not-g c).After-units_for-old) wanted c.if-not-g.true answered; img_after = refl; wrote = c.gather-g.ensures.wrote; looked_value = looked'.0; looked_bound = looked'.1 }

pub resize-requires : goal.resize-requires
unfolding on_zero
resize-requires c =
    let listed : Readied c.args.v c.args.img.now c.gather-g.new.work = gathered_ready c.requires.fact.ready c.gather-g.ensures.wrote in
    let wanted : let a = c.args in c.units_for-need.result ≡ round_up a.new (space_at a.v a.img.now (kind_for (max a.e.size a.new))).unit = c.units_for-need.ensures ∙ ap (round_up c.args.new) (bytes_are (goal.at.resize-requires c).After-unit_bytes-bytes) in
    let first : let a = c.args in (kind_of c.start_unit-first.result ≡ kind_for (max a.e.size a.new)) × (number_in c.start_unit-first.result ≡ start ((volume_in a.v a.img.now).directory.entry a.e.id.0)) = let f = stream_start c.requires.fact c.requires.stream_at _ c.kind_for-kind.result c.place.ensures c.start_unit-first.ensures in (f.0 ∙ kind_is (goal.at.resize-requires c).After-kind_for-kind, f.1) in
    let mine : let a = c.args in let sp = space_at a.v a.img.now (kind_for (max a.e.size a.new)) in take c.units_for-old.result c.gather-g.new.work ≡ units sp.cell c.units_for-old.result (start ((volume_in a.v a.img.now).directory.entry a.e.id.0)) = let f = first in rw (f.0, f.1) at c.gather-g.ensures.work_after in
    let answered : let a = c.args in let sp = space_at a.v a.img.now (kind_for (max a.e.size a.new)) in let old = c.units_for-old.result in let need = c.units_for-need.result in c.gather-g.result.enough ≡ not (ltb (old + length (free_units sp)) need) = rw first.0 at (growth_enough _ _ _ c.gather-g.ensures.value_2) in
    let all : let a = c.args in let sp = space_at a.v a.img.now (kind_for (max a.e.size a.new)) in take c.units_for-need.result c.gather-g.new.work ≡ take c.units_for-need.result (units sp.cell c.units_for-old.result (start ((volume_in a.v a.img.now).directory.entry a.e.id.0)) ++ free_units sp) = let f = first in rw (f.0, f.1) at (c.gather-g.ensures.work_after_2 (not-false _ c.if-not-g.false)) in
    let enough : let a = c.args in let sp = space_at a.v a.img.now (kind_for (max a.e.size a.new)) in (ltb (c.units_for-old.result + length (free_units sp)) c.units_for-need.result ≡ false) × (0 ≡ length_answer (geometry_of a.v.tables.geometry) (volume_in a.v a.img.now) a.e.size a.new) = enough_free c.requires.fact c.requires.stream_at c.args.new c.requires.value _ _ (many (goal.at.resize-requires c).After-units_for-old) wanted c.if-not-g.false answered in
    record { fact = record { ready = listed; groups = c.requires.fact.groups }; stream_at = c.requires.stream_at; value = c.requires.value; size_nonzero = c.requires.size_nonzero; gathered = gathered c.requires.fact c.requires.stream_at c.args.new c.requires.value _ _ (many (goal.at.resize-requires c).After-units_for-old) wanted mine all enough.0 }

pub returns : goal.returns
unfolding on_zero
returns c =
    let wanted : let a = c.args in c.units_for-need.result ≡ round_up a.new (space_at a.v a.img.now (kind_for (max a.e.size a.new))).unit = c.units_for-need.ensures ∙ ap (round_up c.args.new) (bytes_are (goal.at.returns c).After-unit_bytes-bytes) in
    let first : let a = c.args in (kind_of c.start_unit-first.result ≡ kind_for (max a.e.size a.new)) × (number_in c.start_unit-first.result ≡ start ((volume_in a.v a.img.now).directory.entry a.e.id.0)) = let f = stream_start c.requires.fact c.requires.stream_at _ c.kind_for-kind.result c.place.ensures c.start_unit-first.ensures in (f.0 ∙ kind_is (goal.at.returns c).After-kind_for-kind, f.1) in
    let answered : let a = c.args in let sp = space_at a.v a.img.now (kind_for (max a.e.size a.new)) in let old = c.units_for-old.result in let need = c.units_for-need.result in c.gather-g.result.enough ≡ not (ltb (old + length (free_units sp)) need) = rw first.0 at (growth_enough _ _ _ c.gather-g.ensures.value_2) in
    let enough : let a = c.args in let sp = space_at a.v a.img.now (kind_for (max a.e.size a.new)) in (ltb (c.units_for-old.result + length (free_units sp)) c.units_for-need.result ≡ false) × (0 ≡ length_answer (geometry_of a.v.tables.geometry) (volume_in a.v a.img.now) a.e.size a.new) = enough_free c.requires.fact c.requires.stream_at c.args.new c.requires.value _ _ (many (goal.at.returns c).After-units_for-old) wanted c.if-not-g.false answered in
    let looked' : let a = c.args in let vol = volume_in a.v a.img.now in (c.gather-g.result.looked ≡ cells_looked (length_searches vol a.e.id.0 a.new)) × (c.gather-g.result.looked ≤ (space_for vol a.new).limit) = let n = (rw first.0 at (growth_looked _ _ _ c.gather-g.ensures.value_2)) ∙ looked_is c.requires.fact c.requires.stream_at c.args.new c.requires.value _ _ (many (goal.at.returns c).After-units_for-old) wanted in (n, omega (arith, n, length_most (volume_in c.args.v c.args.img.now) c.args.e.id.0 c.args.new)) in
    record { answer_value = enough.1; img_after = c.resize.ensures; wrote = c.gather-g.ensures.wrote; looked_value = looked'.0; looked_bound = looked'.1 }
