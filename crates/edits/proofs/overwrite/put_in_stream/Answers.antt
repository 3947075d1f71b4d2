use borrow.Author.Rules.{rules}
use Prim.Native.Nat.{◌≤◌}
use mathlib.Core.Path.{◌≡◌, ◌∙◌, ap}
use native.Mathlib.Omega.{arith}
use lib.ListN.{length, take}
use Rattle.format.specs.Layout.Need.{round_up}
use Rattle.format.specs.Layout.Chain.{units}
use Rattle.format.specs.Layout.Entry.{start}
use Rattle.tables.specs.Work.{Wrote}
use Rattle.volume.specs.Opened.{Readied}
use Rattle.spaces.specs.Spaces.{kind_for, volume_in, space_at, unit_bytes}
use Rattle.spaces.specs.Units.{kind_of, number_in}
use Rattle.spaces.proofs.Listed.{unit_same, unit_many}
use Rattle.unitlists.proofs.Limits.{limit_work}
use Rattle.queries.proofs.Streams.{stream_start, stream_placed, stream_room}
use Rattle.edits.proofs.Gathering.{gathered_wrote, gathered_ready, old_short}
use Rattle.edits.proofs.Overwrites.{over_chain, over_writable, over_room, over_written}
use Rattle.edits.proofs.overwrite.put_in_stream.Goals as goal

pub units_for-n-requires : goal.units_for-n-requires
units_for-n-requires c = rw c.unit_bytes.ensures (unit_many c.requires.fact.ready c.kind_for-kind.result)

pub place-requires : goal.place-requires
place-requires c = stream_placed c.requires.fact c.requires.stream_at

pub start_unit-first-requires : goal.start_unit-first-requires
start_unit-first-requires c = stream_room c.requires.fact c.requires.stream_at _ c.place.ensures

pub list_units-requires : goal.list_units-requires
list_units-requires c =
    let many : let a = c.args in c.units_for-n.result ≡ round_up a.e.size (space_at a.v a.img.now (kind_for a.e.size)).unit = c.units_for-n.ensures ∙ ap (round_up c.args.e.size) (c.unit_bytes.ensures ∙ ap (unit_bytes c.args.v) c.kind_for-kind.ensures ∙ unit_same c.requires.fact.ready (kind_for c.args.e.size)) in
    let first : let a = c.args in (kind_of c.start_unit-first.result ≡ kind_for a.e.size) × (number_in c.start_unit-first.result ≡ start ((volume_in a.v a.img.now).directory.entry a.e.id.0)) = let f = stream_start c.requires.fact c.requires.stream_at _ c.kind_for-kind.result c.place.ensures c.start_unit-first.ensures in (f.0 ∙ c.kind_for-kind.ensures, f.1) in
    let f = first in record { readied = c.requires.fact.ready; n_value = rw (f.0, f.1) (over_chain c.requires.fact c.requires.stream_at _ many) }

pub put_bytes-requires : goal.put_bytes-requires
put_bytes-requires c =
    let many : let a = c.args in c.units_for-n.result ≡ round_up a.e.size (space_at a.v a.img.now (kind_for a.e.size)).unit = c.units_for-n.ensures ∙ ap (round_up c.args.e.size) (c.unit_bytes.ensures ∙ ap (unit_bytes c.args.v) c.kind_for-kind.ensures ∙ unit_same c.requires.fact.ready (kind_for c.args.e.size)) in
    let few : let a = c.args in c.units_for-n.result ≤ (space_at a.v a.img.now (kind_for a.e.size)).limit = old_short c.requires.fact.ready (kind_for c.args.e.size) _ _ (over_chain c.requires.fact c.requires.stream_at _ many) in
    let wrote' : Wrote c.args.work.now c.list_units.new.work 0 c.args.v.stream = gathered_wrote c.requires.fact.ready (kind_for c.args.e.size) _ few c.list_units.ensures.wrote in
    let listed : Readied c.args.v c.args.img.now c.list_units.new.work = gathered_ready c.requires.fact.ready wrote' in
    let within : c.units_for-n.result ≤ length c.list_units.new.work = let l = listed in omega (arith, few, limit_work l (kind_for c.args.e.size)) in
    let first : let a = c.args in (kind_of c.start_unit-first.result ≡ kind_for a.e.size) × (number_in c.start_unit-first.result ≡ start ((volume_in a.v a.img.now).directory.entry a.e.id.0)) = let f = stream_start c.requires.fact c.requires.stream_at _ c.kind_for-kind.result c.place.ensures c.start_unit-first.ensures in (f.0 ∙ c.kind_for-kind.ensures, f.1) in
    let own : let a = c.args in take c.units_for-n.result c.list_units.new.work ≡ units (space_at a.v a.img.now (kind_for a.e.size)).cell c.units_for-n.result (start ((volume_in a.v a.img.now).directory.entry a.e.id.0)) = let f = first in rw (f.0, f.1) at c.list_units.ensures.work_after in
    rw c.kind_for-kind.ensures (record { writable = over_writable c.requires.fact c.requires.stream_at _ many listed own within; bytes_bound = over_room c.requires.fact c.requires.stream_at _ many listed own within _ _ c.requires.bytes_bound })

pub returns : goal.returns
returns c =
    let many : let a = c.args in c.units_for-n.result ≡ round_up a.e.size (space_at a.v a.img.now (kind_for a.e.size)).unit = c.units_for-n.ensures ∙ ap (round_up c.args.e.size) (c.unit_bytes.ensures ∙ ap (unit_bytes c.args.v) c.kind_for-kind.ensures ∙ unit_same c.requires.fact.ready (kind_for c.args.e.size)) in
    let few : let a = c.args in c.units_for-n.result ≤ (space_at a.v a.img.now (kind_for a.e.size)).limit = old_short c.requires.fact.ready (kind_for c.args.e.size) _ _ (over_chain c.requires.fact c.requires.stream_at _ many) in
    let wrote' : Wrote c.args.work.now c.list_units.new.work 0 c.args.v.stream = gathered_wrote c.requires.fact.ready (kind_for c.args.e.size) _ few c.list_units.ensures.wrote in
    let listed : Readied c.args.v c.args.img.now c.list_units.new.work = gathered_ready c.requires.fact.ready wrote' in
    let within : c.units_for-n.result ≤ length c.list_units.new.work = let l = listed in omega (arith, few, limit_work l (kind_for c.args.e.size)) in
    let first : let a = c.args in (kind_of c.start_unit-first.result ≡ kind_for a.e.size) × (number_in c.start_unit-first.result ≡ start ((volume_in a.v a.img.now).directory.entry a.e.id.0)) = let f = stream_start c.requires.fact c.requires.stream_at _ c.kind_for-kind.result c.place.ensures c.start_unit-first.ensures in (f.0 ∙ c.kind_for-kind.ensures, f.1) in
    let own : let a = c.args in take c.units_for-n.result c.list_units.new.work ≡ units (space_at a.v a.img.now (kind_for a.e.size)).cell c.units_for-n.result (start ((volume_in a.v a.img.now).directory.entry a.e.id.0)) = let f = first in rw (f.0, f.1) at c.list_units.ensures.work_after in
    record { img_after = c.put_bytes.ensures ∙ rw c.kind_for-kind.ensures (over_written c.requires.fact c.requires.stream_at _ many listed own within _ _ c.requires.bytes_bound); wrote = wrote' }
