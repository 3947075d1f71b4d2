use borrow.Author.Rules.{rules}
use mathlib.Core.Path.{◌≡◌, ◌∙◌, ap}
use Rattle.format.specs.Layout.Need.{round_up}
use Rattle.spaces.specs.Spaces.{kind_for, space_at, unit_bytes}
use Rattle.spaces.specs.Units.{kind_of, number_in}
use Rattle.spaces.proofs.Listed.{unit_same, unit_many}
use Rattle.queries.proofs.Streams.{stream_start, stream_placed, stream_room}
use Rattle.edits.proofs.Overwrites.{over_chain}
use Rattle.streams.proofs.Listing.{start_in, own_stream, stream_listed}
use Rattle.streams.proofs.open_stream.Goals as goal

pub units_for-n-requires : goal.units_for-n-requires
units_for-n-requires c = rw c.unit_bytes.ensures (unit_many c.requires.open_volume.opened.ready c.kind_for-kind.result)

pub place-requires : goal.place-requires
place-requires c = stream_placed c.requires.open_volume.opened (own_stream c.requires.open_volume c.requires.stream_at)

pub start_unit-first-requires : goal.start_unit-first-requires
start_unit-first-requires c = stream_room c.requires.open_volume.opened (own_stream c.requires.open_volume c.requires.stream_at) _ c.place.ensures

pub list_units-requires : goal.list_units-requires
list_units-requires c =
    let many : let a = c.args in c.units_for-n.result ≡ round_up a.e.size (space_at a.v a.image.now (kind_for a.e.size)).unit = c.units_for-n.ensures ∙ ap (round_up c.args.e.size) (c.unit_bytes.ensures ∙ ap (unit_bytes c.args.v) c.kind_for-kind.ensures ∙ unit_same c.requires.open_volume.opened.ready (kind_for c.args.e.size)) in
    let first : let a = c.args in (kind_of c.start_unit-first.result ≡ kind_for a.e.size) × (number_in c.start_unit-first.result ≡ start_in a.v a.image.now a.e) = let f = stream_start c.requires.open_volume.opened (own_stream c.requires.open_volume c.requires.stream_at) _ c.kind_for-kind.result c.place.ensures c.start_unit-first.ensures in (f.0 ∙ c.kind_for-kind.ensures, f.1) in
    let f = first in record { readied = c.requires.open_volume.opened.ready; n_value = rw (f.0, f.1) (over_chain c.requires.open_volume.opened (own_stream c.requires.open_volume c.requires.stream_at) _ many) }

pub returns : goal.returns
returns c =
    let many : let a = c.args in c.units_for-n.result ≡ round_up a.e.size (space_at a.v a.image.now (kind_for a.e.size)).unit = c.units_for-n.ensures ∙ ap (round_up c.args.e.size) (c.unit_bytes.ensures ∙ ap (unit_bytes c.args.v) c.kind_for-kind.ensures ∙ unit_same c.requires.open_volume.opened.ready (kind_for c.args.e.size)) in
    let first : let a = c.args in (kind_of c.start_unit-first.result ≡ kind_for a.e.size) × (number_in c.start_unit-first.result ≡ start_in a.v a.image.now a.e) = let f = stream_start c.requires.open_volume.opened (own_stream c.requires.open_volume c.requires.stream_at) _ c.kind_for-kind.result c.place.ensures c.start_unit-first.ensures in (f.0 ∙ c.kind_for-kind.ensures, f.1) in
    let f = first in let r = stream_listed c.requires.open_volume c.requires.stream_at _ many (rw (f.0, f.1) at c.list_units.ensures.work_after) c.list_units.ensures.wrote in record { open_stream = r.0; wrote = r.1 }
