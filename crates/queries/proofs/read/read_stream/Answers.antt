use borrow.Author.Rules.{rules}
use mathlib.Core.Path.{◌≡◌, ◌∙◌, ap}
use native.Mathlib.Omega.{arith}
use lib.ListN.{length}
use Rattle.format.specs.Basics.Bytes.{part}
use Rattle.format.specs.Layout.Entry.{start}
use Rattle.spaces.specs.Spaces.{kind_for, volume_in}
use Rattle.spaces.specs.Units.{kind_of, number_in}
use Rattle.queries.proofs.Streams.{stream_placed, stream_room, stream_start}
use Rattle.queries.proofs.StreamBytes.{kind_bytes, kind_chain}
use Rattle.queries.proofs.read.read_stream.Goals as goal

pub place-requires : goal.place-requires
place-requires c = stream_placed c.requires.fact c.requires.stream_at

pub start_unit-first-requires : goal.start_unit-first-requires
start_unit-first-requires c = stream_room c.requires.fact c.requires.stream_at _ c.place.ensures

pub read_units-requires : goal.read_units-requires
read_units-requires c =
    let first : let a = c.args in (kind_of c.start_unit-first.result ≡ kind_for a.e.size) × (number_in c.start_unit-first.result ≡ start ((volume_in a.v a.img.now).directory.entry a.e.id.0)) = let f = stream_start c.requires.fact c.requires.stream_at _ c.kind_for.result c.place.ensures c.start_unit-first.ensures in (f.0 ∙ c.kind_for.ensures, f.1) in
    let f = first in
    let s = c.requires.stream_at in record { readied = c.requires.fact.ready; start_value = rw f.0 (kind_chain _ _ c.args.e.id.0 _ _ s.sized f.1 c.requires.fact.groups.volume.chains s.inside s.stream); out_bound = omega (arith, c.requires.out_bound) }

pub returns : goal.returns
returns c =
    let first : let a = c.args in (kind_of c.start_unit-first.result ≡ kind_for a.e.size) × (number_in c.start_unit-first.result ≡ start ((volume_in a.v a.img.now).directory.entry a.e.id.0)) = let f = stream_start c.requires.fact c.requires.stream_at _ c.kind_for.result c.place.ensures c.start_unit-first.ensures in (f.0 ∙ c.kind_for.ensures, f.1) in
    let f = first in
    c.read_units.ensures
    ∙ ap (λ l. part l c.args.offset (length c.args.out.now)) (rw f.0 (kind_bytes _ _ c.args.e.id.0 _ _ c.requires.stream_at.sized f.1))
