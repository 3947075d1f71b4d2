-- A stream of a volume, looked up by a path or by its number.
use Rattle.std.specs.Prelude.{◌<◌, ◌≡◌, true}
use Rattle.format.specs.Layout.Entry.{is_stream}
use Rattle.format.specs.Layout.Volume.{Volume}
use Rattle.format.specs.Layout.Stream.{stream_size}
use Rattle.queries.specs.declared.find.Object.{Object}

pub record StreamAt (vol : Volume) (e : Object) : Type 0 where
  pub inside : e.id.0 < vol.directory.count
  pub stream : is_stream (vol.directory.entry e.id.0) ≡ true
  pub sized : e.size ≡ stream_size vol e.id.0
