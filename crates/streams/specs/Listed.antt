-- A stream of an opened volume whose units stand listed at the start of the work buffer.
use Rattle.std.specs.Prelude.{ℕ, ◌≡◌, List, length, take}
use Rattle.format.specs.Basics.Bytes.{Bytes}
use Rattle.format.specs.Layout.Stream.{stream_units}
use Rattle.format.specs.Rules.Version.{own_volume}
use Rattle.volume.specs.declared.Volume.{Volume}
use Rattle.queries.specs.Streams.{StreamAt}
use Rattle.queries.specs.declared.find.Object.{Object}
use Rattle.opened.specs.OpenVolume.{OpenVolume}

pub record OpenStream (v : Volume) (img : Bytes) (work : List ℕ) (e : Object) : Type 0 where
  pub opened : OpenVolume v img work
  pub stream : StreamAt (own_volume img) e
  pub units : let us = stream_units (own_volume img) e.id.0 in take (length us) work ≡ us
