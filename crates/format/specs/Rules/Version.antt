-- The version of an image: the sizes by which its rules and every call on it go.
use Rattle.std.specs.Prelude.{cond, ◌&&◌, eqb, length}
use Rattle.format.specs.Basics.Bytes.{Bytes}
use Rattle.format.specs.Layout.Geometry.{Geometry, version3, version4}
use Rattle.format.specs.Layout.Header.{major_version}
use Rattle.format.specs.Layout.Volume.{Volume, volume}
use Rattle.format.specs.Rules.Length.{length_allowed}

-- Version 4 where the header says 4 and the length is one that version 3 allows; else version 3, whose group 10 refuses any other number.
unfoldable pub version_of : Bytes → Geometry
version_of img = cond (length_allowed version3 (length img) && eqb (major_version img) 4) version4 version3

-- an image read by its own version
abbrev pub own_volume : Bytes → Volume
own_volume img = volume (version_of img) img
