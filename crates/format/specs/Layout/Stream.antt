-- A stream: its size, the space it lies in, its units and its bytes.
use Rattle.std.specs.Prelude.{ℕ, cond, List, ltb, take}
use Rattle.format.specs.Basics.Bytes.{Bytes}
use Rattle.format.specs.Layout.Need.{cutoff}
use Rattle.format.specs.Layout.Space.{Space, units_for, block, laid}
use Rattle.format.specs.Layout.Entry.{start}
use Rattle.format.specs.Layout.Directory.{size_of}
use Rattle.format.specs.Layout.Volume.{Volume}

-- below the cutoff a stream lies in mini sectors, and else in sectors
unfoldable pub space_for : Volume → ℕ → Space
space_for v n = cond (ltb n cutoff) v.minis v.sectors

unfoldable pub stream_size : Volume → ℕ → ℕ
stream_size v i = size_of v.directory i

-- the units of entry i's stream, of whichever space they are
unfoldable pub stream_units : Volume → ℕ → List ℕ
stream_units v i = units_for (space_for v (stream_size v i)) (stream_size v i) (start (v.directory.entry i))

-- the bytes of entry i's stream: as many as its size says of what its units hold, laid end to end
unfoldable pub contents : Volume → Bytes → ℕ → Bytes
contents v img i = take (stream_size v i) (laid (block (space_for v (stream_size v i)) img) (stream_units v i))
