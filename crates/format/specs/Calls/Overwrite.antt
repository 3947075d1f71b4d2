-- What an overwrite leaves in the image.
use Rattle.std.specs.Prelude.{ℕ, suc, ◌+◌, ◌/◌, ◌%◌, List, [], ◌∷◌, get_or, set}
use Rattle.format.specs.Basics.Bytes.{Bytes}
use Rattle.format.specs.Layout.Space.{Space}
use Rattle.format.specs.Layout.Volume.{Volume}
use Rattle.format.specs.Layout.Stream.{space_for, stream_size, stream_units}

-- the byte of the image that is byte i of what these units hold, laid end to end
unfoldable pub byte_place : Space → List ℕ → ℕ → ℕ
byte_place sp us i = sp.unit_place (get_or us (i / sp.unit) 0) + i % sp.unit

-- bytes put into the units from byte i on
unfoldable pub put_chain : Space → List ℕ → Bytes → ℕ → Bytes → Bytes
put_chain sp us img i [] = img
put_chain sp us img i (x ∷ xs) = put_chain sp us (set img (byte_place sp us i) x) (suc i) xs

-- the stream's bytes from the offset on, and no others
unfoldable pub overwritten : Volume → Bytes → ℕ → ℕ → Bytes → Bytes
overwritten v img e offset bytes = put_chain (space_for v (stream_size v e)) (stream_units v e) img offset bytes
