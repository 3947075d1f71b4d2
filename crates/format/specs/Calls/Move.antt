-- A length change across the cutoff: the stream moves from one space to the other.
use Rattle.std.specs.Prelude.{ℕ, cond, take}
use Rattle.format.specs.Basics.Bytes.{Bytes}
use Rattle.format.specs.Layout.Geometry.{Geometry}
use Rattle.format.specs.Layout.Volume.{Volume, volume}
use Rattle.format.specs.Layout.Stream.{stream_size, contents}
use Rattle.format.specs.Calls.Overwrite.{overwritten}
use Rattle.format.specs.Calls.SetLength.{crosses, resized}

-- The stream is cut to 0, it grows, and the bytes that it keeps are put in. The units released are of the other space, so the growth
-- cannot take them; it leaves zeros after the kept bytes, to the end of the chain.
unfoldable pub moved : Geometry → Bytes → ℕ → ℕ → Bytes
moved g img e new =
    let kept = take new (contents (volume g img) img e) in
    let cut = resized (volume g img) img e 0 in
    let grown = resized (volume g cut) cut e new in
    overwritten (volume g grown) grown e 0 kept

-- any change of length
unfoldable pub length_changed : Volume → Bytes → ℕ → ℕ → Bytes
length_changed v img e new = cond (crosses (stream_size v e) new) (moved v.geometry img e new) (resized v img e new)
