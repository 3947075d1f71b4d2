-- All that the history uses of the bytes: what holds of every unit of an accepted image, and what the edits do.
use Rattle.std.specs.Prelude.{ℕ, ◌<◌, max, ◌≡◌, length}
use Rattle.format.specs.Basics.Bytes.{Bytes}
use Rattle.format.specs.Layout.Geometry.{Geometry}
use Rattle.format.specs.Layout.Space.{block}
use Rattle.format.specs.Layout.Volume.{volume}
use Rattle.format.specs.Layout.Stream.{stream_size}
use Rattle.format.specs.Layout.Name.{Name}
use Rattle.format.specs.Layout.Entry.{NOSTREAM}
use Rattle.format.specs.Layout.Tree.{Forest}
use Rattle.format.specs.Layout.Siblings.{Slot}
use Rattle.format.specs.Rules.Verdict.{Accepted}
use Rattle.format.specs.Calls.SetLength.{resized}
use Rattle.format.specs.Calls.Overwrite.{overwritten}
use Rattle.format.specs.Calls.Create.{NewKind, entry_created}
use Rattle.format.specs.Calls.Remove.{entry_removed_at}
use Rattle.frame.specs.Edits.{MayResize, IsResized, MayWrite, IsWritten}
use Rattle.frame.specs.Redraw.{MayAdd, IsAdded, MayErase, IsErased}

pub record Frame (g : Geometry) : Type 0 where
  -- every unit of an accepted image lies whole in the image
  pub sector_sized : (img : Bytes) → Accepted g img → (u : ℕ) → u < (volume g img).sectors.limit
      → length (block (volume g img).sectors img u) ≡ (volume g img).sectors.unit
  pub mini_sized : (img : Bytes) → Accepted g img → (u : ℕ) → u < (volume g img).minis.limit
      → length (block (volume g img).minis img u) ≡ (volume g img).minis.unit
  pub resizing : (img : Bytes) (e new : ℕ) → MayResize g img e new
      → IsResized g img e new (max (stream_size (volume g img) e) new) (resized (volume g img) img e new)
  pub writing : (img : Bytes) (e offset : ℕ) (bytes : Bytes) → MayWrite g img e offset bytes
      → IsWritten g img e offset bytes (overwritten (volume g img) img e offset bytes)
  -- every entry of an accepted image is whole, and no number of one is NOSTREAM
  pub entry_long : (img : Bytes) → Accepted g img → (y : ℕ) → y < (volume g img).directory.count → length ((volume g img).directory.entry y) ≡ 128
  pub entries_few : (img : Bytes) → Accepted g img → (volume g img).directory.count < NOSTREAM
  pub adding : (img : Bytes) (made : NewKind) (n : Name) (h : Slot) (x : ℕ) → MayAdd g img h x
      → IsAdded g img made n h x (entry_created (volume g img) img made n h x)
  pub erasing : (img : Bytes) (s : ℕ) (t : Forest) (x : ℕ) → MayErase g img s t x → IsErased g img s t x (entry_removed_at (volume g img) img s t x)
