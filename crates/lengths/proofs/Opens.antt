-- An opened volume: what the laws of the history ask of it, and that it stays open after an edit.
use Prim.Native.Nat.{ℕ}
use mathlib.Core.List.{List}
use native.Mathlib.Omega.{arith}
use Rattle.format.specs.Basics.Bytes.{Bytes}
use Rattle.format.specs.Layout.Geometry.{Geometry}
use Rattle.format.specs.Rules.Verdict.{Accepted}
use Rattle.frame.specs.Edits.{Preserved}
use Rattle.frame.specs.Frame.{Frame}
use Rattle.frame.specs.Kept.{Sized}
use Rattle.frame.proofs.Accepted.{accepted_kept, kept_accepted}
use Rattle.frame.proofs.Final.{frame}
use Rattle.kinds.specs.Sizes.{geometry_of}
use Rattle.tables.specs.Work.{Wrote}
use Rattle.volume.specs.declared.Volume.{Volume as Opened}
use Rattle.volume.proofs.ListsKept.{ready_kept}
use Rattle.queries.specs.Inside.{Open}
use Rattle.lengths.proofs.Kept.{readied_after}

module _ {v : Opened} {img : Bytes} {w : List ℕ} (o : Open v img w) where
  abbrev g : Geometry
  g = geometry_of v.tables.geometry

  open_sized : Sized g
  open_sized = let i = o.ready.lists.mini.fat.sized in record { wide = i.wide; even = i.even }

  pub open_frame : Frame g
  open_frame = frame g open_sized

  pub open_accepted : Accepted g img
  open_accepted = kept_accepted g img o.groups

-- an edit leaves an opened volume open
pub open_after : {v : Opened} {img img' : Bytes} {w w₁ : List ℕ} → Open v img w → Preserved (geometry_of v.tables.geometry) img img' → Accepted (geometry_of v.tables.geometry) img'
    → Wrote w w₁ 0 v.stream → Open v img' w₁
open_after {v} {img' = img'} o k a y =
    let j = accepted_kept (geometry_of v.tables.geometry) img' a in
    record { ready = readied_after k j (ready_kept y (omega arith) o.ready); groups = j }
