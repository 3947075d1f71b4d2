-- A listed stream: how long it is, and that its numbers are bytes.
use Prim.Native.Nat.{ℕ, ◌≤◌}
use mathlib.Core.Path.{◌≡◌, sym, ◌∙◌}
use mathlib.Core.List.{List}
use native.Mathlib.Omega.{arith}
use lib.ListN.{length}
use Rattle.format.specs.Basics.Bytes.{Bytes}
use Rattle.format.specs.Layout.Stream.{contents}
use Rattle.format.specs.Rules.Version.{version_of, own_volume}
use Rattle.frame.proofs.Final.{frame, own_sized}
use Rattle.frame.proofs.Good.{accepted_good}
use Rattle.frame.proofs.Bounds.{stream_short}
use Rattle.history.proofs.Filled.{frame_sized, length_contents}
use Rattle.volume.specs.declared.Volume.{Volume}
use Rattle.queries.specs.Streams.{StreamAt}
use Rattle.queries.specs.declared.find.Object.{Object}
use Rattle.opened.specs.OpenVolume.{OpenVolume}
use Rattle.opened.proofs.Calls.{opened_accepted}

module _ {v : Volume} {img : Bytes} {w : List ℕ} (o : OpenVolume v img w) {e : Object} (t : StreamAt (own_volume img) e) where
  -- it has the bytes of its size
  pub stream_long : length (contents (own_volume img) img e.id.0) ≡ e.size
  stream_long =
      let g = version_of img in
      let acc = opened_accepted o in
      let good = accepted_good g img (let w = (own_sized img).wide in omega arith) acc in
      length_contents (own_volume img) img good (frame_sized (frame g (own_sized img)) img acc) e.id.0 t.inside t.stream ∙ sym t.sized

  pub stream_few : e.size ≤ 0x400_0000
  stream_few = omega (arith, t.sized, stream_short (version_of img) (own_sized img) img (opened_accepted o) e.id.0 t.inside t.stream)
