-- A stream that is looked for: a read from its start on is refused as the path is, and for no other reason.
use Prim.Native.Nat.{ℕ}
use mathlib.Core.Path.{◌≡◌, sym, ◌∙◌}
use mathlib.Core.List.{List, []}
use Rattle.std.specs.Prelude.{Ok, Err}
use native.Mathlib.Omega.{arith}
use borrow.Author.Tests.{le-ltb}
use lib.ListN.{length}
use Rattle.format.specs.Basics.Bytes.{Bytes}
use Rattle.format.specs.Layout.Geometry.{Geometry}
use Rattle.format.specs.Layout.Volume.{Volume}
use Rattle.format.specs.Layout.Stream.{stream_size}
use Rattle.format.specs.Rules.Version.{version_of, own_volume}
use Rattle.format.specs.Calls.Paths.{Path}
use Rattle.format.specs.Calls.Call.{read, work_of}
use Rattle.format.specs.Calls.Answer.{target, target_answer, beyond, answer_in, answer}
use Rattle.kinds.specs.Numbers.{refusal_number}
use Rattle.kinds.specs.declared.Refusal.{Refusal}
use Rattle.volume.specs.declared.Volume.{Volume as Opened}
use Rattle.spaces.specs.Spaces.{volume_in}
use Rattle.queries.specs.Streams.{StreamAt}
use Rattle.queries.specs.declared.find.Object.{Object}
use Rattle.opened.specs.OpenVolume.{OpenVolume}
use Rattle.opened.proofs.Validated.{first_alone}
use Rattle.opened.proofs.Inside.{answer_in_lem}
use Rattle.opened.proofs.Calls.{opened_zero}
use Rattle.streams.specs.Found.{StreamFound}

from_start : (g : Geometry) (v : Volume) (path : Path) (work : List ℕ) → answer_in g v (read path 0 [] work) ≡ target_answer v path
unfolding answer_in beyond
from_start g v path work = rw (le-ltb (stream_size v (target v path)) 0 (omega arith)) (first_alone (target_answer v path))

module _ {v : Opened} {img : Bytes} {w : List ℕ} (s : OpenVolume v img w) (path : Path) where
  answer_is : answer (version_of img) img (read path 0 [] w) ≡ target_answer (own_volume img) path
  unfolding work_of
  answer_is = answer_in_lem (version_of img) img (read path 0 [] w) (opened_zero s (length w) s.room) ∙ from_start (version_of img) (own_volume img) path w

  pub stream_refused : (a : Refusal) → target_answer (volume_in v img) path ≡ refusal_number a → StreamFound img path w (Err a)
  stream_refused a h = answer_is ∙ (rw s.version at h)

  pub stream_found_lem : (e : Object) → StreamAt (volume_in v img) e → (target_answer (volume_in v img) path ≡ 0) × (target (volume_in v img) path ≡ e.id.0)
      → StreamFound img path w (Ok e)
  stream_found_lem e t h =
      let k : (target_answer (own_volume img) path ≡ 0) × (target (own_volume img) path ≡ e.id.0) = rw s.version at h in
      (answer_is ∙ k.0, (rw s.version at t, sym k.1))
