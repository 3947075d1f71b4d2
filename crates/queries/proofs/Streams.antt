-- A stream that was looked up: its entry has a place in the image, and starts where the volume says.
use Prim.Native.Nat.{ℕ, ◌+◌, ◌≤◌, ◌<◌}
use mathlib.Core.Path.{◌≡◌, sym, ◌∙◌, ap, subst}
use mathlib.Core.Logic.{◌≢◌}
use mathlib.Core.Bool.{false}
use mathlib.Core.List.{List}
use native.Mathlib.Omega.{arith}
use lib.ListN.{length}
use borrow.Author.Tests.{eq-eqb, ne_eqb}
use Rattle.format.specs.Basics.Bytes.{Bytes}
use Rattle.format.specs.Layout.Entry.{kind, is_stream, start}
use Rattle.format.specs.Layout.Volume.{Volume}
use Rattle.format.specs.Layout.Stream.{stream_size}
use Rattle.entries.specs.Entry.{entry_at}
use Rattle.directory.specs.Listed.{entries_of, place_of, Placed}
use Rattle.directory.proofs.Places.{placed, place_inside}
use Rattle.system_chains.proofs.SystemLaws.{entry_read}
use Rattle.volume.specs.declared.Volume.{Volume as Opened}
use Rattle.spaces.specs.Spaces.{volume_in}
use Rattle.spaces.specs.Units.{kind_of, number_in, unit_of}
use Rattle.spaces.specs.declared.Kind.{Kind}
use Rattle.spaces.specs.declared.Unit.{Unit}
use Rattle.spaces.proofs.Units.{unit_as}
use Rattle.queries.specs.Inside.{Open, ObjectOf}
use Rattle.queries.specs.Streams.{StreamAt}
use Rattle.queries.specs.declared.find.Object.{Object}
use Rattle.queries.proofs.Finds.{same_entries, find_asks}

-- ---- by its type

module _ (vol : Volume) (e : Object) (h : ObjectOf vol e) where
  pub object_stream : e.entry_type.0 ≡ 2 → StreamAt vol e
  unfolding stream_size
  object_stream k = record { inside = h.0; stream = eq-eqb (kind (vol.directory.entry e.id.0)) 2 (sym h.1.0 ∙ k); sized = h.1.1 }

  pub object_other : e.entry_type.0 ≢ 2 → is_stream (vol.directory.entry e.id.0) ≡ false
  object_other k = ne_eqb (kind (vol.directory.entry e.id.0)) 2 (λ z. k (h.1.0 ∙ z))

-- ---- where it stands

module _ {v : Opened} {img : Bytes} {w : List ℕ} (o : Open v img w) {e : Object} (s : StreamAt (volume_in v img) e) where
  pub entry_inside : e.id.0 < (entries_of v.directory img).count
  entry_inside = subst (λ d. e.id.0 < d.count) (sym (same_entries o)) s.inside

  pub stream_placed : Placed v.directory w e.id.0
  stream_placed = placed (find_asks o).0 e.id.0 entry_inside

  pub stream_room : (p : ℕ) → p ≡ place_of v.directory w e.id.0 → p + 128 ≤ length img
  stream_room p h = omega (arith, h, place_inside (find_asks o).0 e.id.0 entry_inside)

  pub stream_start : (p : ℕ) (k : Kind) {u : Unit} → p ≡ place_of v.directory w e.id.0 → u ≡ unit_of k (start (entry_at img p))
      → (kind_of u ≡ k) × (number_in u ≡ start ((volume_in v img).directory.entry e.id.0))
  stream_start p k h q =
      let f = unit_as k (start (entry_at img p)) q in
      (f.0, f.1 ∙ ap start (entry_read v.tables.geometry e.id.0 p (find_asks o).0 o.ready.lists.mini.same entry_inside h))
