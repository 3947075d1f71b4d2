-- Between the two steps of a removal: a stream's units are given back, the volume is still open, and the path leads where it led.
use Prim.Native.Nat.{ℕ, ◌≤◌, ◌<◌}
use mathlib.Core.Path.{◌≡◌, refl, sym, ap, ◌∙◌, subst}
use mathlib.Core.Logic.{◌≢◌}
use mathlib.Core.Bool.{Bool, true, false, not, cond, ◌&&◌}
use mathlib.Core.List.{List, []}
use native.Mathlib.Omega.{arith}
use lib.Dec.{eqb}
use lib.ListN.{length}
use borrow.Author.Tests.{eqb-true, eq-eqb}
use Rattle.std.proofs.Common.{Err}
use Rattle.format.specs.Basics.Bytes.{Bytes}
use Rattle.format.specs.Layout.Geometry.{Geometry}
use Rattle.format.specs.Layout.Entry.{NOSTREAM, kind, is_stream}
use Rattle.format.specs.Layout.Space.{free_units}
use Rattle.format.specs.Layout.Directory.{Directory, size_of}
use Rattle.format.specs.Layout.Tree.{empty}
use Rattle.format.specs.Layout.Volume.{Volume, volume}
use Rattle.format.specs.Layout.Stream.{stream_size}
use Rattle.format.specs.Rules.Verdict.{Accepted}
use Rattle.format.specs.Calls.Paths.{Path}
use Rattle.format.specs.Calls.Find.{resolve, entry_of, at as found_at}
use Rattle.format.specs.Calls.Call.{remove}
use Rattle.format.specs.Calls.SetLength.{crosses, resized}
use Rattle.format.specs.Calls.Remove.{entry_removed, cut_to_zero, object_removed}
use Rattle.format.specs.Calls.Answer.{length_answer, remove_answer, answer_in}
use Rattle.format.specs.Calls.Reply.{on_zero}
use Rattle.format.specs.Calls.Buffers.{edited}
use Rattle.theory.specs.TreeViews.{rows, child_of}
use Rattle.theory.specs.TreeFind.{reached}
use Rattle.theory.proofs.Tests.{both, clash}
use Rattle.theory.proofs.Trees.Grow.{grow_none}
use Rattle.frame.proofs.RemovedPath.{may_remove_lem}
use Rattle.history.specs.Alike.{Alike}
use Rattle.history.specs.Step.{Cut}
use Rattle.history.proofs.SamePaths.{resolve_same}
use Rattle.history.proofs.LengthStep.{resized_same}
use Rattle.history.proofs.Moving.{cut_within}
use Rattle.history.proofs.RemoveStep.{cut_room, cut_left}
use Rattle.kinds.specs.Sizes.{geometry_of}
use Rattle.kinds.specs.Numbers.{refusal_number}
use Rattle.kinds.specs.declared.EntryId.{EntryId}
use Rattle.kinds.specs.declared.Refusal.{Refusal}
use Rattle.tables.specs.Work.{Wrote}
use Rattle.directory.specs.Listed.{count_of, entries_of, DirectoryListed}
use Rattle.directory.proofs.Places.{count_most}
use Rattle.volume.specs.declared.Volume.{Volume as Opened}
use Rattle.spaces.specs.Spaces.{volume_in}
use Rattle.queries.specs.declared.find.Object.{Object}
use Rattle.queries.specs.Inside.{Open, image_in}
use Rattle.queries.specs.Streams.{StreamAt}
use Rattle.queries.proofs.Finds.{same_entries, find_asks}
use Rattle.queries.proofs.Lists.{list_asks}
use Rattle.edits.proofs.Streams.{bytes_some}
use Rattle.edits.proofs.Targets.{image_refused, image_done}
use Rattle.lengths.proofs.Opens.{open_frame, open_accepted, open_after}
use Rattle.removal.specs.Leads.{LeadsTo, RemovableAt, RemovalRight}
use Rattle.removal.proofs.Parents.{entry_same}

-- ---- the units

module _ (v : Volume) (img : Bytes) (x : ℕ) where
  -- what is no stream has none
  no_stream : is_stream (v.directory.entry x) ≡ false → img ≡ cut_to_zero v img x
  unfolding cut_to_zero
  no_stream s = rw s

  -- and a stream of no bytes
  no_bytes : stream_size v x ≡ 0 → img ≡ cut_to_zero v img x
  unfolding cut_to_zero
  no_bytes z = go (is_stream (v.directory.entry x))
    where
      go : (t : Bool) → img ≡ cond t (resized v img x 0) img
      go true = sym (resized_same v img x 0 (sym z))
      go false = refl

  -- nothing needs no room, so a cut is not refused
  units_released : (g : Geometry) (size a : ℕ) (after : Bytes) → is_stream (v.directory.entry x) ≡ true → a ≡ length_answer g v size 0
      → after ≡ on_zero a (resized v img x 0) img → after ≡ cut_to_zero v img x
  unfolding cut_to_zero length_answer on_zero
  units_released g size a after s i j =
      let z : a ≡ 0 = i ∙ rw (cut_room g (length (free_units v.sectors)) (length (free_units v.minis)) size) in
      j ∙ rw (z, s)

-- what the code reads of an entry
module _ {v : Opened} {img : Bytes} {w : List ℕ} (o : Open v img w) (x : ℕ) (h : x < (volume_in v img).directory.count) where
  pub entry_asks : DirectoryListed v.directory img w × (x < (entries_of v.directory img).count)
  entry_asks = ((find_asks o).0, subst (λ (d : Directory). x < d.count) (sym (same_entries o)) h)

  module _ (y : Object) (i : y.id.0 ≡ x) (t : y.entry_type.0 ≡ kind ((entries_of v.directory img).entry x)) (s : y.size ≡ size_of (entries_of v.directory img) x) where
    type_is : is_stream ((volume_in v img).directory.entry x) ≡ eqb y.entry_type.0 2
    type_is = ap (λ (d : Directory). eqb (kind (d.entry x)) 2) (sym (same_entries o)) ∙ ap (λ (k : ℕ). eqb k 2) (sym t)

    size_is : y.size ≡ stream_size (volume_in v img) x
    unfolding stream_size size_of
    size_is = s ∙ ap (λ (d : Directory). size_of d x) (same_entries o)

    stream_at : eqb y.entry_type.0 2 ≡ true → StreamAt (volume_in v img) y
    stream_at k =
        subst (λ (j : ℕ). StreamAt (volume_in v img) (record { id = record { 0 = j }; entry_type = y.entry_type; size = y.size })) (sym i)
        (record { inside = h; stream = type_is ∙ k; sized = size_is })

    -- a stream of some bytes is cut
    pub cut_asks : (eqb y.entry_type.0 2 && not (eqb y.size 0)) ≡ true → Open v img w × (StreamAt (volume_in v img) y × ((crosses y.size 0 ≡ false) × (0 ≢ y.size)))
    cut_asks k =
        let b = both (eqb y.entry_type.0 2) (not (eqb y.size 0)) k in
        (o, (stream_at b.0, (cut_within y.size, λ z. clash b.1 (ap not (eq-eqb y.size 0 (sym z))))))

    pub cut_image : (eqb y.entry_type.0 2 && not (eqb y.size 0)) ≡ true → (a : ℕ) (after : Bytes) → a ≡ length_answer (geometry_of v.tables.geometry) (volume_in v img) y.size 0
        → after ≡ on_zero a (resized (volume_in v img) img y.id.0 0) img → after ≡ cut_to_zero (volume_in v img) img x
    cut_image k a after p q =
        let b = both (eqb y.entry_type.0 2) (not (eqb y.size 0)) k in
        units_released (volume_in v img) img x (geometry_of v.tables.geometry) y.size a after (type_is ∙ b.0) p (q ∙ ap (λ (j : ℕ). on_zero a (resized (volume_in v img) img j 0) img) i)

    -- everything else stays
    pub kept_image : (eqb y.entry_type.0 2 && not (eqb y.size 0)) ≡ false → img ≡ cut_to_zero (volume_in v img) img x
    kept_image k = go (eqb y.entry_type.0 2) refl (eqb y.size 0) refl k
      where
        go : (a : Bool) → eqb y.entry_type.0 2 ≡ a → (b : Bool) → eqb y.size 0 ≡ b → (a && not b) ≡ false → img ≡ cut_to_zero (volume_in v img) img x
        go false e b f k = no_stream (volume_in v img) img x (type_is ∙ e)
        go true e true f k = no_bytes (volume_in v img) img x (sym size_is ∙ eqb-true y.size 0 f)
        go true e false f k = absurd (clash refl k)

-- ---- the path

-- nothing is below it
reached_bare : (e : Directory) (x : ℕ) → child_of e x ≡ NOSTREAM → reached e x ≡ found_at x empty
reached_bare e x h = ap (found_at x) (grow_none e (rows e) (child_of e x) h)

-- it leads to the same entry in a directory that looks alike
leads_alike : (d e : Directory) → Alike d e → (p : Path) → LeadsTo d p → LeadsTo e p
leads_alike d e a p m =
    let bare = a.child m.entry ∙ m.bare in
    record {
      entry = m.entry;
      found = reached_bare e m.entry bare ∙ sym (reached_bare d m.entry m.bare) ∙ m.found ∙ sym (resolve_same d e a p);
      other = m.other;
      bare = bare;
    }

module _ {v : Opened} {img : Bytes} {w : List ℕ} (o : Open v img w) (p : Path) (x : ℕ) (r : RemovableAt (entries_of v.directory img) p x) where
  abbrev g : Geometry
  g = geometry_of v.tables.geometry

  abbrev cut : Bytes
  cut = cut_to_zero (volume_in v img) img x

  own : RemovableAt (volume_in v img).directory p x
  own = subst (λ (d : Directory). RemovableAt d p x) (same_entries o) r

  pub removed_inside : x < (volume_in v img).directory.count
  removed_inside = own.inside

  left : Cut g img cut
  left =
      let q = may_remove_lem (volume_in v img).directory p own.answer in
      let z : q.x ≡ x = sym (entry_same _ _ _ _ (own.leads.found ∙ q.found)) ∙ own.entry in
      subst (λ (y : ℕ). Cut g img (cut_to_zero (volume_in v img) img y)) z (cut_left g (bytes_some o) (open_frame o) img (open_accepted o) p q)

  -- what taking the entry away asks
  abbrev Asks : Bytes → List ℕ → Type 0
  Asks i u =
      let d = v.directory in
      DirectoryListed d i u × ((count_of d ≤ d.list) × (Accepted (geometry_of d.geometry) i × LeadsTo (entries_of d i) p))

  pub removal_asks : {img₁ : Bytes} {w₁ : List ℕ} → img₁ ≡ cut → Wrote w w₁ 0 v.stream → Asks img₁ w₁
  removal_asks {w₁ = w₁} q y =
      let k = open_after o left.kept left.accepted y in
      let l = list_asks k in
      subst (λ (i : Bytes). Asks i w₁) (sym q)
      (l.0, (omega (arith, l.1.1.1.0), (subst (λ s. Accepted (geometry_of s) cut) (sym k.ready.lists.mini.same) left.accepted, subst (λ (d : Directory). LeadsTo d p) (sym (same_entries k)) (leads_alike _ _ left.alike p own.leads))))

  -- the answer, and the image
  pub removed_right : {img₁ img₂ : Bytes} → img₁ ≡ cut → img₂ ≡ entry_removed (volume (geometry_of v.directory.geometry) img₁) img₁ p
      → (0 ≡ answer_in g (volume_in v img) (remove p [])) × (img₂ ≡ image_in g (volume_in v img) img (remove p []))
  unfolding answer_in edited object_removed entry_of volume
  removed_right {img₂ = img₂} q h =
      let same : geometry_of v.directory.geometry ≡ g = ap geometry_of o.ready.lists.mini.same in
      let cut-is : img₂ ≡ edited (volume_in v img) img (remove p []) = h ∙ rw (same, q, ← own.entry, ← own.leads.found) in
      (sym own.answer, cut-is ∙ image_done g (volume_in v img) img (remove p []) own.answer)

-- the tree's entries stand before the lists
pub removal_short : {v : Opened} {img : Bytes} {w : List ℕ} → Open v img w → count_of v.directory ≤ v.stream
removal_short {v} o = omega (arith, count_most (find_asks o).0, o.ready.room)

-- ---- what the search says

pub refused_right : {v : Opened} {img : Bytes} {w : List ℕ} (o : Open v img w) (p : Path) (a : Refusal) → RemovalRight (entries_of v.directory img) p (Err a)
    → (refusal_number a ≡ answer_in (geometry_of v.tables.geometry) (volume_in v img) (remove p []))
    × (img ≡ image_in (geometry_of v.tables.geometry) (volume_in v img) img (remove p []))
unfolding answer_in
refused_right {v} {img} o p a r =
    let e = r ∙ ap (λ (d : Directory). remove_answer d (resolve d p)) (same_entries o) in
    (e, image_refused (geometry_of v.tables.geometry) (volume_in v img) img (remove p []) a (sym e))
