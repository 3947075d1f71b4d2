-- Finds: what the entry at a path's end, or the refusal, says of the reply.
use Prim.Native.Nat.{ℕ, ◌<◌}
use mathlib.Core.Path.{◌≡◌, sym, ◌∙◌, ap, ap₂, subst}
use mathlib.Core.Bool.{true}
use mathlib.Core.List.{List, []}
use Rattle.std.specs.Prelude.{Result, Ok, Err}
use Rattle.format.specs.Basics.Bytes.{Bytes}
use Rattle.format.specs.Layout.Geometry.{Geometry}
use Rattle.format.specs.Layout.Entry.{kind}
use Rattle.format.specs.Layout.Directory.{size_of}
use Rattle.format.specs.Layout.Stream.{stream_size}
use Rattle.format.specs.Layout.Directory.{Directory}
use Rattle.format.specs.Layout.Volume.{Volume, volume, directory}
use Rattle.format.specs.Rules.Entries.{entry_rules}
use Rattle.format.specs.Rules.Trees.{tree_rules}
use Rattle.format.specs.Calls.Paths.{Path}
use Rattle.format.specs.Calls.Find.{refused, resolve, answer_of, entry_of}
use Rattle.format.specs.Calls.Call.{find}
use Rattle.format.specs.Calls.Answer.{answer_in}
use Rattle.format.specs.Calls.Reply.{plain, on_zero, found_reply, done}
use Rattle.theory.specs.TreeFind.{reached}
use Rattle.kinds.specs.Sizes.{geometry_of}
use Rattle.kinds.specs.Numbers.{refusal_number}
use Rattle.kinds.specs.declared.EntryId.{EntryId}
use Rattle.kinds.specs.declared.Refusal.{Refusal}
use Rattle.directory.specs.Listed.{entries_of, DirectoryListed}
use Rattle.paths.specs.Found.{found_of}
use Rattle.volume.specs.declared.Volume.{Volume as Opened}
use Rattle.queries.specs.Inside.{Open, reply_in, ObjectOf, FindRight}
use Rattle.queries.specs.Replies.{find_reply}
use Rattle.queries.proofs.Answers.{refused_in}
use Rattle.queries.specs.declared.find.Object.{Object}

-- the entries by the list are those of the volume
pub same_entries : {v : Opened} {img : Bytes} {w : List ℕ} → Open v img w → entries_of v.directory img ≡ (volume (geometry_of v.tables.geometry) img).directory
unfolding volume
same_entries {img = img} o = ap (λ k. directory (geometry_of k) img) o.ready.lists.mini.same

module _ (v : Volume) (path : Path) where
  found_reply_lem : (g : Geometry) (x : ℕ) → reached v.directory x ≡ resolve v.directory path → found_reply v x ≡ reply_in g v (find path [])
  unfolding reply_in on_zero answer_in done answer_of entry_of
  found_reply_lem g x e = rw (← e)

  refused_reply : (g : Geometry) (a : Refusal) → refused (refusal_number a) ≡ resolve v.directory path → plain (refusal_number a) ≡ reply_in g v (find path [])
  unfolding answer_in answer_of
  refused_reply g a e = (refused_in g v [] (find path []) a (rw (← e))).0

-- ---- the code's answers

module _ {v : Opened} {img : Bytes} {w : List ℕ} (o : Open v img w) where
  abbrev g : Geometry
  g = geometry_of v.tables.geometry

  -- what the way down a path asks
  pub find_asks : DirectoryListed v.directory img w × ((entry_rules (entries_of v.directory img) ≡ true) × (tree_rules (entries_of v.directory img) ≡ true))
  unfolding volume
  find_asks =
      let e = sym (same_entries o) in
      (o.ready.lists.mini.directory, (subst (λ d. entry_rules d ≡ true) e o.groups.volume.entries, subst (λ d. tree_rules d ≡ true) e o.groups.volume.trees))

  -- an entry that was looked up by its number
  pub looked_up : {x : EntryId} (y : Object) → x.0 < (entries_of v.directory img).count
      → (y.id ≡ x) × ((y.entry_type.0 ≡ kind ((entries_of v.directory img).entry x.0)) × (y.size ≡ size_of (entries_of v.directory img) x.0))
      → ObjectOf (volume g img) y
  looked_up {x} y l z =
      let q = same_entries o in
      let i : y.id.0 ≡ x.0 = ap (λ (u : EntryId). u.0) z.0 in
      rw i (subst (λ d. x.0 < d.count) q l, (z.1.0 ∙ ap (λ d. kind (d.entry x.0)) q, z.1.1 ∙ ap (λ d. size_of d x.0) q))

  module _ (path : Path) (r : Result EntryId Refusal) (e : found_of (entries_of v.directory img) r ≡ resolve (entries_of v.directory img) path) where
    says : found_of (volume g img).directory r ≡ resolve (volume g img).directory path
    says = subst (λ d. found_of d r ≡ resolve d path) (same_entries o) e

  pub find_found : (path : Path) {x : EntryId} (y : Object) → found_of (entries_of v.directory img) (Ok x) ≡ resolve (entries_of v.directory img) path → y.id ≡ x
      → ObjectOf (volume g img) y → FindRight (volume g img) path (Ok y)
  find_found path {x} y e z h = (rw z (says path (Ok x) e), h)

  pub find_refused : (path : Path) (a : Refusal) → found_of (entries_of v.directory img) (Err a) ≡ resolve (entries_of v.directory img) path
      → FindRight (volume g img) path (Err a)
  find_refused path a e = says path (Err a) e

-- the reply that it stands for
pub find_says : (g : Geometry) (v : Volume) (path : Path) (f : Result Object Refusal) → FindRight v path f → find_reply f ≡ reply_in g v (find path [])
unfolding found_reply stream_size
find_says g v path (Ok e) h =
    ap₂ (λ k s. record { number = 0; entry = e.id.0; type = k; size = s; count = 0 }) h.1.1.0 h.1.1.1 ∙ found_reply_lem v path g e.id.0 h.0
find_says g v path (Err a) h = refused_reply v path g a h
