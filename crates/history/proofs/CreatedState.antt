-- A new object in the directory of an accepted image: accepted again, and the state has the object.
use Prim.Native.Nat.{ℕ, ◌-◌, ◌<◌}
use mathlib.Core.Path.{◌≡◌, ap, ap₂, ◌∙◌}
use mathlib.Core.Logic.{◌≢◌, ◌⊎◌}
use mathlib.Core.Bool.{true, false}
use mathlib.Core.List.{List, [], ◌∷◌, ◌++◌}
use native.Mathlib.Omega.{arith}
use lib.Dec.{eqb}
use lib.ListN.{length, take}
use Rattle.format.specs.Basics.Lists.{count, pick_below}
use Rattle.format.specs.Basics.Bytes.{Bytes}
use Rattle.format.specs.Layout.Geometry.{Geometry}
use Rattle.format.specs.Layout.Name.{Name}
use Rattle.format.specs.Layout.PathOrder.{insert}
use Rattle.format.specs.Layout.Entry.{kind, is_blank, is_storage, is_stream}
use Rattle.format.specs.Layout.Directory.{Directory, blanks, blank_at}
use Rattle.format.specs.Layout.Tree.{Forest, forest, entries}
use Rattle.format.specs.Layout.Volume.{Volume, volume, directory}
use Rattle.format.specs.Layout.Stream.{contents, stream_size, stream_units, space_for}
use Rattle.format.specs.Layout.Space.{block, laid}
use Rattle.format.specs.Rules.Verdict.{Accepted}
use Rattle.format.specs.Calls.Create.{NewKind, stream, storage, kind_for, entry_created}
use Rattle.format.specs.History.Rows.{Row, rows_of, rows_in}
use Rattle.format.specs.History.Setting.{Setting, setting_of}
use Rattle.format.specs.History.Storages.{storages_of, blank_count_of}
use Rattle.format.specs.History.State.{state_in}
use Rattle.format.specs.History.Step.{with_object, row_path, own_path}
use Rattle.theory.specs.TreeViews.{whole}
use Rattle.theory.specs.TreeOrder.{Rules}
use Rattle.theory.specs.TreeObjects.{Object, OneMore, way_names}
use Rattle.theory.proofs.Trees.Listed.{created_objects}
use Rattle.theory.proofs.Trees.Blanks.{one_fewer}
use Rattle.theory.proofs.Trees.Rules.{rules_apart}
use Rattle.theory.proofs.Trees.Rows.{SameRow, stream_rows, storage_rows}
use Rattle.theory.proofs.Trees.Storages.{stream_storages, storage_storages}
use Rattle.theory.proofs.Trees.Nodes.{reached_inside}
use Rattle.frame.specs.Frame.{Frame}
use Rattle.frame.specs.Redraw.{IsAdded, SameStream, NoUnits}
use Rattle.frame.specs.Place.{Creating, hook_at}
use Rattle.frame.proofs.CreatedFacts.{way, rules, other, hook_inside_lem, x_above}
use Rattle.frame.proofs.CreatedEntries.{kinds, new_kind, new_none, created, entries_after, trees_after, streams_after, stays, root_start_lem, root_bytes}
use Rattle.history.specs.Step.{Next}
use Rattle.history.proofs.Redirected.{contents_stay, setting_stays, stays_accepted}
use Rattle.history.proofs.StateSame.{state}

module _ (g : Geometry) (pos : 0 < g.sector_bytes) (fr : Frame g) (img : Bytes) (acc : Accepted g img) (made : NewKind)
    {n : Name} {ns : List Name} {s : ℕ} {b : Forest} {x : ℕ} (c : Creating g img n ns s b x) where
  abbrev v : Volume
  v = volume g img

  abbrev d : Directory
  d = (volume g img).directory

  abbrev img' : Bytes
  img' = entry_created (volume g img) img made n (hook_at (volume g img).directory n s b) x

  ad : IsAdded g img made n (hook_at (volume g img).directory n s b) x img'
  ad =
      fr.adding img made n (hook_at d n s b) x
      (record { accepted = acc; inside = c.inside; hook_inside = hook_inside_lem c; above = x_above c; other = other c })

  abbrev w : Volume
  w = volume g img'

  abbrev d₂ : Directory
  d₂ = (volume g img').directory

  streams : (i : ℕ) → i < v.directory.count → (SameStream v w i) ⊎ (NoUnits v w i)
  streams = streams_after c ad

  accepted : Accepted g img'
  accepted =
      stays_accepted g pos img img' acc ad.redrawn streams (entries_after c ad) (trees_after c ad)
      (root_start_lem c ad) (root_bytes c ad)

  abbrev new : Object
  new = record { path = way_names d (way c).way ++ (n ∷ []); entry = x }

  more : OneMore d d₂ new
  more = created_objects d d₂ (way c).way b n x (created c ad) (rules c)

  rules₂ : Rules d₂
  rules₂ = rules_apart d₂ (trees_after c ad)

  same_rows : (y : ℕ) → y ≢ x → 0 < count y (entries (whole d)) → SameRow v w img img' y
  same_rows y q r =
      let k = stays c ad y q in
      record {
        stream = k.stream;
        bytes = λ st. contents_stay g pos img img' acc ad.redrawn streams y (reached_inside d (rules c).shape y r) st k;
      }

  same_kind : (y : ℕ) → y ≢ x → kind (d₂.entry y) ≡ kind (d.entry y)
  same_kind y q = kinds c ad y q

  kind_is : kind (d₂.entry x) ≡ kind_for made
  kind_is = new_kind c ad

  no_bytes : is_stream (d₂.entry x) ≡ true → contents w img' x ≡ []
  unfolding contents
  no_bytes st = ap (λ (m : ℕ). take m (laid (block (space_for w (stream_size w x)) img') (stream_units w x))) ((new_none c ad).after st).0

  blanks_fewer : length (blanks d₂) ≡ length (blanks d) - 1
  unfolding blanks blank_at kind_for
  blanks_fewer =
      let k = one_fewer (blank_at d) (blank_at d₂) x d.count c.inside c.blank (not_blank made kind_is) (λ y q. ap (λ (m : ℕ). eqb m 0) (same_kind y q)) in
      let e = ap (λ (m : ℕ). length (pick_below m (blank_at d₂))) ad.redrawn.kept.parts.entry_count in
      omega (arith, k, e)
    where
      not_blank : (m : NewKind) → kind (d₂.entry x) ≡ kind_for m → is_blank (d₂.entry x) ≡ false
      not_blank stream q = rw q
      not_blank storage q = rw q

  -- ---- the state

  abbrev path : List Name
  path = way_names d (way c).way ++ (n ∷ [])

  rows_stream : is_stream (d₂.entry x) ≡ true → rows_of g img' ≡ insert row_path (record { path = path; bytes = [] }) (rows_of g img)
  unfolding rows_of forest
  rows_stream st =
      stream_rows v w img img' new more rules₂ same_rows st
      ∙ ap (λ (t : Bytes). insert row_path (record { path = path; bytes = t }) (rows_in v img [] (whole d))) (no_bytes st)

  rows_storage : is_stream (d₂.entry x) ≡ false → rows_of g img' ≡ rows_of g img
  unfolding rows_of forest
  rows_storage st = storage_rows v w img img' new more rules₂ same_rows st

  same_storage : (y : ℕ) → y ≢ x → is_storage (d₂.entry y) ≡ is_storage (d.entry y)
  same_storage y q = ap (λ (m : ℕ). eqb m 1) (same_kind y q)

  storages_stream : is_storage (d₂.entry x) ≡ false → storages_of g img' ≡ storages_of g img
  unfolding storages_of forest volume
  storages_stream st = stream_storages d d₂ new more rules₂ same_storage st

  storages_storage : is_storage (d₂.entry x) ≡ true → storages_of g img' ≡ insert own_path path (storages_of g img)
  unfolding storages_of forest volume
  storages_storage st = storage_storages d d₂ new more rules₂ same_storage st

  setting_same : setting_of g img' ≡ setting_of g img
  setting_same = setting_stays g pos img img' acc ad.redrawn streams

  blanks_now : blank_count_of g img' ≡ blank_count_of g img - 1
  unfolding blank_count_of volume
  blanks_now = blanks_fewer

  state_now : (m : NewKind) → kind (d₂.entry x) ≡ kind_for m → state_in g img' ≡ with_object (state_in g img) m path
  unfolding state_in with_object state kind_for
  state_now stream q =
      ap₂ (λ (a : Setting) (b : List Row). state a b (storages_of g img') (blank_count_of g img')) setting_same (rows_stream (ap (λ (k : ℕ). eqb k 2) q))
      ∙ ap₂ (λ (a : List (List Name)) (b : ℕ). state (setting_of g img) (insert row_path (record { path = path; bytes = [] }) (rows_of g img)) a b) (storages_stream (ap (λ (k : ℕ). eqb k 1) q)) blanks_now
  state_now storage q =
      ap₂ (λ (a : Setting) (b : List Row). state a b (storages_of g img') (blank_count_of g img')) setting_same (rows_storage (ap (λ (k : ℕ). eqb k 2) q))
      ∙ ap₂ (λ (a : List (List Name)) (b : ℕ). state (setting_of g img) (rows_of g img) a b) (storages_storage (ap (λ (k : ℕ). eqb k 1) q)) blanks_now

  pub create_next : Next g img img' (with_object (state_in g img) made path)
  create_next = record { accepted = accepted; kept = ad.redrawn.kept; state = state_now made kind_is }
