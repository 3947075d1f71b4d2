-- An object with no units less in the directory of an accepted image: accepted again, and the state lacks the object.
use Prim.Native.Nat.{ℕ, suc, ◌<◌}
use mathlib.Core.Path.{◌≡◌, sym, ap, ap₂, ◌∙◌}
use mathlib.Core.Logic.{◌≢◌, ◌⊎◌}
use mathlib.Core.Bool.{true}
use mathlib.Core.List.{List, [], ◌∷◌, ◌++◌}
use native.Mathlib.Omega.{arith}
use lib.Dec.{eqb}
use lib.ListN.{length}
use Rattle.format.specs.Basics.Lists.{count, pick_below, without}
use Rattle.format.specs.Basics.Bytes.{Bytes}
use Rattle.format.specs.Layout.Geometry.{Geometry}
use Rattle.format.specs.Layout.Name.{Name}
use Rattle.format.specs.Layout.Entry.{name, is_storage}
use Rattle.format.specs.Layout.Directory.{Directory, blanks, blank_at}
use Rattle.format.specs.Layout.Tree.{Forest, forest, entries}
use Rattle.format.specs.Layout.Volume.{Volume, volume, directory}
use Rattle.format.specs.Layout.PathOrder.{same_path}
use Rattle.format.specs.Rules.Verdict.{Accepted}
use Rattle.format.specs.Rules.Trees.{tree_rules}
use Rattle.format.specs.Calls.Paths.{Path, names}
use Rattle.format.specs.Calls.Remove.{entry_removed_at}
use Rattle.format.specs.History.Rows.{Row, rows_of, means}
use Rattle.format.specs.History.Setting.{Setting, setting_of}
use Rattle.format.specs.History.Storages.{storages_of, blank_count_of}
use Rattle.format.specs.History.State.{state_in}
use Rattle.format.specs.History.Step.{without_object}
use Rattle.theory.specs.TreeViews.{whole}
use Rattle.theory.specs.TreeObjects.{Object, OneMore, way_names}
use Rattle.theory.proofs.Trees.Listed.{removed_objects}
use Rattle.theory.proofs.Trees.Blanks.{one_fewer}
use Rattle.theory.proofs.Trees.Rules.{rules_apart}
use Rattle.theory.proofs.Trees.Rows.{SameRow, rows_without}
use Rattle.theory.proofs.Trees.Storages.{storages_without}
use Rattle.theory.proofs.Trees.Nodes.{reached_inside}
use Rattle.frame.specs.Frame.{Frame}
use Rattle.frame.specs.Redraw.{IsErased, SameStream, NoUnits}
use Rattle.frame.specs.Place.{Erasing}
use Rattle.frame.proofs.EntryFacts.{object_not_blank, good_searched}
use Rattle.frame.proofs.RemovedFacts.{rules, way, x_inside, x_object, may}
use Rattle.frame.proofs.RemovedEntries.{removed_is, trees_after, entries_after, is_blank_lem, kinds, stays, streams_after, root_start_lem, root_bytes}
use Rattle.history.specs.Step.{Next}
use Rattle.history.proofs.Redirected.{contents_stay, setting_stays, stays_accepted}
use Rattle.history.proofs.StateSame.{state}

module _ (g : Geometry) (pos : 0 < g.sector_bytes) (fr : Frame g) (img : Bytes) (acc : Accepted g img)
    {n : Name} {ns : List Name} {s : ℕ} {t : Forest} {x : ℕ} {b : Forest} (c : Erasing g img n ns s t x b) where
  abbrev v : Volume
  v = volume g img

  abbrev d : Directory
  d = (volume g img).directory

  abbrev img' : Bytes
  img' = entry_removed_at (volume g img) img s t x

  er : IsErased g img s t x img'
  er = fr.erasing img s t x (may c acc)

  abbrev w : Volume
  w = volume g img'

  abbrev d₂ : Directory
  d₂ = (volume g img').directory

  streams : (i : ℕ) → i < v.directory.count → (SameStream v w i) ⊎ (NoUnits v w i)
  streams = streams_after c er

  abbrev trees₂ : tree_rules d₂ ≡ true
  trees₂ = trees_after c er

  accepted : Accepted g img'
  accepted =
      stays_accepted g pos img img' acc er.redrawn streams (entries_after c er) trees₂
      (root_start_lem c er) (root_bytes c er)

  abbrev old : Object
  old = record { path = way_names d (way c).way ++ (name (d.entry x) ∷ []); entry = x }

  more : OneMore d₂ d old
  more = removed_objects d d₂ (way c).way t x (removed_is c er) (rules c)

  same_rows : (y : ℕ) → y ≢ x → 0 < count y (entries (whole d₂)) → SameRow w v img' img y
  same_rows y q r =
      let k = stays c er y q in
      let i : y < d.count = omega (arith, reached_inside d₂ (rules_apart d₂ trees₂).shape y r, er.redrawn.kept.parts.entry_count) in
      record {
        stream = sym k.stream;
        bytes = λ st. sym (contents_stay g pos img img' acc er.redrawn streams y i (sym k.stream ∙ st) k);
      }

  same_storage : (y : ℕ) → y ≢ x → is_storage (d.entry y) ≡ is_storage (d₂.entry y)
  same_storage y q = ap (λ (m : ℕ). eqb m 1) (sym (kinds c er y q))

  blanks_now : blank_count_of g img' ≡ suc (blank_count_of g img)
  unfolding blank_count_of blanks blank_at volume
  blanks_now =
      let k = one_fewer (blank_at d₂) (blank_at d) x d.count (x_inside c) (is_blank_lem c er)
      (object_not_blank (d.entry x) (x_object c)) (λ y q. ap (λ (m : ℕ). eqb m 0) (sym (kinds c er y q))) in
      let e = ap (λ (m : ℕ). length (pick_below m (blank_at d₂))) er.redrawn.kept.parts.entry_count in
      omega (arith, k, e)

  module _ (p : Path) (means-it : same_path (names p) old.path ≡ true) where
    rows_now : rows_of g img' ≡ without (means p) (rows_of g img)
    unfolding rows_of forest means
    rows_now = rows_without w v img' img old more (rules c) same_rows (good_searched g img c.good) (names p) means-it

    storages_now : storages_of g img' ≡ without (same_path (names p)) (storages_of g img)
    unfolding storages_of forest volume
    storages_now = storages_without d₂ d old more (rules c) same_storage (good_searched g img c.good) (names p) means-it

    pub erase_next : Next g img img' (without_object (state_in g img) p)
    unfolding state_in without_object state
    erase_next =
        record {
          accepted = accepted;
          kept = er.redrawn.kept;
          state =
              ap₂ (λ (a : Setting) (b : List Row). state a b (storages_of g img') (blank_count_of g img')) (setting_stays g pos img img' acc er.redrawn streams) rows_now
              ∙ ap₂ (λ (a : List (List Name)) (b : ℕ). state (setting_of g img) (without (means p) (rows_of g img)) a b) storages_now blanks_now;
        }
