-- A removal answers 0 exactly if the state says so, and never 26.
use Prim.Native.Nat.{ℕ, ◌<◌}
use mathlib.Core.Path.{◌≡◌, refl, sym, ap, ap₂, ◌∙◌, subst}
use mathlib.Core.Logic.{◌≢◌, ◌↔◌, inl, inr}
use mathlib.Core.Bool.{Bool, true, false, not, cond, ◌&&◌, ◌||◌, or-true}
use mathlib.Core.List.{List, [], ◌∷◌, ◌++◌, map}
use native.Mathlib.Omega.{arith}
use lib.Dec.{eqb, leb}
use lib.ListN.{length}
use borrow.Author.Tests.{ne_eqb}
use Rattle.format.specs.Basics.Lists.{any, count}
use Rattle.format.specs.Basics.Bytes.{Bytes}
use Rattle.format.specs.Layout.Geometry.{Geometry}
use Rattle.format.specs.Layout.Name.{Name}
use Rattle.format.specs.Layout.Entry.{is_storage, is_stream}
use Rattle.format.specs.Layout.Directory.{Directory}
use Rattle.format.specs.Layout.Tree.{Forest, empty, broken, node, forest, entries, is_empty}
use Rattle.format.specs.Layout.Volume.{Volume, volume}
use Rattle.format.specs.Layout.PathOrder.{is_below}
use Rattle.format.specs.Rules.Length.{work_need}
use Rattle.format.specs.Rules.Trees.{is_object}
use Rattle.format.specs.Rules.Verdict.{Accepted}
use Rattle.format.specs.Calls.Answer.{answer, answer_in, remove_answer}
use Rattle.format.specs.Calls.Paths.{Path, names, well_formed}
use Rattle.format.specs.Calls.Find.{Found, at as found_at, refused, resolve, descend}
use Rattle.format.specs.Calls.Call.{remove, work_of}
use Rattle.format.specs.History.Rows.{Row, rows_of, has_row}
use Rattle.format.specs.History.Setting.{setting_of}
use Rattle.format.specs.History.Storages.{storages_of, has_storage, is_storage_or_root}
use Rattle.format.specs.History.State.{state_in}
use Rattle.format.specs.History.Accepts.{accepts, row_below, some_below, may_remove}
use Rattle.theory.specs.TreeViews.{whole}
use Rattle.theory.specs.TreeFind.{reached}
use Rattle.theory.specs.TreeDraw.{Draws}
use Rattle.theory.specs.TreeObjects.{Object, entry_of, objects, beneath, found_below, Searched, rows_from, storages_from, some_storage, gathered}
use Rattle.theory.proofs.Counts.{bit_self}
use Rattle.theory.proofs.Tests.{clash}
use Rattle.theory.proofs.Refusals.{RefusedLow, resolve_low}
use Rattle.theory.proofs.Trees.Insert.{either}
use Rattle.theory.proofs.Trees.Nodes.{reached_object}
use Rattle.theory.proofs.Trees.Paths.{resolve_formed, resolve_malformed}
use Rattle.theory.proofs.Trees.Objects.{objects_entries}
use Rattle.theory.proofs.Trees.Meant.{meant_root}
use Rattle.theory.proofs.Trees.Found.{found_object}
use Rattle.theory.proofs.Trees.Beneath.{finds_below}
use Rattle.theory.proofs.Trees.PathWays.{root_way}
use Rattle.theory.proofs.Trees.Parts.{draws_part, old_drawn}
use Rattle.theory.proofs.Trees.Rows.{rows_objects, row_stream, row_none}
use Rattle.theory.proofs.Trees.Storages.{storages_objects, storage_one, storage_none}
use Rattle.frame.specs.Good.{Good}
use Rattle.frame.proofs.Accepted.{verdict_accepted}
use Rattle.frame.proofs.Good.{accepted_good}
use Rattle.frame.proofs.EntryFacts.{object_kinds, root_plain_lem, root_no_storage, good_searched}
use Rattle.history.proofs.Filled.{Sized}
use Rattle.history.proofs.AnswerNumbers.{cond_not_26, zero_iff, low_not_0}
use Rattle.history.proofs.StateFound.{stream_found, place_found, storage_found, storages_are, row_found, place_found_lem}

pub remove_not_26 : (d : Directory) (f : Found) → RefusedLow f → remove_answer d f ≢ 26
unfolding remove_answer
remove_not_26 d (found_at e b) l =
    cond_not_26 (is_storage (d.entry e) && not (is_empty b)) 28 _ (omega arith) (cond_not_26 (eqb e 0) 31 0 (omega arith) (omega arith))
remove_not_26 d (refused a) l = λ h. omega (arith, l.1)

-- ---- what is below, by the rows and the storages

unfoldable some_in : List ℕ → Bool
some_in [] = false
some_in (x ∷ xs) = true

some_append : (xs : List ℕ) (y : ℕ) (ys : List ℕ) → some_in (xs ++ (y ∷ ys)) ≡ true
unfolding some_in
some_append [] y ys = refl
some_append (x ∷ xs) y ys = refl

some_entries : (d : Directory) (b : Forest) → Draws d b → some_in (entries b) ≡ not (is_empty b)
unfolding some_in entries is_empty
some_entries d empty q = refl
some_entries d broken q = absurd q
some_entries d (node l e b r) q = some_append (entries l) e (entries b ++ entries r)

below_list : (v : Volume) (img : Bytes) (ns : List Name) (os : List Object) → ((y : ℕ) → 0 < count y (map entry_of os) → is_object v.directory y ≡ true)
    → (any (row_below ns) (rows_from v img [] os) || any (is_below ns) (storages_from v.directory [] os)) ≡ some_in (beneath ns os)
unfolding any gathered some_in row_below
below_list v img ns [] h = refl
below_list v img ns (o ∷ os) h =
    let d = v.directory in
    let i = below_list v img ns os (λ y k. h y (omega arith)) in
    let k = object_kinds (d.entry o.entry) (h o.entry (omega (arith, bit_self o.entry))) in
    elim (either (is_stream (d.entry o.entry))) [
      | inl s ↦ elim (either (is_below ns o.path)) [
        | inl q ↦ rw (row_stream v img o s, storage_none d o (k ∙ ap not s), q)
        | inr q ↦ rw (row_stream v img o s, storage_none d o (k ∙ ap not s), q) i
      ]
      | inr s ↦ elim (either (is_below ns o.path)) [
        | inl q ↦ rw (row_none v img o s, storage_one d o (k ∙ ap not s), q) (or-true (any (row_below ns) (rows_from v img [] os)))
        | inr q ↦ rw (row_none v img o s, storage_one d o (k ∙ ap not s), q) i
      ]
    ]

-- ---- the call

gone_bool : (t : Bool) → eqb (cond {A = ℕ} (not t) 28 0) 0 ≡ not (not t)
gone_bool true = refl
gone_bool false = refl

module _ (g : Geometry) (pos : 0 < g.sector_bytes) (img : Bytes) (acc : Accepted g img) (sized : Sized (volume g img) img) where
  abbrev v : Volume
  v = volume g img

  abbrev d : Directory
  d = (volume g img).directory

  abbrev good : Good v
  good = accepted_good g img pos acc

  abbrev searched : Searched d
  searched = good_searched g img good

  in_objects : (y : ℕ) → 0 < count y (map entry_of (objects d (whole d))) → is_object d y ≡ true
  in_objects y h = reached_object d searched.rules.shape y (omega (arith, h, ap (count y) (objects_entries d (whole d))))

  rows_are : rows_of g img ≡ rows_from v img [] (objects d (whole d))
  unfolding rows_of forest
  rows_are = rows_objects v img [] (whole d)

  abbrev below : List Name → Bool
  below l = any (row_below l) (rows_of g img) || any (is_below l) (storages_of g img)

  below_is : (l : List Name) (e : ℕ) (b : Forest) → descend d (reached d 0) l ≡ found_at e b → below l ≡ not (is_empty b)
  unfolding found_below
  below_is l e b h =
      let w = root_way d searched.rules l e b h in
      ap₂ (λ (r : List Row) (q : List (List Name)). any (row_below l) r || any (is_below l) q) rows_are (storages_are g pos img acc sized ∙ storages_objects d [] (whole d))
      ∙ below_list v img l (objects d (whole d)) in_objects
      ∙ ap some_in (sym (finds_below d searched l) ∙ ap found_below h)
      ∙ some_entries d b (draws_part d w.way b (old_drawn d w.way b w.tree searched.rules))

  no_storage : (l : List Name) → is_storage_or_root (storages_of g img) l ≡ false → has_storage (storages_of g img) l ≡ false
  unfolding is_storage_or_root
  no_storage [] h = absurd (clash refl h)
  no_storage (n ∷ ns) h = h

  -- no storage has the root's path
  root_none : has_storage (storages_of g img) [] ≡ false
  unfolding some_storage
  root_none = ap (λ (q : List (List Name)). has_storage q []) (storages_are g pos img acc sized) ∙ storage_found d searched [] ∙ ap (some_storage d) (meant_root d (whole d))

  not_zero : (e : ℕ) → is_object d e ≡ true → e ≢ 0
  not_zero e o z = clash (subst (λ (i : ℕ). is_object d i ≡ true) z o) (rw (root_no_storage g img good, root_plain_lem g img good))

  -- where the path is well formed and finds something
  at_bool : (p : Path) (e : ℕ) (b : Forest) (l : List Name) → descend d (reached d 0) l ≡ found_at e b
      → eqb (remove_answer d (found_at e b)) 0 ≡ (is_stream (d.entry e) || (has_storage (storages_of g img) l && not (below l)))
  unfolding descend is_storage_or_root place_found remove_answer
  at_bool p e b [] led =
      let z : 0 ≡ e = cc in
      subst (λ (i : ℕ). eqb (cond {A = ℕ} (is_storage (d.entry i) && not (is_empty b)) 28 (cond (eqb i 0) 31 0)) 0 ≡ (is_stream (d.entry i) || (has_storage (storages_of g img) [] && not (below [])))) z
      (rw (root_no_storage g img good, root_plain_lem g img good, root_none))
  at_bool p e b (n ∷ ns) led = go (is_stream (d.entry e)) refl
    where
      o : is_object d e ≡ true
      o = (found_object d searched n ns e b led).0

      real : eqb e 0 ≡ false
      real = ne_eqb e 0 (not_zero e o)

      has : is_stream (d.entry e) ≡ false → has_storage (storages_of g img) (n ∷ ns) ≡ true
      has st = place_found_lem g pos img acc sized (n ∷ ns) (found_at e b) led ∙ ap not st

      go : (t : Bool) → is_stream (d.entry e) ≡ t
          → eqb (cond {A = ℕ} (is_storage (d.entry e) && not (is_empty b)) 28 (cond (eqb e 0) 31 0)) 0
          ≡ (t || (has_storage (storages_of g img) (n ∷ ns) && not (below (n ∷ ns))))
      go true st = rw (object_kinds (d.entry e) o ∙ ap not st, real)
      go false st = rw (object_kinds (d.entry e) o ∙ ap not st, real, has st, below_is (n ∷ ns) e b led) (gone_bool (is_empty b))

  formed_bool : (p : Path) → well_formed p ≡ true → (r : Found) → resolve d p ≡ r → RefusedLow r
      → eqb (remove_answer d r) 0 ≡ (has_row (rows_of g img) p || (has_storage (storages_of g img) (names p) && not (below (names p))))
  unfolding stream_found
  formed_bool p w (found_at e b) h l = rw (row_found g pos img acc sized p (found_at e b) h) (at_bool p e b (names p) (sym (resolve_formed d p w) ∙ h))
  formed_bool p w (refused a) h l = unfold remove_answer place_found in
      rw (
        row_found g pos img acc sized p (refused a) h,
        low_not_0 a l.0,
        no_storage (names p) (place_found_lem g pos img acc sized (names p) (refused a) (sym (resolve_formed d p w) ∙ h)),
      )

  remove_bool : (p : Path) → eqb (remove_answer d (resolve d p)) 0 ≡ may_remove (state_in g img) p
  unfolding may_remove some_below state_in
  remove_bool p = go (well_formed p) refl
    where
      refusal : eqb (remove_answer d (refused 20)) 0 ≡ false
      refusal = unfold remove_answer in refl

      go : (t : Bool) → well_formed p ≡ t
          → eqb (remove_answer d (resolve d p)) 0 ≡ (well_formed p && (has_row (rows_of g img) p || (has_storage (storages_of g img) (names p) && not (below (names p)))))
      go true w = rw w (formed_bool p w (resolve d p) refl (resolve_low d p))
      go false w = rw (w, resolve_malformed d p w) refusal

  pub remove_iff : (p : Path) (work : List ℕ) → (answer g img (remove p work) ≡ 0) ↔ (accepts (state_in g img) (remove p work) ≡ true)
  unfolding answer answer_in work_of accepts state_in setting_of
  remove_iff p work =
      rw (verdict_accepted g img (length work) acc)
      (zero_iff (leb (work_need (length img)) (length work)) (remove_answer d (resolve d p)) (may_remove (state_in g img) p) (remove_bool p))
