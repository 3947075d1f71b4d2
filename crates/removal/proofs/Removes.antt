-- The entry that a path leads to can be removed, and what that leaves.
use Prim.Native.Nat.{ℕ, ◌<◌}
use mathlib.Core.Path.{◌≡◌, sym, ap, ◌∙◌, subst}
use mathlib.Core.Bool.{true}
use mathlib.Core.List.{List}
use Rattle.format.specs.Basics.Bytes.{Bytes}
use Rattle.format.specs.Layout.Geometry.{Geometry}
use Rattle.format.specs.Layout.Name.{Name}
use Rattle.format.specs.Layout.Entry.{child_field}
use Rattle.format.specs.Layout.Directory.{Directory}
use Rattle.format.specs.Layout.Tree.{Forest, empty, node}
use Rattle.format.specs.Layout.Siblings.{Slot}
use Rattle.format.specs.Layout.Volume.{volume}
use Rattle.format.specs.Rules.Entries.{entry_rules}
use Rattle.format.specs.Rules.Trees.{tree_rules}
use Rattle.format.specs.Rules.Verdict.{Accepted}
use Rattle.format.specs.Calls.Paths.{Path, names_before, last_name}
use Rattle.format.specs.Calls.Find.{missing, present, child_named, resolve_parent, entry_of, below_of}
use Rattle.format.specs.Calls.Remove.{entry_removed_at, entry_removed}
use Rattle.theory.specs.TreeViews.{rows, left_of, right_of, child_of, at, whole}
use Rattle.theory.specs.TreeFind.{reached, Searchable}
use Rattle.theory.specs.TreeWays.{plug, slot_field, slot_entry}
use Rattle.theory.specs.TreeObjects.{PathWay}
use Rattle.theory.proofs.Trees.Grow.{grow_none}
use Rattle.theory.proofs.Trees.Rules.{rules_apart}
use Rattle.theory.proofs.Trees.Ways.{slot_onward}
use Rattle.theory.proofs.Trees.PathWays.{root_way}
use Rattle.frame.proofs.Accepted.{accepted_kept}
use Rattle.kinds.specs.Sizes.{geometry_of}
use Rattle.kinds.specs.declared.EntryId.{EntryId}
use Rattle.directory.specs.Listed.{entries_of, DirectoryListed, Ruled}
use Rattle.directory.specs.declared.Directory.{Directory as Where}
use Rattle.entry_rules.proofs.Ruled.{ruled}
use Rattle.lookup.specs.Slots.{slot_of, Seated, SeatRight}
use Rattle.lookup.specs.declared.Slot.{Slot as Place}
use Rattle.lookup.specs.declared.Seat.TheVariants.{Free, Taken}
use Rattle.paths.specs.Parents.{ParentAt}
use Rattle.paths.proofs.Steps.{searchable_below}
use Rattle.paths.proofs.Parents.{found_formed}
use Rattle.tree_edits.specs.Removable.{Removable}
use Rattle.removal.specs.Leads.{LeadsTo}
use Rattle.removal.proofs.Parents.{not_missing, child_is}

module _ (d : Where) (img : Bytes) (acc : Accepted (geometry_of d.geometry) img) where
  abbrev g : Geometry
  g = geometry_of d.geometry

  abbrev e : Directory
  e = entries_of d img

  pub entries_right : entry_rules e ≡ true
  unfolding volume
  entries_right = (accepted_kept g img acc).volume.entries

  pub trees_right : tree_rules e ≡ true
  unfolding volume
  trees_right = (accepted_kept g img acc).volume.trees

  -- what the search below an entry asks
  pub search_asks : {work : List ℕ} → DirectoryListed d img work → (s : ℕ) → s < e.count
      → DirectoryListed d img work × (Ruled e × ((s < e.count) × Searchable e (child_of e s)))
  search_asks l s h = (l, (ruled e entries_right, (h, searchable_below e entries_right trees_right s h)))

  module _ (p : Path) (m : LeadsTo e p) (s : ℕ) (q : reached e s ≡ resolve_parent e p) (x : ℕ) (h : Slot) (seat : Seated e s x h) (z : x ≡ m.entry) where
    way : PathWay e 0 (whole e) (names_before p) s (at e (child_of e s))
    way = root_way e (rules_apart e trees_right) (names_before p) s (at e (child_of e s)) (found_formed e p s q).1.0

    nothing : at e (child_of e x) ≡ empty
    nothing = grow_none e (rows e) (child_of e x) (ap (child_of e) z ∙ m.bare)

    pub removable : Removable d img s h x
    removable = record {
      accepted = acc;
      rules = rules_apart e trees_right;
      names = ruled e entries_right;
      way = way.way;
      among = seat.way;
      located = record {
        old = way.tree;
        ends = way.ends;
        level = seat.level;
        place = seat.tree ∙ ap (λ (b : Forest). plug seat.way (node (at e (left_of e x)) x b (at e (right_of e x)))) nothing;
      };
      parent = way.owner;
      entry = sym ((slot_onward way.way seat.way child_field 0).1 ∙ ap (slot_entry seat.way) way.owner ∙ seat.entry);
      field = sym ((slot_onward way.way seat.way child_field 0).0 ∙ ap (slot_field seat.way) way.ends ∙ seat.field);
    }

    pub removed_is : (new : Bytes) → new ≡ entry_removed_at (volume g img) img s (at e (child_of e s)) x → new ≡ entry_removed (volume g img) img p
    unfolding entry_removed volume entry_of below_of
    removed_is new r = r ∙ ap (entry_removed_at (volume g img) img s (at e (child_of e s))) z ∙ rw (← q, ← m.found)

-- ---- what the searches say

module _ (e : Directory) (p : Path) (m : LeadsTo e p) (s i : ℕ) (b : ParentAt e p s i) (n : Name) (l : n ≡ last_name p) where
  pub seat_free : (h : Place) → SeatRight e n s (Free h) → ⊥
  seat_free h a = not_missing e p m s b.found (subst (λ (k : Name). child_named e k (at e (child_of e s)) ≡ missing) l a.0)

  pub seat_taken : (x : EntryId) (h : Place) → SeatRight e n s (Taken x h) → Seated e s x.0 (slot_of h) × (x.0 ≡ m.entry)
  seat_taken x h a =
      (a.1.0, child_is e p m s b.found x.0 (at e (child_of e x.0)) (subst (λ (u : Name). child_named e u (at e (child_of e s)) ≡ present x.0 (at e (child_of e x.0))) l a.0))
