-- The descent to a name's place: the way down so far, the field at its end, and the tree that is left.
use mathlib.Core.Path.{◌≡◌, sym, ap, ◌∙◌}
use mathlib.Core.Logic.{◌≢◌}
use mathlib.Core.Bool.{true, false}
use Prim.Native.Nat.{ℕ, ◌<◌}
use Rattle.format.specs.Layout.Name.{Name, name_less, name_equal}
use Rattle.format.specs.Layout.Entry.{NOSTREAM, Field, left_field, right_field, child_field, name}
use Rattle.format.specs.Layout.Directory.{Directory}
use Rattle.format.specs.Layout.Tree.{node}
use Rattle.format.specs.Layout.Siblings.{slot_in, goes_left}
use Rattle.format.specs.Calls.Find.{missing, present, child_named}
use Rattle.theory.specs.TreeViews.{rows, left_of, right_of, child_of, at, Standing}
use Rattle.theory.specs.TreeFind.{Seeking}
use Rattle.theory.specs.TreeWays.{Way, here, into_left, into_right, plug, onward, Level, slot_field, slot_entry}
use Rattle.theory.proofs.Trees.Grow.{grow_none}
use Rattle.theory.proofs.Trees.Stand.{standing}
use Rattle.theory.proofs.Trees.Find.{searchable_stands, seek_none, seek_hit, seek_left, seek_right}
use Rattle.theory.proofs.Trees.Names.{names_ordered}
use Rattle.theory.proofs.Trees.Ways.{plug_onward}
use Rattle.theory.proofs.Trees.Steps.{level_onward, slot_left, slot_right}
use Rattle.lookup.specs.Slots.{child_slot, Seated}

-- from the children of s the descent has come to x, which field k of entry y names
pub record Descent (e : Directory) (want : Name) (s y : ℕ) (k : Field) (x : ℕ) : Type 0 where
  pub seeking : Seeking e want (child_of e s) x
  pub way : Way
  pub level : Level way
  pub tree : at e (child_of e s) ≡ plug way (at e x)
  pub entry : slot_entry way s ≡ y
  pub field : slot_field way child_field ≡ k
  pub place : slot_in (goes_left e want) (child_slot s) (at e (child_of e s)) ≡ slot_in (goes_left e want) (record { entry = y; field = k }) (at e x)
  pub inside : y < rows e

module _ (e : Directory) (want : Name) (s : ℕ) where
  module _ {y : ℕ} {k : Field} {x : ℕ} (g : Descent e want s y k x) where
    pub descent_none : x ≡ NOSTREAM
        → (child_named e want (at e (child_of e s)) ≡ missing)
        × ((record { entry = y; field = k } ≡ slot_in (goes_left e want) (child_slot s) (at e (child_of e s))) × (y < rows e))
    unfolding slot_in
    descent_none h =
        (seek_none e want names_ordered (child_of e s) x g.seeking h, (sym (g.place ∙ rw (grow_none e (rows e) x h)), g.inside))

    module _ (h : x ≢ NOSTREAM) where
      pub descent_stands : Standing e x
      descent_stands = searchable_stands e x h g.seeking.here

      split : at e x ≡ node (at e (left_of e x)) x (at e (child_of e x)) (at e (right_of e x))
      split = (standing e x descent_stands).tree

      pub descent_hit : name_equal want (name (e.entry x)) ≡ true
          → (child_named e want (at e (child_of e s)) ≡ present x (at e (child_of e x)))
          × (Seated e s x (record { entry = y; field = k }) × ((x < rows e) × (y < rows e)))
      descent_hit q = (
        seek_hit e want names_ordered (child_of e s) x g.seeking h q,
        (
          record { way = g.way; level = g.level; tree = g.tree ∙ ap (plug g.way) split; entry = g.entry; field = g.field },
          (descent_stands.inside, g.inside),
        ),
      )

      pub descent_left : name_less want (name (e.entry x)) ≡ true → Descent e want s x left_field (left_of e x)
      unfolding slot_in goes_left
      descent_left q =
          let b = at e (child_of e x) in
          let r = at e (right_of e x) in
          let z = slot_left g.way x b r child_field s in
          record {
            seeking = seek_left e want names_ordered (child_of e s) x g.seeking h q;
            way = onward g.way (into_left here x b r);
            level = level_onward g.way (into_left here x b r) g.level tt;
            tree = g.tree ∙ ap (plug g.way) split ∙ sym (plug_onward g.way (into_left here x b r) (at e (left_of e x)));
            entry = z.1;
            field = z.0;
            place = g.place ∙ ap (slot_in (goes_left e want) (record { entry = y; field = k })) split ∙ rw q;
            inside = descent_stands.inside;
          }

      pub descent_right : name_less want (name (e.entry x)) ≡ false → name_less (name (e.entry x)) want ≡ true → Descent e want s x right_field (right_of e x)
      unfolding slot_in goes_left
      descent_right n q =
          let l = at e (left_of e x) in
          let b = at e (child_of e x) in
          let z = slot_right g.way l x b child_field s in
          record {
            seeking = seek_right e want names_ordered (child_of e s) x g.seeking h q;
            way = onward g.way (into_right l x b here);
            level = level_onward g.way (into_right l x b here) g.level tt;
            tree = g.tree ∙ ap (plug g.way) split ∙ sym (plug_onward g.way (into_right l x b here) (at e (right_of e x)));
            entry = z.1;
            field = z.0;
            place = g.place ∙ ap (slot_in (goes_left e want) (record { entry = y; field = k })) split ∙ rw n;
            inside = descent_stands.inside;
          }
