-- The way that a path goes, and the field at its end.
use mathlib.Core.Path.{◌≡◌, refl, sym, ap, ◌∙◌, subst₂}
use mathlib.Core.Bool.{Bool, true, false, cond}
use mathlib.Core.List.{List, [], ◌∷◌}
use Prim.Native.Nat.{ℕ}
use native.Mathlib.Omega.{arith}
use Rattle.format.specs.Layout.Name.{Name, name_equal}
use Rattle.format.specs.Layout.Entry.{name, is_stream, Field, left_field, child_field, right_field}
use Rattle.format.specs.Layout.Directory.{Directory}
use Rattle.format.specs.Layout.Tree.{Forest, empty, broken, node}
use Rattle.format.specs.Calls.Find.{Child, missing, present, or_else, child_named, at as found_at, refused, found_child, enter, descend}
use Rattle.theory.specs.TreeViews.{child_of, at, whole}
use Rattle.theory.specs.TreeOrder.{Rules}
use Rattle.theory.specs.TreeFind.{reached}
use Rattle.theory.specs.TreeDraw.{link, Draws}
use Rattle.theory.specs.TreeWays.{Way, here, into_left, into_child, into_right, plug, onward, slot_field, slot_entry}
use Rattle.theory.specs.TreeObjects.{way_names, PathWay}
use Rattle.theory.proofs.Tests.{and_true_of}
use Rattle.theory.proofs.Trees.Ways.{plug_onward, slot_onward}
use Rattle.theory.proofs.Trees.Parts.{old_drawn, old_root}
use Rattle.theory.proofs.Trees.Objects.{names_onward}
use Rattle.theory.proofs.Trees.Paths.{descend_refused}
use Rattle.format.specs.Layout.Siblings.{top}
use Rattle.format.specs.Layout.PathOrder.{same_path}

-- the field at a way's end names the tree there
pub slot_holds : (d : Directory) (w : Way) (k : Field) (x : ℕ) (t : Forest) → Draws d (plug w t) → link d k x ≡ top (plug w t)
    → link d (slot_field w k) (slot_entry w x) ≡ top t
slot_holds d here k x t q e = e
slot_holds d (into_left w y b r) k x t q e = slot_holds d w left_field y t q.1 q.0.lefts
slot_holds d (into_child l y w r) k x t q e = slot_holds d w child_field y t q.2 q.0.below
slot_holds d (into_right l y b w) k x t q e = slot_holds d w right_field y t q.3 q.0.rights

-- the way to the tree below a child, whatever field names the tree of siblings
record ChildWay (d : Directory) (n : Name) (t : Forest) (s : ℕ) (b : Forest) : Type 0 where
  way : Way
  tree : t ≡ plug way b
  ends : (k : Field) → slot_field way k ≡ child_field
  owner : (x : ℕ) → slot_entry way x ≡ s
  names : way_names d way ≡ name (d.entry s) ∷ []
  equal : name_equal n (name (d.entry s)) ≡ true

child_way : (d : Directory) (n : Name) (t : Forest) (s : ℕ) (c : Forest) → child_named d n t ≡ present s c → ChildWay d n t s c
unfolding child_named or_else way_names
child_way d n empty s c h = let q : ◌≡◌ {A = ℕ} 0 1 = cc in absurd (omega arith)
child_way d n broken s c h = let q : ◌≡◌ {A = ℕ} 0 1 = cc in absurd (omega arith)
child_way d n (node l e b r) s c h = go (child_named d n l) refl (name_equal n (name (d.entry e))) refl h (child_way d n l s c) (child_way d n r s c)
  where
    go : (k : Child) → child_named d n l ≡ k → (q : Bool) → name_equal n (name (d.entry e)) ≡ q
        → or_else k (or_else (cond q (present e b) missing) (child_named d n r)) ≡ present s c
        → (child_named d n l ≡ present s c → ChildWay d n l s c) → (child_named d n r ≡ present s c → ChildWay d n r s c)
        → ChildWay d n (node l e b r) s c
    go (present y a) u q v h hl hr =
        let k = hl (u ∙ h) in
        record {
          way = into_left k.way e b r;
          tree = ap (λ (f : Forest). node f e b r) k.tree;
          ends = λ j. k.ends left_field;
          owner = λ x. k.owner e;
          names = k.names;
          equal = k.equal;
        }
    go missing u true v h hl hr =
        let i : e ≡ s = cc in
        let j : b ≡ c = cc in
        record {
          way = into_child l e here r;
          tree = ap (λ (f : Forest). node l e f r) j;
          ends = λ k. refl;
          owner = λ x. i;
          names = ap (λ (y : ℕ). name (d.entry y) ∷ []) i;
          equal = ap (λ (y : ℕ). name_equal n (name (d.entry y))) (sym i) ∙ v;
        }
    go missing u false v h hl hr =
        let k = hr h in
        record {
          way = into_right l e b k.way;
          tree = ap (λ (f : Forest). node l e b f) k.tree;
          ends = λ j. k.ends right_field;
          owner = λ x. k.owner e;
          names = k.names;
          equal = k.equal;
        }

-- one name, and then the others
way_on : (d : Directory) (x : ℕ) (t : Forest) (n : Name) (ns : List Name) (y : ℕ) (c : Forest) (s : ℕ) (b : Forest)
    → ChildWay d n t y c → PathWay d y c ns s b → PathWay d x t (n ∷ ns) s b
unfolding same_path
way_on d x t n ns y c s b k p = record {
  way = onward k.way p.way;
  tree = k.tree ∙ ap (plug k.way) p.tree ∙ sym (plug_onward k.way p.way b);
  ends = (slot_onward k.way p.way child_field x).0 ∙ ap (slot_field p.way) (k.ends child_field) ∙ p.ends;
  owner = (slot_onward k.way p.way child_field x).1 ∙ ap (slot_entry p.way) (k.owner x) ∙ p.owner;
  spelled =
      rw (names_onward d k.way p.way, k.names)
      (and_true_of (name_equal n (name (d.entry y))) (same_path ns (way_names d p.way)) k.equal p.spelled);
}

pub path_way : (d : Directory) (ns : List Name) (x : ℕ) (t : Forest) (s : ℕ) (b : Forest) → descend d (found_at x t) ns ≡ found_at s b → PathWay d x t ns s b
unfolding descend enter found_child same_path way_names
path_way d [] x t s b h =
    let i : x ≡ s = cc in
    let j : t ≡ b = cc in
    record { way = here; tree = j; ends = refl; owner = i; spelled = refl }
path_way d (n ∷ ns) x t s b h = go (is_stream (d.entry x)) (child_named d n t) refl h (λ y c. path_way d ns y c s b)
  where
    go : (st : Bool) (k : Child) → child_named d n t ≡ k → descend d (cond st (refused 22) (found_child k)) ns ≡ found_at s b
        → ((y : ℕ) (c : Forest) → descend d (found_at y c) ns ≡ found_at s b → PathWay d y c ns s b) → PathWay d x t (n ∷ ns) s b
    go true k e h r = let a = descend_refused d 22 ns in let q : ◌≡◌ {A = ℕ} 0 1 = cc in absurd (omega arith)
    go false missing e h r = let a = descend_refused d 21 ns in let q : ◌≡◌ {A = ℕ} 0 1 = cc in absurd (omega arith)
    go false (present y c) e h r = way_on d x t n ns y c s b (child_way d n t y c e) (r y c h)

-- ---- from the root

module _ (d : Directory) (r : Rules d) (ns : List Name) (s : ℕ) (b : Forest) (h : descend d (reached d 0) ns ≡ found_at s b) where
  pub root_way : PathWay d 0 (whole d) ns s b
  root_way = path_way d ns 0 (whole d) s b h

  -- what is found is the entry with the tree that its child field names
  pub found_slot : child_of d s ≡ top b
  found_slot =
      let w = root_way in
      subst₂ (λ (k : Field) (x : ℕ). link d k x ≡ top b) w.ends w.owner
      (slot_holds d w.way child_field 0 b (old_drawn d w.way b w.tree r) (old_root d w.way b w.tree r))
