-- A removal by the few fields that change makes the tree without the node.
use mathlib.Core.Path.{◌≡◌, refl, sym, ap, ap₂, ◌∙◌, subst}
use mathlib.Core.Logic.{◌≢◌, ◌⊎◌, inl, inr}
use mathlib.Core.Bool.{false}
use Prim.Native.Nat.{ℕ, ◌+◌, ◌≤◌, ◌<◌}
use native.Mathlib.Omega.{arith}
use lib.Dec.{eqb}
use Rattle.format.specs.Basics.Lists.{bit, count}
use Rattle.format.specs.Layout.Directory.{Directory}
use Rattle.format.specs.Layout.Tree.{Forest, empty, broken, node, entries, siblings}
use Rattle.format.specs.Rules.Trees.{red}
use Rattle.theory.specs.TreeViews.{rows, whole}
use Rattle.theory.specs.TreeOrder.{Rules}
use Rattle.theory.specs.TreeDraw.{link, Draws}
use Rattle.theory.specs.TreeWays.{Way, here, into_left, into_child, into_right, plug, onward, Level, slot_field, slot_entry, Aside, Replaced}
use Rattle.theory.specs.TreeEdits.{Shaped, Removed}
use Rattle.theory.specs.TreeUnlink.{Rightward, Located, Spared, Blanked}
use Rattle.theory.proofs.Counts.{bit_self, count_append}
use Rattle.theory.proofs.Trees.Grow.{count_node}
use Rattle.theory.proofs.Trees.Ways.{count_plug, apart_of, left_child, child_right, plug_onward, slot_onward, Still}
use Rattle.theory.proofs.Trees.Replace.{drawn_above, replaced_draws, replaced_root}
use Rattle.theory.proofs.Trees.Parts.{draws_part, part_drawn, part_other, old_drawn, old_root, old_once}
use Rattle.theory.proofs.Trees.Faces.{count_siblings_node, siblings_few}
use Rattle.theory.proofs.Trees.Remove.{joined_siblings, removed_none, removed_here, removed_past}
use Rattle.theory.proofs.Trees.PathWays.{slot_holds}
use Rattle.format.specs.Layout.Siblings.{greatest, top, without_greatest, below_greatest, sides_joined, without_node}
use Rattle.format.specs.Layout.Entry.{Field, left_field, child_field, right_field}

-- ---- the shape of the outcome

apart_back : (x e : ℕ) → bit (eqb x e) ≡ 0 → e ≢ x
apart_back x e h z = apart_of x e h (sym z)

stands : (x : ℕ) (v : Way) (l b r : Forest) → Level v → 0 < count x (siblings (plug v (node l x b r)))
stands x here l b r h = omega (arith, count_siblings_node x l x b r, bit_self x)
stands x (into_left w e c s) l b r h = omega (arith, count_siblings_node x (plug w (node l x b r)) e c s, stands x w l b r h)
stands x (into_child a e w s) l b r h = absurd h
stands x (into_right a e c w) l b r h = omega (arith, count_siblings_node x a e c (plug w (node l x b r)), stands x w l b r h)

-- what stands at the end of a way among siblings is removed there
removed_plug : (x : ℕ) (v : Way) (l b r : Forest) → Level v → count x (siblings (plug v (node l x b r))) ≤ 1
    → without_node x (plug v (node l x b r)) ≡ plug v (sides_joined l r)
removed_plug x here l b r h o = removed_here x l x b r refl
removed_plug x (into_left w e c s) l b r h o =
    let k = count_siblings_node x (plug w (node l x b r)) e c s in
    let m = stands x w l b r h in
    removed_past x (plug w (node l x b r)) e c s (apart_back x e (omega arith))
    ∙ ap₂ (λ (f g : Forest). node f e c g) (removed_plug x w l b r h (omega arith)) (removed_none x s (omega arith))
removed_plug x (into_child a e w s) l b r h o = absurd h
removed_plug x (into_right a e c w) l b r h o =
    let k = count_siblings_node x a e c (plug w (node l x b r)) in
    let m = stands x w l b r h in
    removed_past x a e c (plug w (node l x b r)) (apart_back x e (omega arith))
    ∙ ap₂ (λ (f g : Forest). node f e c g) (removed_none x a (omega arith)) (removed_plug x w l b r h (omega arith))

-- the heir of a left side
heir_cut : (hl : Forest) (h : ℕ) (hb : Forest) (u : Way) → Rightward u → (a : Forest) (e : ℕ) (c : Forest)
    → (without_greatest a e c (plug u (node hl h hb empty)) ≡ node a e c (plug u hl)) × (greatest e (plug u (node hl h hb empty)) ≡ h)
    × (below_greatest c (plug u (node hl h hb empty)) ≡ hb)
unfolding without_greatest greatest below_greatest
heir_cut hl h hb here q a e c = (refl, refl, refl)
heir_cut hl h hb (into_left w y b r) q a e c = absurd q
heir_cut hl h hb (into_child l y w r) q a e c = absurd q
heir_cut hl h hb (into_right l y b w) q a e c =
    let k = heir_cut hl h hb w q l y b in
    (ap (λ (f : Forest). node a e c f) k.0, k.1, k.2)

pub heir_joined : (d : Directory) (hl : Forest) (h : ℕ) (hb : Forest) (u : Way) (r : Forest) → Rightward u → Draws d r → r ≢ empty
    → sides_joined (plug u (node hl h hb empty)) r ≡ node (plug u hl) h hb r
unfolding sides_joined without_greatest greatest below_greatest
heir_joined d hl h hb u empty q k n = absurd (n refl)
heir_joined d hl h hb u broken q k n = absurd k
heir_joined d hl h hb here (node rl re rb rr) q k n = refl
heir_joined d hl h hb (into_left w y b r) (node rl re rb rr) q k n = absurd q
heir_joined d hl h hb (into_child l y w r) (node rl re rb rr) q k n = absurd q
heir_joined d hl h hb (into_right l y b w) (node rl re rb rr) q k n =
    let c = heir_cut hl h hb w q l y b in
    rw (c.0, c.1, c.2)

-- ---- the field at the end of a way among siblings

pub level_slot : (v : Way) (k : Field) (x : ℕ) → Level v → (Still v k x) ⊎ ((0 < count (slot_entry v x) (siblings (plug v empty))) × (slot_field v k ≢ child_field))
level_slot here k x h = inl (record { field = refl; entry = refl; whole_is = λ t. refl })
level_slot (into_left w e b r) k x h =
    inr (elim (level_slot w left_field e h) [
      | inl s ↦ (rw s.entry (omega (arith, count_siblings_node e (plug w empty) e b r, bit_self e)), λ z. left_child (sym s.field ∙ z))
      | inr s ↦ (omega (arith, count_siblings_node (slot_entry w e) (plug w empty) e b r, s.0), s.1)
    ])
level_slot (into_child l e w r) k x h = absurd h
level_slot (into_right l e b w) k x h =
    inr (elim (level_slot w right_field e h) [
      | inl s ↦ (rw s.entry (omega (arith, count_siblings_node e l e b (plug w empty), bit_self e)), λ z. child_right (sym z ∙ s.field))
      | inr s ↦ (omega (arith, count_siblings_node (slot_entry w e) l e b (plug w empty), s.0), s.1)
    ])

pub siblings_count : (y : ℕ) (v : Way) (t : Forest) → Level v → count y (siblings (plug v t)) ≡ count y (siblings (plug v empty)) + count y (siblings t)
unfolding siblings
siblings_count y here t h = omega arith
siblings_count y (into_left w e b r) t h =
    omega (arith, siblings_count y w t h, count_siblings_node y (plug w t) e b r, count_siblings_node y (plug w empty) e b r)
siblings_count y (into_child l e w r) t h = absurd h
siblings_count y (into_right l e b w) t h =
    omega (arith, siblings_count y w t h, count_siblings_node y l e b (plug w t), count_siblings_node y l e b (plug w empty))

-- a drawn tree of black siblings
shaped_of : (d : Directory) (t : Forest) → Draws d t → ((y : ℕ) → 0 < count y (siblings t) → red d y ≡ false) → Shaped d t
shaped_of d empty q h = tt
shaped_of d broken q h = tt
shaped_of d (node l e b r) q h = (
  record { lefts = q.0.lefts; rights = q.0.rights; black = h e (omega (arith, count_siblings_node e l e b r, bit_self e)) },
  shaped_of d l q.1 (λ y c. h y (omega (arith, count_siblings_node y l e b r))),
  shaped_of d r q.3 (λ y c. h y (omega (arith, count_siblings_node y l e b r))),
)

-- ---- the edit: the links outside the node, and what takes its place

module _ (d d₂ : Directory) (w v : Way) (t l : Forest) (x : ℕ) (r : Forest) (c : Located d w v t l x r) (k : Rules d) (n : rows d₂ ≡ rows d) where
  abbrev pub whole_way : Way
  whole_way = onward w v

  abbrev pub it : Forest
  it = node l x empty r

  old_way : whole d ≡ plug whole_way it
  old_way = c.old ∙ ap (plug w) c.place ∙ sym (plug_onward w v it)

  pub it_drawn : Draws d it
  it_drawn = part_drawn d whole_way it old_way k

  pub way_once : (y : ℕ) → count y (entries (plug whole_way empty)) + count y (entries it) ≤ 1
  way_once y = omega (arith, old_once d whole_way it old_way k y, count_plug y whole_way it)

  -- entries of the node's sides have no field at the end of the way
  pub inside_aside : (y : ℕ) → 0 < count y (entries it) → (j : Field) → Aside whole_way child_field 0 j y
  inside_aside y h j p q = part_other d whole_way it old_way k y h q

  module _ (kept : (j : Field) (y : ℕ) → Spared w v x j y → (j ≡ child_field) ⊎ (count y (siblings l) ≡ 0) → link d₂ j y ≡ link d j y)
      (slot : link d₂ (slot_field whole_way child_field) (slot_entry whole_way 0) ≡ top (sides_joined l r)) (new : Draws d₂ (sides_joined l r)) where
    x_apart : (y : ℕ) → count y (entries it) ≡ 0 → y ≢ x
    x_apart y h z = omega (arith, count_node x l x empty r, bit_self x, ap (λ (i : ℕ). count i (entries it)) z)

    links : Replaced d d₂ whole_way it (sides_joined l r)
    links = record {
      rows_same = n;
      drawn = old_drawn d whole_way it old_way k;
      root = old_root d whole_way it old_way k;
      once = λ y. omega (arith, way_once y);
      kept = λ j y o a.
          let z : count y (entries it) ≡ 0 = elim o [ inl e ↦ rw e (drawn_above d it it_drawn) | inr h ↦ omega (arith, way_once y) ] in
          kept j y (x_apart y z, a) (inr (omega (arith, count_node y l x empty r, siblings_few y l)));
      slot = slot;
      drawn_new = new;
    }

    sibling_once : (y : ℕ) → count y (siblings (plug v it)) ≤ 1
    sibling_once y =
        let p = ap (λ (f : Forest). count y (entries f)) c.place in
        omega (arith, siblings_few y (plug v it), old_once d w t c.old k y, count_plug y w t)

    without : without_node x t ≡ plug v (sides_joined l r)
    without = ap (without_node x) c.place ∙ removed_plug x v l empty r c.level (sibling_once x)

    outcome : plug whole_way (sides_joined l r) ≡ plug w (without_node x t)
    outcome = plug_onward w v (sides_joined l r) ∙ ap (plug w) (sym without)

    new_drawn : Draws d₂ (plug w (without_node x t))
    new_drawn = rw outcome at (replaced_draws d d₂ whole_way it (sides_joined l r) links)

    counted : (y : ℕ) → count y (siblings t) ≡ bit (eqb y x) + count y (siblings (without_node x t))
    counted y =
        omega (
          arith,
          ap (λ (f : Forest). count y (siblings f)) c.place,
          ap (λ (f : Forest). count y (siblings f)) without,
          siblings_count y v it c.level,
          siblings_count y v (sides_joined l r) c.level,
          count_siblings_node y l x empty r,
          ap (count y) (joined_siblings l r),
          count_append y (siblings l) (siblings r),
        )

    -- the end of the whole way: the child field of the parent, or a field of a sibling
    slot_is : (j : Field) (y : ℕ) → j ≡ slot_field whole_way child_field → y ≡ slot_entry whole_way 0
        → ((j ≡ child_field) × (y ≡ slot_entry w 0)) ⊎ ((0 < count y (siblings t)) × (j ≢ child_field))
    slot_is j y p q =
        let a = slot_onward w v child_field 0 in
        elim (level_slot v (slot_field w child_field) (slot_entry w 0) c.level) [
          | inl s ↦ inl (p ∙ a.0 ∙ s.field ∙ c.ends, q ∙ a.1 ∙ s.entry)
          | inr s ↦
              inr (
                (let z = ap (λ (i : ℕ). count i (siblings (plug v empty))) (q ∙ a.1) in
                    omega (arith, s.0, ap (λ (f : Forest). count y (siblings f)) c.place, siblings_count y v it c.level)),
                λ z. s.1 (sym (p ∙ a.0) ∙ z),
              )
        ]

    pub unlinked : Blanked d d₂ t x → Removed d d₂ w t x
    unlinked b = record {
      rows_same = n;
      old = c.old;
      ends = c.ends;
      among = omega (arith, counted x, bit_self x);
      childless = it_drawn.0.below;
      blank = b.blank;
      shaped = shaped_of d₂ (without_node x t) (draws_part d₂ w (without_node x t) new_drawn)
          (λ y h. b.black y (omega (arith, counted y)) (λ z. omega (arith, counted x, bit_self x, ap (λ (i : ℕ). count i (siblings (without_node x t))) z, once_x)));
      slot = subst (λ (j : Field). link d₂ j (slot_entry w 0) ≡ top (without_node x t)) c.ends
          (slot_holds d₂ w child_field 0 (without_node x t) new_drawn (replaced_root d d₂ whole_way it (sides_joined l r) links ∙ ap top outcome));
      below_kept = λ y h z. kept child_field y (h, λ p q. elim (slot_is child_field y p q) [ inl s ↦ z s.1 | inr s ↦ s.1 refl ]) (inl refl);
      sides_kept = λ y z. (side left_field y z left_child, side right_field y z (λ e. child_right (sym e)));
      names = b.names;
      colours = b.colours;
      kind_same = b.kind_same;
    }
      where
        once_x : count x (siblings t) ≤ 1
        once_x = rw c.place (sibling_once x)

        side : (j : Field) (y : ℕ) → count y (siblings t) ≡ 0 → j ≢ child_field → link d₂ j y ≡ link d j y
        side j y z h =
            kept j y (
              λ e. omega (arith, counted x, bit_self x, ap (λ (i : ℕ). count i (siblings t)) e),
              λ p q. elim (slot_is j y p q) [ inl s ↦ h s.0 | inr s ↦ omega (arith, s.0) ],
            )
            (inr (omega (arith, ap (λ (f : Forest). count y (siblings f)) c.place, siblings_count y v it c.level, count_siblings_node y l x empty r)))
