-- What group 15 says of a tree at the end of a way.
use mathlib.Core.Path.{◌≡◌, refl, sym, ap, ◌∙◌}
use mathlib.Core.Logic.{◌≢◌, inl, inr}
use mathlib.Core.Bool.{true, not, ◌&&◌, ◌||◌}
use Prim.Native.Nat.{ℕ, ◌≤◌, ◌<◌}
use native.Mathlib.Omega.{arith}
use borrow.Author.Tests.{lt-ltb}
use lib.Dec.{ltb}
use Rattle.format.specs.Basics.Lists.{count}
use Rattle.format.specs.Layout.Entry.{NOSTREAM, Field, left_field, child_field, right_field}
use Rattle.format.specs.Layout.Directory.{Directory}
use Rattle.format.specs.Layout.Tree.{Forest, empty, broken, node, named, entries}
use Rattle.format.specs.Rules.Trees.{sound, red, every_node, top_black, coloured}
use Rattle.theory.specs.TreeViews.{rows, child_of, whole, NodeTest}
use Rattle.theory.specs.TreeOrder.{Rules}
use Rattle.theory.specs.TreeDraw.{Draws}
use Rattle.theory.specs.TreeWays.{Way, here, into_left, into_child, into_right, plug, slot_field, slot_entry}
use Rattle.theory.proofs.Tests.{both, and_true_of}
use Rattle.theory.proofs.Trees.Grow.{sound_apart}
use Rattle.theory.proofs.Trees.Nodes.{shape_sound, entries_once, every_node_apart}
use Rattle.theory.proofs.Trees.Draw.{sound_draws}
use Rattle.theory.proofs.Trees.Ways.{left_child, child_right, count_plug, still_or_deep}
use Rattle.theory.proofs.Trees.Replace.{drawn_above}
use Rattle.format.specs.Layout.Siblings.{top}

-- ---- what is true of a forest is true of the tree at the end of a way

sound_part : (w : Way) (t : Forest) → sound (plug w t) ≡ true → sound t ≡ true
sound_part here t s = s
sound_part (into_left w e b r) t s = sound_part w t (sound_apart (plug w t) e b r s).0
sound_part (into_child l e w r) t s = sound_part w t (sound_apart l e (plug w t) r s).1
sound_part (into_right l e b w) t s = sound_part w t (sound_apart l e b (plug w t) s).2

every_part : (q : NodeTest) (w : Way) (t : Forest) → every_node q (plug w t) ≡ true → every_node q t ≡ true
every_part q here t s = s
every_part q (into_left w e b r) t s = every_part q w t (every_node_apart q (plug w t) e b r s).1
every_part q (into_child l e w r) t s = every_part q w t (every_node_apart q l e (plug w t) r s).2
every_part q (into_right l e b w) t s = every_part q w t (every_node_apart q l e b (plug w t) s).3

-- a whole tree of siblings has a black top
black_part : (d : Directory) (w : Way) (k : Field) (t : Forest) → slot_field w k ≡ child_field
    → (k ≡ child_field → top_black d (plug w t) ≡ true) → every_node (coloured d) (plug w t) ≡ true → top_black d t ≡ true
unfolding coloured
black_part d here k t e b s = b e
black_part d (into_left w x b r) k t e h s =
    black_part d w left_field t e (λ z. absurd (left_child z)) (every_node_apart (coloured d) (plug w t) x b r s).1
black_part d (into_child l x w r) k t e h s =
    let u = every_node_apart (coloured d) l x (plug w t) r s in
    black_part d w child_field t e (λ z. (both (not (red d x) || (top_black d l && top_black d r)) (top_black d (plug w t)) u.0).1) u.2
black_part d (into_right l x b w) k t e h s =
    black_part d w right_field t e (λ z. absurd (child_right (sym z))) (every_node_apart (coloured d) l x b (plug w t) s).3

pub named_of : (d : Directory) (x : ℕ) → 0 < x → x < rows d → named d x ≡ true
named_of d x a i = and_true_of (ltb 0 x) (ltb x (rows d)) (lt-ltb 0 x a) (lt-ltb x (rows d) i)

-- ---- a drawn forest

pub draws_part : (d : Directory) (w : Way) (t : Forest) → Draws d (plug w t) → Draws d t
draws_part d here t q = q
draws_part d (into_left w e b r) t q = draws_part d w t q.1
draws_part d (into_child l e w r) t q = draws_part d w t q.2
draws_part d (into_right l e b w) t q = draws_part d w t q.3

-- NOSTREAM names nothing
pub draws_none : (d : Directory) (t : Forest) → Draws d t → top t ≡ NOSTREAM → t ≡ empty
draws_none d empty q e = refl
draws_none d broken q e = absurd q
draws_none d (node l x b r) q e = absurd (q.0.real e)

-- ---- the whole forest, taken apart at a way

module _ (d : Directory) (w : Way) (t : Forest) (old : whole d ≡ plug w t) (r : Rules d) where
  pub old_drawn : Draws d (plug w t)
  old_drawn = rw old at (sound_draws d (child_of d 0) (shape_sound d r.shape)).0

  pub old_root : child_of d 0 ≡ top (plug w t)
  old_root = rw old at (sym (sound_draws d (child_of d 0) (shape_sound d r.shape)).1)

  pub old_once : (y : ℕ) → count y (entries (plug w t)) ≤ 1
  old_once y = rw old at (entries_once d r.shape y)

  pub part_sound : sound t ≡ true
  part_sound = sound_part w t (rw old at (shape_sound d r.shape))

  pub part_drawn : Draws d t
  part_drawn = draws_part d w t old_drawn

  pub part_every : (q : NodeTest) → every_node q (whole d) ≡ true → every_node q t ≡ true
  part_every q s = every_part q w t (rw old at s)

  pub part_black : slot_field w child_field ≡ child_field → top_black d t ≡ true
  part_black e = black_part d w child_field t e (λ z. rw old at r.top) (rw old at r.paint)

  -- no entry of the tree is outside it, and none is the entry whose field names the tree
  pub part_apart : (y : ℕ) → 0 < count y (entries t) → count y (entries (plug w empty)) ≡ 0
  part_apart y h = omega (arith, count_plug y w t, old_once y)

  pub part_other : (y : ℕ) → 0 < count y (entries t) → y ≢ slot_entry w 0
  part_other y h e =
      elim (still_or_deep w child_field 0) [
        | inl s ↦
            let z = ap (λ (i : ℕ). count i (entries t)) (e ∙ s.entry) in
            omega (arith, drawn_above d t part_drawn)
        | inr s ↦
            let z = ap (λ (i : ℕ). count i (entries (plug w empty))) e in
            omega (arith, part_apart y h, s.outside)
      ]
