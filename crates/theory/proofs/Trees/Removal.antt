-- A node removed: the forest of the new directory is the old one without it, and group 15 holds as before.
use Prim.Native.Nat.{ℕ, ◌+◌, ◌≤◌, ◌<◌}
use mathlib.Core.Path.{◌≡◌, sym, ap, ◌∙◌, subst}
use mathlib.Core.Logic.{◌≢◌, inl, inr}
use mathlib.Core.Bool.{true}
use mathlib.Core.List.{List, ◌∷◌, ◌++◌, append_assoc}
use native.Mathlib.Omega.{arith}
use lib.Dec.{eqb}
use Rattle.format.specs.Basics.Lists.{bit, count}
use Rattle.format.specs.Layout.Entry.{NOSTREAM, Field, left_field, child_field, right_field}
use Rattle.format.specs.Layout.Directory.{Directory}
use Rattle.format.specs.Layout.Tree.{Forest, empty, node, entries, siblings}
use Rattle.format.specs.Layout.Siblings.{sides_joined, without_node}
use Rattle.format.specs.Rules.Trees.{is_object, sides_ordered, coloured, tree_rules}
use Rattle.theory.specs.TreeViews.{rows, child_of, whole}
use Rattle.theory.specs.TreeOrder.{Rules}
use Rattle.theory.specs.TreeDraw.{link, Draws, SameLinks}
use Rattle.theory.specs.TreeWays.{Way, plug, Aside, listed_before, listed_after, SameColour, Replaced, Regrown}
use Rattle.theory.specs.TreeEdits.{Removed}
use Rattle.theory.proofs.Counts.{eqb_cases, bit_self, count_append}
use Rattle.theory.proofs.Trees.Nodes.{shape_count}
use Rattle.theory.proofs.Trees.Rules.{rules_apart, rules_join}
use Rattle.theory.proofs.Trees.Names.{names_ordered}
use Rattle.theory.proofs.Trees.Find.{entries_ordered}
use Rattle.theory.proofs.Trees.Draw.{draws_sound}
use Rattle.theory.proofs.Trees.Ways.{count_plug, entries_plug}
use Rattle.theory.proofs.Trees.Replace.{drawn_above, replaced_draws, replaced_whole, drawn_positive}
use Rattle.theory.proofs.Trees.Faces.{siblings_few, sorted_kept, regrown_rules}
use Rattle.theory.proofs.Trees.Parts.{draws_part, draws_none, part_drawn, part_every, part_apart, part_other, old_drawn, old_root, old_once}
use Rattle.theory.proofs.Trees.Remove.{joined_entries, Spot, spot, removed_sorted}
use Rattle.theory.proofs.Trees.Each.{Each, Body, belows, count_level, removed_each, other_each, removed_gone, shaped_draws, shaped_paint, bodies}

-- ---- where the node had nothing below it, it alone is missed

module _ (d : Directory) (x : ℕ) (t : Forest) (q : Draws d t) (none : child_of d x ≡ NOSTREAM) (s : Spot x t) where
  pub spot_empty : s.below ≡ empty
  spot_empty =
      let k = draws_part d s.way (node s.lefts x s.below s.rights) (subst (Draws d) s.before q) in
      draws_none d s.below k.2 (sym k.0.below ∙ none)

  -- the listing before and after
  abbrev pub spot_before : List ℕ
  spot_before = listed_before s.way ++ entries s.lefts

  abbrev pub spot_after : List ℕ
  spot_after = entries s.rights ++ listed_after s.way

  pub spot_old : entries t ≡ spot_before ++ (x ∷ spot_after)
  unfolding entries
  spot_old = ap entries s.before ∙ entries_plug s.way (node s.lefts x s.below s.rights) ∙ rw spot_empty (simp append_assoc)

  pub spot_new : entries (without_node x t) ≡ spot_before ++ spot_after
  spot_new = ap entries s.after ∙ entries_plug s.way (sides_joined s.lefts s.rights) ∙ rw (joined_entries s.lefts s.rights) (simp append_assoc)

  pub count_removed : (y : ℕ) → count y (entries t) ≡ bit (eqb y x) + count y (entries (without_node x t))
  count_removed y =
      omega (arith, ap (count y) spot_old, ap (count y) spot_new, count_append y spot_before (x ∷ spot_after), count_append y spot_before spot_after)

-- ---- the edit

module _ (d d₂ : Directory) (w : Way) (t : Forest) (x : ℕ) (c : Removed d d₂ w t x) (r : Rules d) where
  -- the new tree of siblings
  abbrev pub t₂ : Forest
  t₂ = without_node x t

  pub drawn : Draws d t
  drawn = part_drawn d w t c.old r

  once : (y : ℕ) → count y (entries t) ≤ 1
  once y = omega (arith, old_once d w t c.old r y, count_plug y w t)

  pub x_in : 0 < count x (entries t)
  x_in = omega (arith, siblings_few x t, c.among)

  pub removed_at : Spot x t
  removed_at = spot x t c.among (omega (arith, siblings_few x t, once x))

  counted : (y : ℕ) → count y (entries t) ≡ bit (eqb y x) + count y (entries t₂)
  counted = count_removed d x t drawn c.childless removed_at

  -- ---- the links

  kept_below : (y : ℕ) → 0 < count y (belows t) → (SameLinks d d₂ y) × (SameColour d d₂ y)
  kept_below y h =
      let l = count_level y t in
      let z : count y (siblings t) ≡ 0 = omega (arith, once y) in
      let k = c.sides_kept y z in (
        record {
          lefts = k.0;
          below = c.below_kept y (λ e. omega (arith, ap (λ (i : ℕ). count i (siblings t)) e, c.among)) (part_other d w t c.old r y (omega arith));
          rights = k.1;
        },
        c.colours y z,
      )

  body : Each (Body d₂) t₂
  body =
      other_each (Body d₂) x t₂ (removed_gone x t (omega (arith, siblings_few x t, once x)))
      (removed_each (λ e b. e ≢ x → Body d₂ e b) x t
      (bodies d d₂ x c.rows_same t drawn (part_every d w t c.old r (coloured d) r.paint)
      (λ y h k. c.below_kept y k (part_other d w t c.old r y (omega (arith, siblings_few y t)))) kept_below))

  new_drawn : Draws d₂ t₂
  new_drawn = shaped_draws d₂ t₂ c.shaped body

  -- what is outside the tree of siblings, the root with it
  kept_outside : (k : Field) (y : ℕ) → count y (entries t) ≡ 0 → Aside w child_field 0 k y → link d₂ k y ≡ link d k y
  kept_outside left_field y z a = (c.sides_kept y (omega (arith, siblings_few y t))).0
  kept_outside right_field y z a = (c.sides_kept y (omega (arith, siblings_few y t))).1
  kept_outside child_field y z a =
      c.below_kept y (λ e. omega (arith, ap (λ (i : ℕ). count i (entries t)) e, x_in)) (λ e. a (sym c.ends) e)

  links : Replaced d d₂ w t t₂
  links = record {
    rows_same = c.rows_same;
    drawn = old_drawn d w t c.old r;
    root = old_root d w t c.old r;
    once = λ y. omega (arith, old_once d w t c.old r y, count_plug y w t);
    kept = λ k y o a.
        kept_outside k y
        (elim o [
          | inl e ↦ rw e (drawn_above d t drawn)
          | inr h ↦ omega (arith, old_once d w t c.old r y, count_plug y w t)
        ]) a;
    slot = rw c.ends c.slot;
    drawn_new = new_drawn;
  }

  -- the new forest
  pub removed_whole : whole d₂ ≡ plug w t₂
  removed_whole = replaced_whole d d₂ w t t₂ links

  -- ---- group 15

  pub left_over : (y : ℕ) → 0 < count y (entries t₂) → y ≢ x
  left_over y h e = omega (arith, counted x, once x, bit_self x, ap (λ (i : ℕ). count i (entries t₂)) e)

  pub outside : (y : ℕ) → 0 < count y (entries (plug w empty)) → (y ≢ x) × (count y (siblings t) ≡ 0)
  outside y h = (
    λ e. omega (arith, part_apart d w t c.old r x x_in, ap (λ (i : ℕ). count i (entries (plug w empty))) e),
    omega (arith, old_once d w t c.old r y, count_plug y w t, siblings_few y t),
  )

  pub left_positive : (y : ℕ) → 0 < count y (entries (plug w t₂)) → 0 < y
  left_positive y h =
      drawn_positive d (plug w t) (old_drawn d w t c.old r) y (omega (arith, count_plug y w t, count_plug y w t₂, counted y))

  counts : (y : ℕ) → y < rows d → count y (entries (plug w empty)) + count y (entries t₂) ≡ bit (is_object d₂ y)
  counts y h =
      let a = counted y in
      let b = count_plug y w t in
      let s : count y (entries (plug w t)) ≡ bit (is_object d y) = rw c.old at (shape_count d r.shape y h) in
      elim (eqb_cases y x) [
        | inl e ↦ rw e.0 (omega (arith, part_apart d w t c.old r x x_in, counted x, once x, bit_self x, ap bit c.blank))
        | inr e ↦ let k = ap bit (c.kind_same y e.0) in omega (arith, ap bit e.1)
      ]

  regrown : Regrown d d₂ w t t₂
  regrown = record {
    rows_same = c.rows_same;
    old = c.old;
    new = removed_whole;
    new_sound = draws_sound d₂ (plug w t₂) (replaced_draws d d₂ w t t₂ links);
    ends = c.ends;
    names = λ y h. c.names y (outside y h).0 (left_positive y (omega (arith, count_plug y w t₂)));
    colours = λ y h. c.colours y (outside y h).1;
    counts = counts;
    sorted =
        sorted_kept d d₂ t₂ (λ y h. c.names y (left_over y h) (left_positive y (omega (arith, count_plug y w t₂))))
        (removed_sorted d (entries_ordered d names_ordered) x t (part_every d w t c.old r (sides_ordered d) r.sorted));
    top_black_lem = (shaped_paint d₂ t₂ c.shaped body).0;
    paint = (shaped_paint d₂ t₂ c.shaped body).1;
  }

  pub removed_rules : Rules d₂
  removed_rules = regrown_rules d d₂ w t t₂ regrown r

pub removed_tree_rules : (d d₂ : Directory) (w : Way) (t : Forest) (x : ℕ) → Removed d d₂ w t x → tree_rules d ≡ true → tree_rules d₂ ≡ true
removed_tree_rules d d₂ w t x c r = rules_join d₂ (removed_rules d d₂ w t x c (rules_apart d r))
