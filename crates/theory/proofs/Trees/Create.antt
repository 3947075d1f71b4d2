-- A leaf created: the forest of the new directory is the old one with the leaf put in, and group 15 holds as before.
use Prim.Native.Nat.{ℕ, zero, suc, ◌+◌, ◌<◌}
use mathlib.Core.Path.{◌≡◌, refl, ap, ap₂, ◌∙◌}
use mathlib.Core.Logic.{◌≢◌, inl, inr}
use mathlib.Core.Bool.{Bool, true, false, cond}
use native.Mathlib.Omega.{arith}
use Rattle.format.specs.Basics.Lists.{bit, count}
use Rattle.format.specs.Layout.Name.{Name, name_less, name_equal, fold}
use Rattle.format.specs.Layout.Entry.{name}
use Rattle.format.specs.Layout.Directory.{Directory}
use Rattle.format.specs.Layout.Tree.{Forest, empty, broken, node, entries, siblings}
use Rattle.format.specs.Layout.Siblings.{goes_left}
use Rattle.format.specs.Rules.Trees.{sound, is_object, less, sides_ordered, coloured, tree_rules}
use Rattle.format.specs.Calls.Find.{Child, missing, present, or_else, child_named}
use Rattle.theory.specs.TreeViews.{rows, whole}
use Rattle.theory.specs.TreeOrder.{Rules}
use Rattle.theory.specs.TreeDraw.{Draws}
use Rattle.theory.specs.TreeWays.{Way, plug, SameName, SameColour, Replaced, Regrown}
use Rattle.theory.specs.TreeEdits.{leaf, inserted, way_to, leaf_way, Created}
use Rattle.theory.proofs.Counts.{eqb_cases, bit_self}
use Rattle.theory.proofs.Tests.{clash}
use Rattle.theory.proofs.NameOrder.{by_three, less_is, equal_is}
use Rattle.theory.proofs.Trees.Nodes.{shape_count}
use Rattle.theory.proofs.Trees.Rules.{rules_apart, rules_join}
use Rattle.theory.proofs.Trees.Draw.{draws_sound}
use Rattle.theory.proofs.Trees.Ways.{count_plug, plug_onward}
use Rattle.theory.proofs.Trees.Replace.{replaced_draws, replaced_whole, drawn_positive}
use Rattle.theory.proofs.Trees.Faces.{count_siblings_node, siblings_few, sorted_kept, black_kept, paint_kept, regrown_rules}
use Rattle.theory.proofs.Trees.Parts.{named_of, part_sound, part_every, part_black, old_drawn, old_root, old_once}
use Rattle.theory.proofs.Trees.Insert.{way_to_old, way_to_new, count_inserted, inserted_sorted, inserted_black, inserted_paint}

-- ---- no sibling has the name

or_none : (a b : Child) → or_else a b ≡ missing → (a ≡ missing) × (b ≡ missing)
unfolding or_else
or_none missing b h = (refl, h)
or_none (present e t) b h = let z : ◌≡◌ {A = ℕ} 0 1 = cc in absurd (omega arith)

pub none_named : (d : Directory) (n : Name) (t : Forest) → child_named d n t ≡ missing
    → (y : ℕ) → 0 < count y (siblings t) → name_equal n (name (d.entry y)) ≡ false
unfolding child_named siblings
none_named d n empty h y c = absurd (omega arith)
none_named d n broken h y c = absurd (omega arith)
none_named d n (node l e b r) h y c =
    let u = or_none (child_named d n l) (or_else (cond (name_equal n (name (d.entry e))) (present e b) missing) (child_named d n r)) h in
    let v = or_none (cond (name_equal n (name (d.entry e))) (present e b) missing) (child_named d n r) u.1 in
    elim (eqb_cases y e) [
      | inl z ↦ ap (λ (i : ℕ). name_equal n (name (d.entry i))) z.0 ∙ go (name_equal n (name (d.entry e))) v.0
      | inr z ↦ rest (count y (siblings l)) refl (omega (arith, count_siblings_node y l e b r, ap bit z.1)) (none_named d n l u.0 y) (none_named d n r v.1 y)
    ]
  where
    go : (a : Bool) → cond a (present e b) missing ≡ missing → a ≡ false
    go true q = let z : ◌≡◌ {A = ℕ} 0 1 = cc in absurd (omega arith)
    go false q = refl

    rest : (k : ℕ) → count y (siblings l) ≡ k → 0 < count y (siblings l) + count y (siblings r)
        → (0 < count y (siblings l) → name_equal n (name (d.entry y)) ≡ false) → (0 < count y (siblings r) → name_equal n (name (d.entry y)) ≡ false)
        → name_equal n (name (d.entry y)) ≡ false
    rest zero e s hl hr = hr (omega arith)
    rest (suc k) e s hl hr = hl (omega arith)

-- ---- the edit

module _ (d d₂ : Directory) (w : Way) (t : Forest) (n : Name) (x : ℕ) (c : Created d d₂ w t n x) (r : Rules d) where
  abbrev pub p : ℕ → Bool
  p = goes_left d n

  -- the new tree of siblings
  abbrev pub t₂ : Forest
  t₂ = inserted p x t

  tree_sound : sound t ≡ true
  tree_sound = part_sound d w t c.old r

  -- the entry stood nowhere
  nowhere : count x (entries (plug w t)) ≡ 0
  nowhere = rw c.old at (shape_count d r.shape x c.inside ∙ ap bit c.blank)

  pub old_plug : plug (leaf_way d n w t) empty ≡ plug w t
  old_plug = plug_onward w (way_to p t) empty ∙ ap (plug w) (way_to_old p x t tree_sound)

  pub new_plug : plug (leaf_way d n w t) (leaf x) ≡ plug w t₂
  new_plug = plug_onward w (way_to p t) (leaf x) ∙ ap (plug w) (way_to_new p x t tree_sound)

  pub other : (y : ℕ) → 0 < count y (entries (plug w t)) → y ≢ x
  other y h e = omega (arith, nowhere, ap (λ (i : ℕ). count i (entries (plug w t))) e)

  pub standing : (y : ℕ) → 0 < count y (entries (plug w t)) → 0 < y
  standing = drawn_positive d (plug w t) (old_drawn d w t c.old r)

  links : Replaced d d₂ (leaf_way d n w t) empty (leaf x)
  links = record {
    rows_same = c.rows_same;
    drawn = rw old_plug (old_drawn d w t c.old r);
    root = rw old_plug (old_root d w t c.old r);
    once = λ y. rw old_plug (old_once d w t c.old r y);
    kept = λ k y o a.
        c.kept k y
        (elim o [
          | inl e ↦ λ z. omega (arith, c.above, e, z)
          | inr h ↦ other y (rw old_plug at h)
        ]) a;
    slot = c.slot;
    drawn_new = (
      record {
        real = c.real;
        name = named_of d₂ x c.above (omega (arith, c.inside, c.rows_same));
        lefts = c.lefts;
        below = c.below;
        rights = c.rights;
      },
      tt,
      tt,
      tt,
    );
  }

  new_drawn : Draws d₂ (plug w t₂)
  new_drawn = rw new_plug at (replaced_draws d d₂ (leaf_way d n w t) empty (leaf x) links)

  -- the new forest
  pub created_whole : whole d₂ ≡ plug w t₂
  created_whole = replaced_whole d d₂ (leaf_way d n w t) empty (leaf x) links ∙ new_plug

  -- ---- group 15

  names_in : (y : ℕ) → 0 < count y (entries t) → SameName d d₂ y
  names_in y h = c.names y (other y (omega (arith, count_plug y w t))) (standing y (omega (arith, count_plug y w t)))

  colours_in : (y : ℕ) → 0 < count y (entries t) → SameColour d d₂ y
  colours_in y h = c.colours y (other y (omega (arith, count_plug y w t)))

  sides : (y : ℕ) → 0 < count y (siblings t) → (p y ≡ true → less d₂ x y ≡ true) × (p y ≡ false → less d₂ y x ≡ true)
  unfolding goes_left less
  sides y h =
      let f = names_in y (omega (arith, siblings_few y t)) in
      let e = none_named d n t c.free y h in
      let m = name (d.entry y) in (
        λ q. ap₂ name_less c.name_new f ∙ q,
        λ q.
            ap₂ name_less f c.name_new
            ∙ elim (by_three fold n m) [
              | inl z ↦ absurd (clash (less_is n m ∙ z) q)
              | inr (inl z) ↦ absurd (clash (equal_is n m ∙ z) e)
              | inr (inr z) ↦ less_is m n ∙ z
            ],
      )

  counts : (y : ℕ) → y < rows d → count y (entries (plug w empty)) + count y (entries t₂) ≡ bit (is_object d₂ y)
  counts y h =
      let a = count_inserted p x y t tree_sound in
      let b = count_plug y w t in
      let s : count y (entries (plug w t)) ≡ bit (is_object d y) = rw c.old at (shape_count d r.shape y h) in
      elim (eqb_cases y x) [
        | inl e ↦
            let a₀ = count_inserted p x x t tree_sound in
            let b₀ = count_plug x w t in
            rw e.0 (omega (arith, nowhere, ap bit c.object, bit_self x))
        | inr e ↦ let k = ap bit (c.kind_same y e.0) in omega (arith, ap bit e.1)
      ]

  regrown : Regrown d d₂ w t t₂
  regrown = record {
    rows_same = c.rows_same;
    old = c.old;
    new = created_whole;
    new_sound = draws_sound d₂ (plug w t₂) new_drawn;
    ends = c.ends;
    names = λ y h. c.names y (other y (omega (arith, count_plug y w t))) (standing y (omega (arith, count_plug y w t)));
    colours = λ y h. c.colours y (other y (omega (arith, count_plug y w t)));
    counts = counts;
    sorted = inserted_sorted p x d₂ t (sorted_kept d d₂ t names_in (part_every d w t c.old r (sides_ordered d) r.sorted)) sides;
    top_black_lem = inserted_black p x d₂ c.black t (black_kept d d₂ t colours_in (part_black d w t c.old r c.ends));
    paint = inserted_paint p x d₂ c.black t (paint_kept d d₂ t colours_in (part_every d w t c.old r (coloured d) r.paint));
  }

  pub created_rules : Rules d₂
  created_rules = regrown_rules d d₂ w t t₂ regrown r

pub created_tree_rules : (d d₂ : Directory) (w : Way) (t : Forest) (n : Name) (x : ℕ) → Created d d₂ w t n x → tree_rules d ≡ true → tree_rules d₂ ≡ true
created_tree_rules d d₂ w t n x c r = rules_join d₂ (created_rules d d₂ w t n x c (rules_apart d r))
