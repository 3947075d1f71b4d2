-- Both kinds of removal by fields: past an empty side, and with an heir.
use mathlib.Core.Path.{◌≡◌, refl, sym, ap, ◌∙◌}
use mathlib.Core.Logic.{◌≢◌, ◌⊎◌, inl, inr}
use Prim.Native.Nat.{ℕ, ◌+◌, ◌≤◌, ◌<◌}
use native.Mathlib.Omega.{arith}
use lib.Dec.{eqb}
use Rattle.format.specs.Basics.Lists.{bit, count}
use Rattle.format.specs.Layout.Directory.{Directory}
use Rattle.format.specs.Layout.Tree.{Forest, empty, broken, node, entries, siblings}
use Rattle.theory.specs.TreeOrder.{Rules}
use Rattle.theory.specs.TreeDraw.{link, Draws, SameLinks}
use Rattle.theory.specs.TreeWays.{Way, here, into_left, into_child, into_right, plug, Level, slot_field, slot_entry}
use Rattle.theory.specs.TreeEdits.{Removed}
use Rattle.theory.specs.TreeUnlink.{Rightward, Located, Bypassed, Inherited, Blanked}
use Rattle.theory.proofs.Counts.{bit_self}
use Rattle.theory.proofs.Trees.Grow.{count_node}
use Rattle.theory.proofs.Trees.Draw.{draws_kept}
use Rattle.theory.proofs.Trees.Ways.{count_plug, apart_of, child_right, still_or_deep, Deep}
use Rattle.theory.proofs.Trees.Replace.{plug_draws}
use Rattle.theory.proofs.Trees.Parts.{draws_part}
use Rattle.theory.proofs.Trees.Faces.{count_siblings_node}
use Rattle.theory.proofs.Trees.Unlink.{heir_joined, level_slot, siblings_count, it_drawn, way_once, inside_aside, unlinked}
use Rattle.format.specs.Layout.Entry.{Field, left_field, child_field, right_field}
use Rattle.format.specs.Layout.Siblings.{top, sides_joined}

pub joined_none : (d : Directory) (l : Forest) → Draws d l → sides_joined l empty ≡ l
unfolding sides_joined
joined_none d empty q = refl
joined_none d broken q = absurd q
joined_none d (node l e b r) q = refl

pub joined_right : (r : Forest) → sides_joined empty r ≡ r
unfolding sides_joined
joined_right r = refl

-- ---- past an empty side

module _ (d d₂ : Directory) (w v : Way) (t l : Forest) (x : ℕ) (r : Forest) (c : Located d w v t l x r) (k : Rules d) (b : Blanked d d₂ t x) (p : Bypassed d d₂ w v l x r) where
  same_inside : (y : ℕ) → 0 < count y (entries (node l x empty r)) → y ≢ x → SameLinks d d₂ y
  same_inside y h z = record { lefts = go left_field; below = go child_field; rights = go right_field }
    where
      go : (j : Field) → link d₂ j y ≡ link d j y
      go j = p.kept j y (z, inside_aside d d₂ w v t l x r c k b.rows_same y h j)

  side_drawn : (f : Forest) → Draws d f → ((y : ℕ) → count y (entries f) + bit (eqb y x) ≤ count y (entries (node l x empty r))) → Draws d₂ f
  side_drawn f q h =
      draws_kept d d₂ b.rows_same f q (λ y i.
      same_inside y (omega (arith, h y)) (apart_of y x (omega (arith, h y, way_once d d₂ w v t l x r c k b.rows_same y))))

  other_side : Draws d₂ (sides_joined l r)
  other_side =
      let q = it_drawn d d₂ w v t l x r c k b.rows_same in
      elim p.bare [
        | inl e ↦ rw (e, joined_right r) (side_drawn r q.3 (λ y. omega (arith, count_node y l x empty r)))
        | inr e ↦ rw (e, joined_none d l q.1) (side_drawn l q.1 (λ y. omega (arith, count_node y l x empty r)))
      ]

  pub bypassed : Removed d d₂ w t x
  bypassed = unlinked d d₂ w v t l x r c k b.rows_same (λ j y s o. p.kept j y s) p.slot other_side b

-- ---- with an heir

right_level : (u : Way) → Rightward u → Level u
right_level here q = tt
right_level (into_left w e b r) q = absurd q
right_level (into_child l e w r) q = absurd q
right_level (into_right l e b w) q = right_level w q

right_slot : (u : Way) → Rightward u → slot_field u right_field ≡ right_field
right_slot here q = refl
right_slot (into_left w e b r) q = absurd q
right_slot (into_child l e w r) q = absurd q
right_slot (into_right l e b w) q = right_slot w q

right_field_lem : (u : Way) (k : Field) → Rightward u → ((f : Forest) → plug u f ≡ f) ⊎ (slot_field u k ≡ right_field)
right_field_lem here k q = inl (λ f. refl)
right_field_lem (into_left w e b r) k q = absurd q
right_field_lem (into_child l e w r) k q = absurd q
right_field_lem (into_right l e b w) k q = inr (right_slot w q)

module _ (d d₂ : Directory) (w v u : Way) (t hl : Forest) (h : ℕ) (hb : Forest) (x : ℕ) (r : Forest)
    (c : Located d w v t (plug u (node hl h hb empty)) x r) (k : Rules d) (b : Blanked d d₂ t x) (p : Inherited d d₂ w v u hl h hb x r) where
  abbrev side : Forest
  side = plug u (node hl h hb empty)

  drawn : Draws d (node side x empty r)
  drawn = it_drawn d d₂ w v t side x r c k b.rows_same

  heir_drawn : Draws d (node hl h hb empty)
  heir_drawn = draws_part d u (node hl h hb empty) drawn.1

  -- each entry stands in one part only
  once : (y : ℕ) → bit (eqb y x) + (bit (eqb y h) + (count y (entries (plug u empty)) + (count y (entries hl) + (count y (entries hb) + count y (entries r))))) ≤ 1
  unfolding entries
  once y =
      omega (arith, way_once d d₂ w v t side x r c k b.rows_same y, count_node y side x empty r, count_plug y u (node hl h hb empty), count_node y hl h hb empty)

  within : (y : ℕ) → count y (entries (node side x empty r))
      ≡ bit (eqb y x) + (bit (eqb y h) + (count y (entries (plug u empty)) + (count y (entries hl) + (count y (entries hb) + count y (entries r)))))
  unfolding entries
  within y = omega (arith, count_node y side x empty r, count_plug y u (node hl h hb empty), count_node y hl h hb empty)

  -- the heir's old place is that of the left side's top, or a field on the way to it
  old_place : (slot_entry u x ≡ x) ⊎ (0 < count (slot_entry u x) (entries (plug u empty)))
  old_place = elim (still_or_deep u left_field x) [ inl s ↦ inl s.entry | inr s ↦ inr s.outside ]

  -- what is neither the heir nor on the way to it keeps its fields
  same_part : (y : ℕ) → 0 < count y (entries hl) + (count y (entries hb) + count y (entries r)) → SameLinks d d₂ y
  same_part y i = record { lefts = go left_field; below = go child_field; rights = go right_field }
    where
      go : (j : Field) → link d₂ j y ≡ link d j y
      go j =
          p.kept j y
          (apart_of y x (omega (arith, once y)), inside_aside d d₂ w v t side x r c k b.rows_same y (omega (arith, within y)) j)
          (inr (apart_of y h (omega (arith, once y))))
          (λ e z.
          elim old_place [
            | inl q ↦ apart_of y x (omega (arith, once y)) (z ∙ q)
            | inr q ↦ omega (arith, once y, q, ap (λ (m : ℕ). count m (entries (plug u empty))) z)
          ])

  part_drawn : (f : Forest) → Draws d f → ((y : ℕ) → count y (entries f) ≤ count y (entries hl) + (count y (entries hb) + count y (entries r))) → Draws d₂ f
  part_drawn f q i = draws_kept d d₂ b.rows_same f q (λ y m. same_part y (omega (arith, i y)))

  -- the left side without the heir
  rest_drawn : Draws d₂ (plug u hl)
  rest_drawn =
      elim (right_field_lem u left_field p.right) [
        | inl e ↦ rw (e hl) hl_drawn
        | inr e ↦ elim (still_or_deep u left_field x) [ inl s ↦ rw (s.whole_is hl) hl_drawn | inr s ↦ deep e s ]
      ]
    where
      hl_drawn : Draws d₂ hl
      hl_drawn = part_drawn hl heir_drawn.1 (λ y. omega arith)

      deep : slot_field u left_field ≡ right_field → Deep u x → Draws d₂ (plug u hl)
      deep e s =
          plug_draws d d₂ b.rows_same (node hl h hb empty) hl hl_drawn u left_field x drawn.1 (λ y. omega (arith, once y))
          (λ j y i a.
          p.kept j y
          (apart_of y x (omega (arith, once y)), inside_aside d d₂ w v t side x r c k b.rows_same y (omega (arith, within y)) j)
          (inr (apart_of y h (omega (arith, once y))))
          (λ q z. a (q ∙ sym e) z))
          (rw e (p.freed (λ z. omega (arith, once x, bit_self x, s.outside, ap (λ (m : ℕ). count m (entries (plug u empty))) z))))

  heir_placed : Draws d₂ (node (plug u hl) h hb r)
  heir_placed = (
    record {
      real = heir_drawn.0.real;
      name = rw b.rows_same heir_drawn.0.name;
      lefts = p.lefts;
      below = p.kept child_field h
          (apart_of h x (omega (arith, once h, bit_self h)), inside_aside d d₂ w v t side x r c k b.rows_same h (omega (arith, within h, bit_self h)) child_field)
          (inl refl) (λ e z. child_right e) ∙ heir_drawn.0.below;
      rights = p.rights;
    },
    rest_drawn,
    part_drawn hb heir_drawn.2 (λ y. omega arith),
    part_drawn r drawn.3 (λ y. omega arith),
  )

  is_joined : sides_joined side r ≡ node (plug u hl) h hb r
  is_joined = heir_joined d hl h hb u r p.right drawn.3 p.some

  pub inherited : Removed d d₂ w t x
  inherited =
      unlinked d d₂ w v t side x r c k b.rows_same
      (λ j y s o.
      p.kept j y s
      (elim o [
        | inl e ↦ inl e
        | inr z ↦ inr (λ e. omega (arith, among, ap (λ (m : ℕ). count m (siblings side)) e))
      ])
      (λ e q.
      elim o [
        | inl f ↦ child_right (sym f ∙ e)
        | inr z ↦
            elim (level_slot u left_field x (right_level u p.right)) [
              | inl m ↦ s.0 (q ∙ m.entry)
              | inr m ↦
                  let a = siblings_count (slot_entry u x) u (node hl h hb empty) (right_level u p.right) in
                  omega (arith, m.0, ap (λ (i : ℕ). count i (siblings side)) q)
            ]
      ]))
      (p.slot ∙ ap top (sym is_joined)) (rw is_joined heir_placed) b
    where
      among : 0 < count h (siblings side)
      among = omega (arith, siblings_count h u (node hl h hb empty) (right_level u p.right), count_siblings_node h hl h hb empty, bit_self h)
