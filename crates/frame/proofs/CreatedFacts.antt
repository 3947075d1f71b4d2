-- The field that is to name a new object, and the entry that it gets.
use Prim.Native.Nat.{ℕ, ◌<◌}
use mathlib.Core.Path.{◌≡◌, refl, sym, ap, ◌∙◌, subst}
use mathlib.Core.Logic.{◌≢◌, ◌⊎◌, inl, inr}
use mathlib.Core.Bool.{Bool, true, false}
use mathlib.Core.List.{List}
use native.Mathlib.Omega.{arith}
use native.Mathlib.Decide.{dec_lt}
use borrow.Author.Tests.{eqb-true}
use Rattle.format.specs.Basics.Lists.{bit, count}
use Rattle.format.specs.Basics.Bytes.{Bytes}
use Rattle.format.specs.Layout.Geometry.{Geometry}
use Rattle.format.specs.Layout.Name.{Name}
use Rattle.format.specs.Layout.Entry.{left_field, child_field, right_field, kind, is_blank, is_stream}
use Rattle.format.specs.Layout.Directory.{Directory}
use Rattle.format.specs.Layout.Tree.{Forest, empty, broken, node, entries}
use Rattle.format.specs.Layout.Siblings.{Slot, slot_in, goes_left}
use Rattle.format.specs.Layout.Volume.{volume, directory}
use Rattle.format.specs.Rules.Trees.{is_object, sound}
use Rattle.theory.specs.TreeViews.{whole}
use Rattle.theory.specs.TreeWays.{Way, plug, slot_field, slot_entry}
use Rattle.theory.specs.TreeEdits.{way_to, leaf_way}
use Rattle.theory.specs.TreeObjects.{PathWay}
use Rattle.theory.specs.TreeOrder.{Rules}
use Rattle.theory.proofs.Tests.{clash}
use Rattle.theory.proofs.Trees.Insert.{either, way_to_level, way_to_old}
use Rattle.theory.proofs.Trees.Ways.{slot_onward, plug_onward, still_or_deep}
use Rattle.theory.proofs.Trees.Unlink.{level_slot}
use Rattle.theory.proofs.Trees.Parts.{part_sound}
use Rattle.theory.proofs.Trees.Nodes.{shape_count, reached_inside}
use Rattle.theory.proofs.Trees.Rules.{rules_apart}
use Rattle.theory.proofs.Trees.PathWays.{root_way}
use Rattle.frame.specs.Place.{Creating, hook_at}
use Rattle.frame.proofs.EntryFacts.{entry_fields_lem, root_not_blank}

-- the hook is the field at the end of the leaf's way
pub hook_way : (p : ℕ → Bool) (h : Slot) (t : Forest) → ((slot_in p h t).entry ≡ slot_entry (way_to p t) h.entry) × ((slot_in p h t).field ≡ slot_field (way_to p t) h.field)
unfolding slot_in way_to
hook_way p h empty = (refl, refl)
hook_way p h broken = (refl, refl)
hook_way p h (node l e b r) =
    elim (either (p e)) [
      | inl q ↦ rw q (hook_way p (record { entry = e; field = left_field }) l)
      | inr q ↦ rw q (hook_way p (record { entry = e; field = right_field }) r)
    ]

module _ {g : Geometry} {img : Bytes} {n : Name} {ns : List Name} {s : ℕ} {b : Forest} {x : ℕ} (c : Creating g img n ns s b x) where
  abbrev d : Directory
  d = (volume g img).directory

  abbrev pub rules : Rules d
  rules = rules_apart d c.good.trees

  abbrev pub way : PathWay d 0 (whole d) ns s b
  way = root_way d rules ns s b c.led

  abbrev pub lw : Way
  lw = leaf_way d n way.way b

  abbrev h : Slot
  h = hook_at d n s b

  pub hook_entry : h.entry ≡ slot_entry lw 0
  hook_entry =
      let a = (hook_way (goes_left d n) (record { entry = s; field = child_field }) b).0 in
      let o = (slot_onward way.way (way_to (goes_left d n) b) child_field 0).1 in
      a ∙ sym (o ∙ ap (slot_entry (way_to (goes_left d n) b)) way.owner)

  pub hook_field : h.field ≡ slot_field lw child_field
  hook_field =
      let a = (hook_way (goes_left d n) (record { entry = s; field = child_field }) b).1 in
      let o = (slot_onward way.way (way_to (goes_left d n) b) child_field 0).0 in
      a ∙ sym (o ∙ ap (slot_field (way_to (goes_left d n) b)) way.ends)

  tree_sound : sound b ≡ true
  tree_sound = part_sound d way.way b way.tree rules

  plug_old : plug lw empty ≡ whole d
  plug_old =
      plug_onward way.way (way_to (goes_left d n) b) empty ∙ ap (plug way.way) (way_to_old (goes_left d n) x b tree_sound) ∙ sym way.tree

  -- the hook is the root's child field, or a field of an object
  pub hook_where : ((h.entry ≡ 0) × (h.field ≡ child_field)) ⊎ (0 < count h.entry (entries (whole d)))
  hook_where =
      elim (still_or_deep lw child_field 0) [
        | inl q ↦ inl (hook_entry ∙ q.entry, hook_field ∙ q.field)
        | inr q ↦ inr (subst (λ (f : Forest). 0 < count h.entry (entries f)) plug_old (subst (λ (y : ℕ). 0 < count y (entries (plug lw empty))) (sym hook_entry) q.outside))
      ]

  -- of a stream it is not the child field
  pub hook_plain : (is_stream (d.entry h.entry) ≡ false) ⊎ (h.field ≢ child_field)
  hook_plain =
      let a = hook_way (goes_left d n) (record { entry = s; field = child_field }) b in
      elim (level_slot (way_to (goes_left d n) b) child_field s (way_to_level (goes_left d n) x b)) [
        | inl q ↦ inl (ap (λ (y : ℕ). is_stream (d.entry y)) (a.0 ∙ q.entry) ∙ c.plain)
        | inr q ↦ inr (λ e. q.1 (sym a.1 ∙ e))
      ]

  root_some : 0 < d.count
  root_some = omega (arith, c.inside)

  above : 0 < x
  above =
      elim (dec_lt 0 x) [
        | yes k ↦ k
        | no k ↦
            let e : x ≡ 0 = omega arith in
            absurd (clash c.blank (ap (λ (y : ℕ). is_blank (d.entry y)) e ∙ root_not_blank (d.entry 0) (entry_fields_lem c.good 0 root_some)))
      ]

  pub no_object : is_object d x ≡ false
  no_object = let k = eqb-true (kind (d.entry x)) 0 c.blank in rw k

  pub other : h.entry ≢ x
  other e =
      elim hook_where [
        | inl q ↦ omega (arith, q.0, above)
        | inr q ↦ omega (arith, q, shape_count d rules.shape x c.inside, ap bit no_object, ap (λ (y : ℕ). count y (entries (whole d))) e)
      ]

  pub hook_inside_lem : h.entry < d.count
  hook_inside_lem =
      elim hook_where [
        | inl q ↦ omega (arith, q.0, root_some)
        | inr q ↦ reached_inside d rules.shape h.entry q
      ]

  pub x_above : 0 < x
  x_above = above
