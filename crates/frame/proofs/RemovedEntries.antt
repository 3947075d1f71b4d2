-- An object less by the entries: what the trees know of the new directory, groups 14 and 15, and the streams.
use Prim.Native.Nat.{ℕ, zero, suc, ◌<◌}
use mathlib.Core.Path.{◌≡◌, sym, ap, ◌∙◌, subst}
use mathlib.Core.Logic.{◌≢◌, ◌⊎◌, inl, inr}
use mathlib.Core.Bool.{true, false, ◌||◌}
use mathlib.Core.List.{List, ◌∷◌, ◌++◌}
use native.Mathlib.Omega.{arith}
use native.Mathlib.Decide.{dec_lt, ℕ_discrete}
use lib.Dec.{eqb, leb}
use lib.ListN.{length-append}
use lib.Seq.{sets}
use borrow.Author.Tests.{ne_eqb}
use Rattle.format.specs.Basics.Lists.{bit, count}
use Rattle.format.specs.Basics.Bytes.{Bytes, le32}
use Rattle.format.specs.Layout.Geometry.{Geometry}
use Rattle.format.specs.Layout.Name.{Name}
use Rattle.format.specs.Layout.Entry.{black, left_field, child_field, right_field, name, kind, colour, left, right, child, is_blank, is_stream, start, size}
use Rattle.format.specs.Layout.NewEntry.{blank_entry}
use Rattle.format.specs.Layout.Directory.{Directory}
use Rattle.format.specs.Layout.Tree.{Forest, empty, broken, node, entries, siblings}
use Rattle.format.specs.Layout.Siblings.{top, without_node}
use Rattle.format.specs.Layout.Volume.{volume, directory, root, root_size}
use Rattle.format.specs.Layout.Stream.{stream_size}
use Rattle.format.specs.Rules.Entries.{entry_fields, entry_rules, entry_right, common_fields}
use Rattle.format.specs.Rules.Trees.{red, tree_rules}
use Rattle.theory.specs.TreeViews.{whole, child_of, left_of, right_of}
use Rattle.theory.specs.TreeWays.{SameName, SameColour}
use Rattle.theory.specs.TreeEdits.{Shaped, Removed}
use Rattle.theory.proofs.Tests.{below_of, clash}
use Rattle.theory.proofs.Trees.Ways.{left_child, child_right}
use Rattle.theory.proofs.Bytes.{length_le32}
use Rattle.theory.proofs.Trees.Removal.{removed_tree_rules}
use Rattle.theory.proofs.Trees.Faces.{count_siblings_node}
use Rattle.theory.proofs.Counts.{bit_self}
use Rattle.theory.proofs.Trees.Nodes.{reached_object}
use Rattle.frame.specs.Redraw.{SameBody, Penned, IsErased, SameStream, NoUnits}
use Rattle.frame.specs.Place.{Erasing}
use Rattle.frame.proofs.EntryFacts.{entry_fields_lem, stream_fields_of, stream_fields_say, common_fields_of, object_short, object_not_blank, object_not_root, root_links, root_not_blank}
use Rattle.frame.proofs.Bodies.{body_sets, body_eq, kind_body, name_body, fields_body, same_stream}
use Rattle.frame.proofs.MadeEntries.{fields_blank, kind_blank}
use Rattle.frame.proofs.Links.{link_put_lem, link_other, colour_off, pen_colour, pen_left, pen_right, pen_child}
use Rattle.frame.proofs.RemovedFacts.{rules, way, among, once, in_whole, inside, object, fewer, parent_apart, parent_where, s_inside, x_above}

module _ {g : Geometry} {img : Bytes} {n : Name} {ns : List Name} {s : ℕ} {t : Forest} {x : ℕ} {b : Forest} (c : Erasing g img n ns s t x b) {img' : Bytes} (er : IsErased g img s t x img') where
  abbrev d : Directory
  d = (volume g img).directory

  abbrev f : Forest
  f = without_node x t

  abbrev d₂ : Directory
  d₂ = (volume g img').directory

  -- what a sibling that stays gets
  penned_at : (k : Forest) → Penned d.entry d₂.entry k → (y : ℕ) → 0 < count y (siblings k)
      → (l : ℕ) × (r : ℕ) × (d₂.entry y ≡ sets (d.entry y) 67 (black ∷ (le32 l ++ le32 r)))
  unfolding siblings
  penned_at empty p y h = absurd (omega arith)
  penned_at broken p y h = absurd (omega arith)
  penned_at (node l e m r) p y h =
      elim (ℕ_discrete y e) [
        | yes q ↦ (top l, top r, subst (λ (i : ℕ). d₂.entry i ≡ sets (d.entry i) 67 (black ∷ (le32 (top l) ++ le32 (top r)))) (sym q) p.0)
        | no q ↦
            elim (dec_lt 0 (count y (siblings l))) [
              | yes u ↦ penned_at l p.1 y u
              | no u ↦ penned_at r p.2 y (omega (arith, count_siblings_node y l e m r, ap bit (ne_eqb y e q)))
            ]
      ]

  stays_in : (y : ℕ) → 0 < count y (siblings f) → 0 < count y (siblings t)
  stays_in y h = omega (arith, fewer c y)

  pen : (y : ℕ) → 0 < count y (siblings f) → (l : ℕ) × (r : ℕ) × (d₂.entry y ≡ sets (d.entry y) 67 (black ∷ (le32 l ++ le32 r)))
  pen = penned_at f er.penned

  -- every entry but x keeps its body
  pub body : (y : ℕ) → y ≢ x → SameBody (d.entry y) (d₂.entry y)
  body y q =
      elim (ℕ_discrete y s) [
        | yes e ↦
            subst (λ (i : ℕ). SameBody (d.entry i) (d₂.entry i)) (sym e)
            (subst (λ (a : Bytes). SameBody (d.entry s) a) (sym er.slot) (body_sets (d.entry s) 76 (le32 (top f)) (omega arith) (omega (arith, length_le32 (top f)))))
        | no e ↦
            elim (dec_lt 0 (count y (siblings f))) [
              | yes u ↦ let k = pen y u in
                  subst (λ (a : Bytes). SameBody (d.entry y) a) (sym k.2)
                  (body_sets (d.entry y) 67 (black ∷ (le32 k.0 ++ le32 k.1)) (omega arith)
                  (omega (arith, length-append (le32 k.0) (le32 k.1), length_le32 k.0, length_le32 k.1)))
              | no u ↦ body_eq (d.entry y) (d₂.entry y) (er.others y q e (omega arith))
            ]
      ]

  pub kinds : (y : ℕ) → y ≢ x → kind (d₂.entry y) ≡ kind (d.entry y)
  kinds y q = kind_body (d.entry y) (d₂.entry y) (body y q)

  names : (y : ℕ) → y ≢ x → 0 < y → SameName d d₂ y
  names y q p =
      elim (dec_lt 0 (count y (entries (whole d)))) [
        | yes k ↦ name_body (d.entry y) (d₂.entry y) (body y q) (object_short (d.entry y) y (entry_fields_lem c.good y (inside c y k)) (reached_object d (rules c).shape y k))
        | no k ↦ ap name (er.others y q (λ e. elim (parent_where c) [ inl z ↦ omega (arith, z, e, p) | inr z ↦ k (subst (λ (i : ℕ). 0 < count i (entries (whole d))) (sym e) z) ])
            (elim (dec_lt 0 (count y (siblings f))) [ yes u ↦ absurd (k (in_whole c y (stays_in y u))) | no u ↦ omega arith ]))
      ]

  -- an entry that is no sibling keeps colour and sides
  aside : (y : ℕ) → count y (siblings t) ≡ 0 → (SameColour d d₂ y) × (left_of d₂ y ≡ left_of d y) × (right_of d₂ y ≡ right_of d y)
  aside y h =
      let q : y ≢ x = λ e. omega (arith, h, among c, ap (λ (i : ℕ). count i (siblings t)) e) in
      elim (ℕ_discrete y s) [
        | yes e ↦
            subst (λ (i : ℕ). (SameColour d d₂ i) × (left_of d₂ i ≡ left_of d i) × (right_of d₂ i ≡ right_of d i)) (sym e)
            (colour_off d d₂ s (top f) child_field er.slot, link_other d d₂ s (top f) child_field er.slot left_field left_child, link_other d d₂ s (top f) child_field er.slot right_field (λ z. child_right (sym z)))
        | no e ↦ let k = er.others y q e (omega (arith, fewer c y)) in (ap colour k, ap left k, ap right k)
      ]

  below : (y : ℕ) → y ≢ x → y ≢ s → child_of d₂ y ≡ child_of d y
  below y q e =
      elim (dec_lt 0 (count y (siblings f))) [
        | yes u ↦ let k = pen y u in pen_child d d₂ y k.0 k.1 k.2 (c.long y (inside c y (in_whole c y (stays_in y u))))
        | no u ↦ ap child (er.others y q e (omega arith))
      ]

  word : (k : Forest) → ((y : ℕ) → 0 < count y (siblings k) → y < d.count) → top k < 0x1_0000_0000
  unfolding siblings
  word empty h = omega arith
  word broken h = omega arith
  word (node l e m r) h = let a = h e (omega (arith, count_siblings_node e l e m r, bit_self e)) in omega (arith, c.few)

  shape : (k : Forest) → Penned d.entry d₂.entry k → ((y : ℕ) → 0 < count y (siblings k) → y < d.count) → Shaped d₂ k
  unfolding siblings red
  shape empty p h = tt
  shape broken p h = tt
  shape (node l e m r) p h =
      let he = h e (omega (arith, count_siblings_node e l e m r, bit_self e)) in
      let hl : (y : ℕ) → 0 < count y (siblings l) → y < d.count = λ y u. h y (omega (arith, count_siblings_node y l e m r)) in
      let hr : (y : ℕ) → 0 < count y (siblings r) → y < d.count = λ y u. h y (omega (arith, count_siblings_node y l e m r)) in (
        record {
          lefts = pen_left d d₂ e (top l) (top r) p.0 (c.long e he) (word l hl);
          rights = pen_right d d₂ e (top l) (top r) p.0 (c.long e he) (word r hr);
          black = ap (λ (q : ℕ). eqb q 0) (pen_colour d d₂ e (top l) (top r) p.0 (c.long e he));
        },
        shape l p.1 hl,
        shape r p.2 hr,
      )

  f_inside : (y : ℕ) → 0 < count y (siblings f) → y < d.count
  f_inside y h = inside c y (in_whole c y (stays_in y h))

  blank_kind : kind (d₂.entry x) ≡ 0
  blank_kind = ap kind er.blank ∙ kind_blank

  pub removed_is : Removed d d₂ (way c).way t x
  removed_is =
      record {
        rows_same = er.redrawn.kept.parts.entry_count;
        old = (way c).tree;
        ends = (way c).ends;
        among = among c;
        childless = c.childless;
        blank = rw blank_kind;
        shaped = shape f er.penned f_inside;
        slot = subst (λ (y : ℕ). child_of d₂ y ≡ top f) (sym (way c).owner) (link_put_lem d d₂ s (top f) child_field er.slot (c.long s (s_inside c)) (word f f_inside));
        below_kept = λ y q e. below y q (λ z. e (z ∙ sym (way c).owner));
        sides_kept = λ y h. ((aside y h).1, (aside y h).2);
        names = names;
        colours = λ y h. (aside y h).0;
        kind_same = λ y q. ap (λ (m : ℕ). eqb m 1 || eqb m 2) (kinds y q);
      }

  pub trees_after : tree_rules d₂ ≡ true
  trees_after = removed_tree_rules d d₂ (way c).way t x removed_is c.good.trees

  -- ---- group 14

  blank_fields_lem : entry_fields x (d₂.entry x) ≡ true
  blank_fields_lem = rw er.blank (go x (x_above c))
    where
      go : (i : ℕ) → 0 < i → entry_fields i blank_entry ≡ true
      go zero p = absurd (omega arith)
      go (suc i) p = fields_blank i

  sibling_fields : (y : ℕ) → 0 < count y (siblings f) → entry_fields y (d₂.entry y) ≡ true
  sibling_fields y u =
      let a = d.entry y in
      let k = pen y u in
      let o = object c y (stays_in y u) in
      let hy = f_inside y u in
      let e = entry_fields_lem c.good y hy in
      fields_body a (d₂.entry y) (body y (λ z. omega (arith, u, fewer c x, once c x, bit_self x, ap (λ (i : ℕ). count i (siblings f)) z))) y e (object_not_blank a o)
      (ap (λ (m : ℕ). leb m 1) (pen_colour d d₂ y k.0 k.1 k.2 (c.long y hy)))
      (λ st. pen_child d d₂ y k.0 k.1 k.2 (c.long y hy) ∙ (stream_fields_say a (stream_fields_of a y e st)).1)
      (λ ro. absurd (clash ro (object_not_root a o)))

  slot_fields : entry_fields s (d₂.entry s) ≡ true
  unfolding common_fields
  slot_fields =
      let a = d.entry s in
      let e = entry_fields_lem c.good s (s_inside c) in
      let off = link_other d d₂ s (top f) child_field er.slot in
      fields_body a (d₂.entry s) (body s (λ z. parent_apart c x (among c) (sym z))) s e not_blank
      (ap (λ (m : ℕ). leb m 1) (colour_off d d₂ s (top f) child_field er.slot) ∙ common_fields_of a s e)
      (λ st. absurd (clash st c.plain))
      (λ ro.
      elim (parent_where c) [
        | inl q ↦ let r = root_links a (subst (λ (i : ℕ). entry_fields i a ≡ true) q e) in (off left_field left_child ∙ r.0, off right_field (λ z. child_right (sym z)) ∙ r.1)
        | inr q ↦ absurd (clash ro (object_not_root a (reached_object d (rules c).shape s q)))
      ])
    where
      not_blank : is_blank (d.entry s) ≡ false
      not_blank =
          elim (parent_where c) [
            | inl q ↦ root_not_blank (d.entry s) (subst (λ (i : ℕ). entry_fields i (d.entry s) ≡ true) q (entry_fields_lem c.good s (s_inside c)))
            | inr q ↦ object_not_blank (d.entry s) (reached_object d (rules c).shape s q)
          ]

  pub entries_after : entry_rules d₂ ≡ true
  unfolding entry_rules entry_right
  entries_after =
      below_of d₂.count (entry_right d₂)
      (λ y l'.
      let l : y < d.count = omega (arith, er.redrawn.kept.parts.entry_count) in
      elim (ℕ_discrete y x) [
        | yes e ↦ subst (λ (i : ℕ). entry_fields i (d₂.entry i) ≡ true) (sym e) blank_fields_lem
        | no e ↦ elim (ℕ_discrete y s) [
          | yes q ↦ subst (λ (i : ℕ). entry_fields i (d₂.entry i) ≡ true) (sym q) slot_fields
          | no q ↦ elim (dec_lt 0 (count y (siblings f))) [
            | yes u ↦ sibling_fields y u
            | no u ↦ rw (er.others y e q (omega arith)) (entry_fields_lem c.good y l)
          ]
        ]
      ])

  -- ---- the streams

  pub no_stream : is_stream (d₂.entry x) ≡ false
  no_stream = rw blank_kind

  pub is_blank_lem : is_blank (d₂.entry x) ≡ true
  is_blank_lem = rw blank_kind

  pub stays : (y : ℕ) → y ≢ x → SameStream (volume g img) (volume g img') y
  stays y q = same_stream g img img' y (body y q)

  pub streams_after : (y : ℕ) → y < d.count → (SameStream (volume g img) (volume g img') y) ⊎ (NoUnits (volume g img) (volume g img') y)
  streams_after y l =
      elim (ℕ_discrete y x) [
        | yes e ↦ inr (subst (NoUnits (volume g img) (volume g img')) (sym e) (record { before = c.bare; after = λ st. absurd (clash st no_stream) }))
        | no e ↦ inl (stays y e)
      ]

  pub root_start_lem : start (root (volume g img')) ≡ start (root (volume g img))
  unfolding root
  root_start_lem = (stays 0 (λ e. omega (arith, x_above c, e))).start

  pub root_bytes : root_size (volume g img') ≡ root_size (volume g img)
  unfolding root_size stream_size
  root_bytes = (stays 0 (λ e. omega (arith, x_above c, e))).size
