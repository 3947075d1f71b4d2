-- The new directory: what the trees know of it, groups 14 and 15, and the streams.
use Prim.Native.Nat.{ℕ, zero, suc, ◌≤◌, ◌<◌}
use mathlib.Core.Path.{◌≡◌, sym, ap, ◌∙◌, subst, subst₂}
use mathlib.Core.Logic.{◌≢◌, ◌⊎◌, inl, inr}
use mathlib.Core.Bool.{true, false, ◌||◌}
use mathlib.Core.List.{List}
use native.Mathlib.Omega.{arith}
use native.Mathlib.Decide.{ℕ_discrete}
use lib.Dec.{eqb, leb}
use borrow.Author.Tests.{eqb-true}
use Rattle.format.specs.Basics.Lists.{count}
use Rattle.format.specs.Basics.Bytes.{Bytes, le32}
use Rattle.format.specs.Layout.Geometry.{Geometry, size_width}
use Rattle.format.specs.Layout.Chain.{END}
use Rattle.format.specs.Layout.Name.{Name}
use Rattle.format.specs.Layout.Entry.{Field, left_field, child_field, right_field, field_byte, name, name_bytes, kind, colour, left, right, child, is_blank, is_stream, start, size}
use Rattle.format.specs.Layout.NewEntry.{new_entry}
use Rattle.format.specs.Layout.Directory.{Directory, directory_of, size_of}
use Rattle.format.specs.Layout.Tree.{Forest}
use Rattle.format.specs.Layout.Siblings.{Slot}
use Rattle.format.specs.Layout.Volume.{volume, directory, root, root_size}
use Rattle.format.specs.Layout.Stream.{stream_size}
use Rattle.format.specs.Rules.Entries.{entry_fields, entry_rules, entry_right, common_fields}
use Rattle.format.specs.Rules.Trees.{is_object, red, tree_rules}
use Rattle.format.specs.Calls.Create.{NewKind, stream, storage, kind_for, start_for}
use Rattle.theory.specs.TreeDraw.{link}
use Rattle.theory.specs.TreeWays.{Way, slot_field, slot_entry, SameName, SameColour}
use Rattle.theory.specs.TreeEdits.{Created}
use Rattle.theory.proofs.Tests.{below_of, clash}
use Rattle.theory.proofs.Trees.Nodes.{reached_object}
use Rattle.theory.proofs.Trees.Ways.{left_child, child_right}
use Rattle.theory.proofs.Bytes.{length_le32}
use Rattle.theory.proofs.Trees.Pointwise.{kept_but_one}
use Rattle.theory.proofs.Trees.Create.{created_tree_rules}
use Rattle.frame.specs.Place.{Creating, hook_at}
use Rattle.frame.specs.Redraw.{SameBody, IsAdded, SameStream, NoUnits}
use Rattle.frame.proofs.Redrawing.{field_low}
use Rattle.frame.proofs.Entry.{size_counts}
use Rattle.frame.proofs.EntryFacts.{entry_fields_lem, stream_fields_of, stream_fields_say, common_fields_of, object_short, object_not_blank, object_not_root, root_links, root_not_blank}
use Rattle.frame.proofs.Bodies.{body_sets, body_eq, kind_body, name_body, fields_body, same_stream}
use Rattle.frame.proofs.MadeEntries.{name_new, kind_new, colour_new, left_new, right_new, child_new, start_made, size_made, fields_stream, fields_storage}
use Rattle.frame.proofs.Links.{link_put_lem, link_other, colour_off}
use Rattle.frame.proofs.CreatedFacts.{rules, way, lw, hook_entry, hook_field, hook_where, hook_plain, no_object, other, hook_inside_lem, x_above}

module _ {g : Geometry} {img : Bytes} {n : Name} {ns : List Name} {s : ℕ} {b : Forest} {x : ℕ} (c : Creating g img n ns s b x) {made : NewKind} {img' : Bytes}
    (ad : IsAdded g img made n (hook_at (volume g img).directory n s b) x img') where
  abbrev d : Directory
  d = (volume g img).directory

  abbrev d₂ : Directory
  d₂ = (volume g img').directory

  abbrev h : Slot
  h = hook_at d n s b

  abbrev k₀ : Way
  k₀ = lw c

  abbrev hoth : h.entry ≢ x
  hoth = other c

  abbrev hin : h.entry < d.count
  hin = hook_inside_lem c

  word : x < 0x1_0000_0000
  word = omega (arith, c.inside, c.few)

  -- every entry but x keeps its body
  pub body : (y : ℕ) → y ≢ x → SameBody (d.entry y) (d₂.entry y)
  body y q =
      elim (ℕ_discrete y h.entry) [
        | yes e ↦
            subst (λ (i : ℕ). SameBody (d.entry i) (d₂.entry i)) (sym e)
            (subst (λ (a : Bytes). SameBody (d.entry h.entry) a) (sym ad.hooked)
            (body_sets (d.entry h.entry) (field_byte h.field) (le32 x) (omega (arith, (field_low h.field).0)) (omega (arith, (field_low h.field).1, length_le32 x))))
        | no e ↦ body_eq (d.entry y) (d₂.entry y) (ad.others y q e)
      ]

  pub kinds : (y : ℕ) → y ≢ x → kind (d₂.entry y) ≡ kind (d.entry y)
  kinds y q = kind_body (d.entry y) (d₂.entry y) (body y q)

  colours : (y : ℕ) → y ≢ x → SameColour d d₂ y
  colours y q =
      elim (ℕ_discrete y h.entry) [
        | yes e ↦ subst (λ (i : ℕ). colour (d₂.entry i) ≡ colour (d.entry i)) (sym e) (colour_off d d₂ h.entry x h.field ad.hooked)
        | no e ↦ ap colour (ad.others y q e)
      ]

  hook_object : (h.entry ≢ 0) → is_object d h.entry ≡ true
  hook_object q =
      elim (hook_where c) [
        | inl k ↦ absurd (q k.0)
        | inr k ↦ reached_object d (rules c).shape h.entry k
      ]

  names : (y : ℕ) → y ≢ x → 0 < y → SameName d d₂ y
  names y q p =
      elim (ℕ_discrete y h.entry) [
        | yes e ↦
            let o = hook_object (λ z. omega (arith, z, e, p)) in
            name_body (d.entry y) (d₂.entry y) (body y q)
            (subst (λ (i : ℕ). name_bytes (d.entry i) ≤ 64) (sym e) (object_short (d.entry h.entry) h.entry (entry_fields_lem c.good h.entry hin) o))
        | no e ↦ ap name (ad.others y q e)
      ]

  pub new_kind : kind (d₂.entry x) ≡ kind_for made
  new_kind = ap kind ad.new ∙ kind_new n (kind_for made) (start_for made) c.legal

  new_object : is_object d₂ x ≡ true
  unfolding kind_for
  new_object = go made new_kind
    where
      go : (m : NewKind) → kind (d₂.entry x) ≡ kind_for m → is_object d₂ x ≡ true
      go stream q = rw q
      go storage q = rw q

  slot_is : link d₂ (slot_field k₀ child_field) (slot_entry k₀ 0) ≡ x
  slot_is =
      subst₂ (λ (k : Field) (y : ℕ). link d₂ k y ≡ x) (hook_field c) (hook_entry c)
      (link_put_lem d d₂ h.entry x h.field ad.hooked (c.long h.entry hin) word)

  pub created : Created d d₂ (way c).way b n x
  unfolding red
  created =
      record {
        rows_same = ad.redrawn.kept.parts.entry_count;
        old = (way c).tree;
        ends = (way c).ends;
        free = c.free;
        above = x_above c;
        inside = c.inside;
        real = λ e. omega (arith, c.inside, c.few, e);
        blank = no_object c;
        object = new_object;
        name_new = ap name ad.new ∙ name_new n (kind_for made) (start_for made) c.legal;
        black = ap (λ (a : Bytes). eqb (colour a) 0) ad.new ∙ ap (λ (m : ℕ). eqb m 0) (colour_new n (kind_for made) (start_for made) c.legal);
        lefts = ap left ad.new ∙ left_new n (kind_for made) (start_for made) c.legal;
        below = ap child ad.new ∙ child_new n (kind_for made) (start_for made) c.legal;
        rights = ap right ad.new ∙ right_new n (kind_for made) (start_for made) c.legal;
        slot = slot_is;
        kept = kept_but_one d d₂ k₀ x
            (λ y p q. ad.others y p (λ e. q (e ∙ hook_entry c)))
            (λ k q. subst (λ (y : ℕ). link d₂ k y ≡ link d k y) (hook_entry c)
            (link_other d d₂ h.entry x h.field ad.hooked k (λ e. q (e ∙ hook_field c))));
        names = names;
        colours = colours;
        kind_same = λ y q. ap (λ (m : ℕ). eqb m 1 || eqb m 2) (kinds y q);
      }

  pub trees_after : tree_rules d₂ ≡ true
  trees_after = created_tree_rules d d₂ (way c).way b n x created c.good.trees

  -- ---- group 14

  new_fields : entry_fields x (d₂.entry x) ≡ true
  unfolding kind_for start_for
  new_fields = rw ad.new (go x (x_above c) made)
    where
      go : (i : ℕ) → 0 < i → (m : NewKind) → entry_fields i (new_entry n (kind_for m) (start_for m) 0) ≡ true
      go zero p m = absurd (omega arith)
      go (suc i) p stream = fields_stream i n END c.legal
      go (suc i) p storage = fields_storage i n c.legal

  hook_fields : entry_fields h.entry (d₂.entry h.entry) ≡ true
  unfolding common_fields
  hook_fields =
      let a = d.entry h.entry in
      let f = entry_fields_lem c.good h.entry hin in
      let off = link_other d d₂ h.entry x h.field ad.hooked in
      fields_body a (d₂.entry h.entry) (body h.entry hoth) h.entry f not_blank
      (ap (λ (m : ℕ). leb m 1) (colours h.entry hoth) ∙ common_fields_of a h.entry f)
      (λ st.
      elim (hook_plain c) [
        | inl q ↦ absurd (clash st q)
        | inr q ↦ off child_field (λ e. q (sym e)) ∙ (stream_fields_say a (stream_fields_of a h.entry f st)).1
      ])
      (λ ro.
      elim (hook_where c) [
        | inl q ↦
            let r = root_links a (subst (λ (i : ℕ). entry_fields i a ≡ true) q.0 f) in
            (off left_field (λ e. left_child (e ∙ q.1)) ∙ r.0, off right_field (λ e. child_right (sym (e ∙ q.1))) ∙ r.1)
        | inr q ↦ absurd (clash ro (object_not_root a (reached_object d (rules c).shape h.entry q)))
      ])
    where
      not_blank : is_blank (d.entry h.entry) ≡ false
      not_blank =
          elim (hook_where c) [
            | inl q ↦ root_not_blank (d.entry h.entry) (subst (λ (i : ℕ). entry_fields i (d.entry h.entry) ≡ true) q.0 (entry_fields_lem c.good h.entry hin))
            | inr q ↦ object_not_blank (d.entry h.entry) (reached_object d (rules c).shape h.entry q)
          ]

  pub entries_after : entry_rules d₂ ≡ true
  unfolding entry_rules entry_right
  entries_after =
      below_of d₂.count (entry_right d₂)
      (λ y l'.
      let l : y < d.count = omega (arith, ad.redrawn.kept.parts.entry_count) in
      elim (ℕ_discrete y x) [
        | yes e ↦ subst (λ (i : ℕ). entry_fields i (d₂.entry i) ≡ true) (sym e) new_fields
        | no e ↦ elim (ℕ_discrete y h.entry) [
          | yes q ↦ subst (λ (i : ℕ). entry_fields i (d₂.entry i) ≡ true) (sym q) hook_fields
          | no q ↦ rw (ad.others y e q) (entry_fields_lem c.good y l)
        ]
      ])

  -- ---- the streams

  pub new_none : NoUnits (volume g img) (volume g img') x
  unfolding stream_size size_of volume directory directory_of kind_for start_for
  new_none =
      record {
        before = λ st. absurd (blank_stream st);
        after = λ st. (
          ap (size (size_width g)) ad.new ∙ size_made n (kind_for made) (start_for made) c.legal (size_width g) (size_counts g),
          ap start ad.new ∙ starts made new_kind st,
        );
      }
    where
      blank_stream : is_stream (d.entry x) ≡ true → ⊥
      blank_stream st = omega (arith, eqb-true (kind (d.entry x)) 2 st, eqb-true (kind (d.entry x)) 0 c.blank)

      starts : (m : NewKind) → kind (d₂.entry x) ≡ kind_for m → is_stream (d₂.entry x) ≡ true → start (new_entry n (kind_for m) (start_for m) 0) ≡ END
      starts stream q st = start_made n 2 END c.legal (omega arith)
      starts storage q st = absurd (omega (arith, q, eqb-true (kind (d₂.entry x)) 2 st))

  pub stays : (y : ℕ) → y ≢ x → SameStream (volume g img) (volume g img') y
  stays y q = same_stream g img img' y (body y q)

  pub streams_after : (y : ℕ) → y < d.count → (SameStream (volume g img) (volume g img') y) ⊎ (NoUnits (volume g img) (volume g img') y)
  streams_after y l = elim (ℕ_discrete y x) [ yes e ↦ inr (subst (NoUnits (volume g img) (volume g img')) (sym e) new_none) | no e ↦ inl (stays y e) ]

  pub root_start_lem : start (root (volume g img')) ≡ start (root (volume g img))
  unfolding root
  root_start_lem = (stays 0 (λ e. omega (arith, x_above c, e))).start

  pub root_bytes : root_size (volume g img') ≡ root_size (volume g img)
  unfolding root_size stream_size
  root_bytes = (stays 0 (λ e. omega (arith, x_above c, e))).size
