-- An image in which an object is removed by the few fields that change is the one in which the whole tree of its siblings is written anew.
use mathlib.Core.Path.{◌≡◌, refl, sym, ap, ◌∙◌, subst}
use mathlib.Core.Logic.{◌≢◌, inl, inr}
use mathlib.Core.Bool.{Bool, true, false, cond}
use mathlib.Core.List.{List, [], ◌∷◌, ◌++◌}
use Prim.Native.Nat.{ℕ, ◌+◌, ◌≤◌, ◌<◌}
use native.Mathlib.Omega.{arith}
use native.Mathlib.Decide.{dec_lt, ℕ_discrete}
use lib.Dec.{eqb, ltb}
use lib.ListN.{length, get_or, drop, length-take, get_or-eq_default}
use lib.Seq.{sets}
use Rattle.format.specs.Basics.Lists.{bit, count}
use Rattle.format.specs.Basics.Bytes.{Bytes, part, le32}
use Rattle.format.specs.Layout.Geometry.{Geometry, entry_bytes}
use Rattle.format.specs.Layout.Entry.{black, colour, left, right, child, child_field}
use Rattle.format.specs.Layout.NewEntry.{blank_entry}
use Rattle.format.specs.Layout.Directory.{Directory, entry_place, entry_count, entry_in}
use Rattle.format.specs.Layout.Tree.{Forest, empty, broken, node, entries, siblings}
use Rattle.format.specs.Layout.Siblings.{top, without_node}
use Rattle.format.specs.Layout.Volume.{volume, directory, directory_sectors_of}
use Rattle.format.specs.Rules.Verdict.{Accepted}
use Rattle.format.specs.Calls.Remove.{entry_removed_at}
use Rattle.theory.specs.TreeViews.{left_of, right_of, child_of, Standing}
use Rattle.theory.specs.TreeOrder.{Rules}
use Rattle.theory.specs.TreeWays.{Way, plug, slot_entry, siblings_before, siblings_after}
use Rattle.theory.specs.TreeEdits.{Shaped, Removed}
use Rattle.theory.proofs.Counts.{eqb_cases, bit_self, bit_other, count_append}
use Rattle.theory.proofs.Trees.Ways.{count_plug, still_or_deep}
use Rattle.theory.proofs.Trees.Stand.{entry_stands}
use Rattle.theory.proofs.Trees.Nodes.{shape_sound}
use Rattle.theory.proofs.Trees.Faces.{count_siblings_node, siblings_few}
use Rattle.theory.proofs.Trees.Parts.{part_other, old_once}
use Rattle.theory.proofs.Trees.Remove.{spot}
use Rattle.theory.proofs.Trees.Levels.{siblings_with, siblings_removed}
use Rattle.frame.specs.Kept.{Sized, Kept, Off}
use Rattle.frame.specs.Redraw.{SameBody, MayErase, Penned}
use Rattle.frame.proofs.SameEntries.{get_d_part, same_image}
use Rattle.frame.proofs.EntryBytes.{body_same, body_child, body_sides}
use Rattle.frame.proofs.Erasing.{kept, at_other, at_slot, at_blank, at_penned, erased_is}
use Rattle.frame.proofs.Redrawing.{entry_long_lem}
use Rattle.frame.proofs.Parts.{entry_is}

part_short : (b : Bytes) (p n : ℕ) → length (part b p n) ≤ n
unfolding part
part_short b p n = omega (arith, length-take n (drop p b))

-- the bytes of an entry are bytes
pub entry_bytes_lem : (g : Geometry) (img : Bytes) (secs : List ℕ) → ((i : ℕ) → get_or img i 0 < 256) → (y i : ℕ) → get_or (entry_in g img secs y) i 0 < 256
unfolding entry_in entry_bytes
entry_bytes_lem g img secs h y i = go (ltb y (entry_count g secs)) (dec_lt i 128)
  where
    go : (b : Bool) → Dec (i < 128) → get_or (cond b (part img (entry_place g secs y) 128) []) i 0 < 256
    go true (yes p) = rw (get_d_part img (entry_place g secs y) 128 i p) (h (entry_place g secs y + i))
    go true (no p) =
        let q : length (part img (entry_place g secs y) 128) ≤ i = omega (arith, part_short img (entry_place g secs y) 128) in
        rw (get_or-eq_default (part img (entry_place g secs y) 128) 0 q) (omega arith)
    go false p = omega arith

-- each sibling as the tree has it
penned_is : (a b c : ℕ → Bytes) (d : Directory) (f : Forest) → Penned a b f → Shaped d f
    → ((y : ℕ) → 0 < count y (siblings f) → c y ≡ sets (a y) 67 (black ∷ (le32 (left_of d y) ++ le32 (right_of d y))))
    → (y : ℕ) → 0 < count y (siblings f) → c y ≡ b y
unfolding siblings
penned_is a b c d empty p s h y n = absurd (omega arith)
penned_is a b c d broken p s h y n = absurd (omega arith)
penned_is a b c d (node l e m r) p s h y n =
    elim (eqb_cases y e) [
      | inl q ↦
          let here : c e ≡ b e = h e (omega (arith, count_siblings_node e l e m r, bit_self e)) ∙ rw (s.0.lefts, s.0.rights) (sym p.0) in
          rw q.0 here
      | inr q ↦
          elim (dec_lt 0 (count y (siblings l))) [
            | yes i ↦ penned_is a b c d l p.1 s.1 (λ u j. h u (omega (arith, count_siblings_node u l e m r))) y i
            | no i ↦
                penned_is a b c d r p.2 s.2 (λ u j. h u (omega (arith, count_siblings_node u l e m r))) y
                (omega (arith, count_siblings_node y l e m r, bit_other y e q.0))
          ]
    ]

module _ (g : Geometry) (z : Sized g) (img : Bytes) (acc : Accepted g img) (d₂ : Directory) (w : Way) (t : Forest) (x : ℕ)
    (m : Removed (volume g img).directory d₂ w t x) (k : Rules (volume g img).directory) where
  abbrev d : Directory
  d = (volume g img).directory

  abbrev s : ℕ
  s = slot_entry w 0

  abbrev f : Forest
  f = without_node x t

  once : (y : ℕ) → count y (siblings t) ≤ 1
  once y = omega (arith, siblings_few y t, old_once d w t m.old k y, count_plug y w t)

  -- the siblings that stay
  fewer : (y : ℕ) → count y (siblings t) ≡ bit (eqb y x) + count y (siblings f)
  fewer y =
      let q = spot x t m.among (once x) in
      omega (
        arith,
        ap (count y) (siblings_with x t q),
        ap (count y) (siblings_removed x t q),
        count_append y (siblings_before q.way ++ siblings q.lefts) (x ∷ (siblings q.rights ++ siblings_after q.way)),
        count_append y (siblings_before q.way ++ siblings q.lefts) (siblings q.rights ++ siblings_after q.way),
      )

  stands : (y : ℕ) → 0 < count y (entries (plug w t)) → Standing d y
  stands y h = entry_stands d (child_of d 0) (shape_sound d k.shape) y (subst (λ (i : Forest). 0 < count y (entries i)) (sym m.old) h)

  sibling_stands : (y : ℕ) → 0 < count y (siblings t) → Standing d y
  sibling_stands y h = stands y (omega (arith, siblings_few y t, count_plug y w t))

  apart : (y : ℕ) → 0 < count y (siblings t) → y ≢ s
  apart y h = part_other d w t m.old k y (omega (arith, siblings_few y t))

  slot_inside_lem : s < d.count
  slot_inside_lem =
      elim (still_or_deep w child_field 0) [
        | inl q ↦ omega (arith, q.entry, (sibling_stands x m.among).inside)
        | inr q ↦ (stands s (omega (arith, q.outside, count_plug s w t))).inside
      ]

  pub may_erase : MayErase g img s t x
  may_erase =
      record {
        accepted = acc;
        inside = (sibling_stands x m.among).inside;
        slot_inside = slot_inside_lem;
        above = (sibling_stands x m.among).above;
        other = λ e. apart x m.among (sym e);
        once = λ y. omega (arith, once y, fewer y);
        within = λ y h. let q = sibling_stands y (omega (arith, fewer y)) in (q.above, q.inside);
        gone = omega (arith, once x, fewer x, bit_self x);
        apart = elim (dec_lt 0 (count s (siblings f))) [ yes h ↦ absurd (apart s (omega (arith, fewer s)) refl) | no h ↦ omega arith ];
      }

  -- ---- the image

  abbrev dirs : List ℕ
  dirs = directory_sectors_of g img

  module _ (new : Bytes) (is : (y : ℕ) → d₂.entry y ≡ entry_in g new dirs y) (K : Kept g (Off dirs) img new)
      (body : (y : ℕ) → y ≢ x → SameBody (entry_in g img dirs y) (entry_in g new dirs y))
      (paint : (y : ℕ) → y ≢ x → 0 < count y (siblings t) → colour (entry_in g new dirs y) ≡ black)
      (blank : entry_in g new dirs x ≡ blank_entry)
      (before : (i : ℕ) → get_or img i 0 < 256) (after : (i : ℕ) → get_or new i 0 < 256) where
    abbrev old_entry : ℕ → Bytes
    old_entry = entry_in g img dirs

    abbrev new_entry_lem : ℕ → Bytes
    new_entry_lem = entry_in g new dirs

    old_bytes : (y i : ℕ) → get_or (old_entry y) i 0 < 256
    old_bytes = entry_bytes_lem g img dirs before

    new_bytes : (y i : ℕ) → get_or (new_entry_lem y) i 0 < 256
    new_bytes = entry_bytes_lem g new dirs after

    long : (y : ℕ) → y < d.count → length (old_entry y) ≡ 128
    long y h = ap length (sym (entry_is g img y)) ∙ entry_long_lem g z img acc y h

    below : (y : ℕ) → y ≢ x → y ≢ s → child (new_entry_lem y) ≡ child (old_entry y)
    below y p q = ap child (sym (is y)) ∙ m.below_kept y p q ∙ ap child (entry_is g img y)

    sides : (y : ℕ) → count y (siblings t) ≡ 0 → (left (new_entry_lem y) ≡ left (old_entry y)) × (right (new_entry_lem y) ≡ right (old_entry y))
    sides y c = (
      ap left (sym (is y)) ∙ (m.sides_kept y c).0 ∙ ap left (entry_is g img y),
      ap right (sym (is y)) ∙ (m.sides_kept y c).1 ∙ ap right (entry_is g img y),
    )

    colours : (y : ℕ) → count y (siblings t) ≡ 0 → colour (new_entry_lem y) ≡ colour (old_entry y)
    colours y c = ap colour (sym (is y)) ∙ m.colours y c ∙ ap colour (entry_is g img y)

    sibling : (y : ℕ) → 0 < count y (siblings f) → new_entry_lem y ≡ sets (old_entry y) 67 (black ∷ (le32 (left_of d₂ y) ++ le32 (right_of d₂ y)))
    sibling y h =
        let c : 0 < count y (siblings t) = omega (arith, fewer y) in
        let n : y ≢ x = λ e. omega (arith, may_erase.gone, h, ap (λ (i : ℕ). count i (siblings f)) e) in
        body_sides (old_entry y) (new_entry_lem y) (body y n) (old_bytes y) (new_bytes y) (long y (sibling_stands y c).inside) (left_of d₂ y) (right_of d₂ y)
        (paint y n c) (ap left (sym (is y))) (ap right (sym (is y))) (below y n (apart y c))

    parent : new_entry_lem s ≡ sets (old_entry s) 76 (le32 (top f))
    parent =
        let c : count s (siblings t) ≡ 0 = elim (dec_lt 0 (count s (siblings t))) [ yes h ↦ absurd (apart s h refl) | no h ↦ omega arith ] in
        body_child (old_entry s) (new_entry_lem s) (body s may_erase.other) (old_bytes s) (new_bytes s) (long s slot_inside_lem) (top f)
        (colours s c) (sides s c).0 (sides s c).1 (ap child (sym (is s)) ∙ m.slot)

    other : (y : ℕ) → y ≢ x → y ≢ s → count y (siblings f) ≡ 0 → new_entry_lem y ≡ old_entry y
    other y p q c =
        let n : count y (siblings t) ≡ 0 = omega (arith, fewer y, bit_other y x p) in
        body_same (old_entry y) (new_entry_lem y) (body y p) (old_bytes y) (new_bytes y) (colours y n) (sides y n).0 (sides y n).1 (below y p q)

    abbrev i3 : Bytes
    i3 = Rattle.frame.proofs.Erasing.i3 g z img s t x may_erase

    every : (y : ℕ) → new_entry_lem y ≡ entry_in g i3 dirs y
    every y =
        elim (ℕ_discrete y x) [
          | yes e ↦ rw e (blank ∙ sym (at_blank g z img s t x may_erase))
          | no n ↦
              elim (ℕ_discrete y s) [
                | yes e ↦ rw e (parent ∙ sym (at_slot g z img s t x may_erase))
                | no q ↦
                    elim (dec_lt 0 (count y (siblings f))) [
                      | yes h ↦ penned_is old_entry (entry_in g i3 dirs) new_entry_lem d₂ f (at_penned g z img s t x may_erase) m.shaped sibling y h
                      | no h ↦ let c : count y (siblings f) ≡ 0 = omega arith in other y n q c ∙ sym (at_other g z img s t x may_erase y n q c)
                    ]
              ]
        ]

    pub removed_image : new ≡ entry_removed_at (volume g img) img s t x
    removed_image =
        same_image g z dirs img new i3 K (kept g z img s t x may_erase) (λ y h. every y) ∙ sym (erased_is g z img s t x may_erase)
