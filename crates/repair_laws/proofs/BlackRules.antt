-- Groups 14 and 15 hold again of a directory whose entries became black.
use Prim.Native.Nat.{ℕ, zero, suc, ◌<◌}
use mathlib.Core.Path.{◌≡◌, refl, sym, ap, ap₂, ◌∙◌, subst}
use mathlib.Core.Bool.{Bool, true, false, not, ◌&&◌, ◌||◌}
use native.Mathlib.Omega.{arith}
use lib.Dec.{eqb, leb}
use lib.ListN.{length}
use borrow.Author.Tests.{eqb-true}
use Rattle.format.specs.Basics.Lists.{bit, count, all_below}
use Rattle.format.specs.Basics.Bytes.{Bytes}
use Rattle.format.specs.Layout.Entry.{NOSTREAM, kind, colour, left, right, is_blank, is_storage, is_stream, is_root}
use Rattle.format.specs.Layout.Directory.{Directory}
use Rattle.format.specs.Layout.Tree.{Forest, empty, broken, node, forest, entries}
use Rattle.format.specs.Rules.Entries.{common_fields, entry_fields, entry_right, entry_rules}
use Rattle.format.specs.Rules.Trees.{is_object, reached_right, reached_once, sound, every_node, sides_ordered, red, top_black, coloured, tree_rules}
use Rattle.format.specs.Calls.RepairSteps.{has_colour}
use Rattle.theory.specs.TreeViews.{child_of, shape_ok}
use Rattle.theory.specs.TreeOrder.{Rules}
use Rattle.theory.proofs.Tests.{clash, below_at, below_of, below_ext}
use Rattle.theory.proofs.Counts.{bit_self}
use Rattle.theory.proofs.Trees.Grow.{count_node}
use Rattle.theory.proofs.Trees.Stand.{entry_stands}
use Rattle.theory.proofs.Trees.Nodes.{shape_sound, entry_object}
use Rattle.theory.proofs.Trees.Rules.{rules_apart, rules_join}
use Rattle.theory.proofs.Trees.Faces.{sorted_kept}
use Rattle.frame.proofs.Bodies.{fields_body}
use Rattle.frame.proofs.EntryFacts.{stream_fields_say, stream_fields_of, common_fields_of, root_links, object_short}
use Rattle.repair_laws.specs.Black.{black_entry, IsBlack, NamesLie}
use Rattle.repair_laws.proofs.BlackFields.{black_body, black_left, black_right, black_child, black_colour, plain_same}
use Rattle.repair_laws.proofs.BlackDirectory.{kind_same, forest_same, name_same}

-- ---- group 14, of one entry

blank_plain : (e : Bytes) → is_blank e ≡ true → has_colour e ≡ false
unfolding has_colour
blank_plain e h = let k = eqb-true (kind e) 0 h in rw k

object_coloured : (e : Bytes) → (is_storage e || is_stream e) ≡ true → has_colour e ≡ true
unfolding has_colour
object_coloured e h = rw h

root_alone : (e : Bytes) (i : ℕ) → entry_fields i e ≡ true → is_root e ≡ true → (left e ≡ NOSTREAM) × (right e ≡ NOSTREAM)
unfolding entry_fields
root_alone e zero f h = root_links e f
root_alone e (suc i) f h = let k = eqb-true (kind e) 5 h in absurd (clash (rw k at f) refl)

pub colour_fits : (e : Bytes) (i : ℕ) → entry_fields i e ≡ true → leb (colour e) 1 ≡ true
unfolding common_fields
colour_fits e i f = common_fields_of e i f

colour_right : (e : Bytes) → length e ≡ 128 → leb (colour e) 1 ≡ true → leb (colour (black_entry e)) 1 ≡ true
colour_right e l h = go (has_colour e) refl
  where
    go : (t : Bool) → has_colour e ≡ t → leb (colour (black_entry e)) 1 ≡ true
    go true q = ap (λ n. leb n 1) (black_colour e l q)
    go false q = ap (λ x. leb (colour x) 1) (plain_same e q) ∙ h

black_fields : (e : Bytes) (i : ℕ) → length e ≡ 128 → entry_fields i e ≡ true → entry_fields i (black_entry e) ≡ true
black_fields e i l f = go (is_blank e) refl
  where
    go : (t : Bool) → is_blank e ≡ t → entry_fields i (black_entry e) ≡ true
    go true q = ap (entry_fields i) (plain_same e (blank_plain e q)) ∙ f
    go false q =
        fields_body e (black_entry e) (black_body e) i f q (colour_right e l (colour_fits e i f))
        (λ st. black_child e ∙ (stream_fields_say e (stream_fields_of e i f st)).1)
        (λ ro. let r = root_alone e i f ro in (black_left e ∙ r.0, black_right e ∙ r.1))

fields_at : (d : Directory) → entry_rules d ≡ true → (i : ℕ) → i < d.count → entry_fields i (d.entry i) ≡ true
unfolding entry_rules entry_right
fields_at d h = below_at d.count (entry_right d) h

pub names_lie : (d : Directory) → entry_rules d ≡ true → tree_rules d ≡ true → NamesLie d
unfolding forest
names_lie d h t x q =
    let r = rules_apart d t in
    let i = (entry_stands d (child_of d 0) (shape_sound d r.shape) x q).inside in
    (i, object_short (d.entry x) x (fields_at d h x i) (entry_object d r.shape x q))

-- ---- group 15: trees that are all black

module _ (d : Directory) where
  abbrev AllBlack : Forest → Type 0
  AllBlack t = (x : ℕ) → 0 < count x (entries t) → red d x ≡ false

  pub black_top : (t : Forest) → AllBlack t → top_black d t ≡ true
  unfolding top_black
  black_top empty h = refl
  black_top broken h = refl
  black_top (node l e b r) h = ap not (h e (omega (arith, count_node e l e b r, bit_self e)))

  pub black_paint : (t : Forest) → AllBlack t → every_node (coloured d) t ≡ true
  unfolding every_node coloured
  black_paint empty h = refl
  black_paint broken h = refl
  black_paint (node l e b r) h =
      rw (
        h e (omega (arith, count_node e l e b r, bit_self e)),
        black_top b (λ x q. h x (omega (arith, count_node x l e b r))),
        black_paint l (λ x q. h x (omega (arith, count_node x l e b r))),
        black_paint b (λ x q. h x (omega (arith, count_node x l e b r))),
        black_paint r (λ x q. h x (omega (arith, count_node x l e b r))),
      )

module _ (d d' : Directory) (b : IsBlack d d') (long : (i : ℕ) → i < d.count → length (d.entry i) ≡ 128)
    (fields : entry_rules d ≡ true) (trees : tree_rules d ≡ true) where
  pub black_entries : entry_rules d' ≡ true
  unfolding entry_rules entry_right
  black_entries =
      below_of d'.count (entry_right d')
      (λ i l'. let l : i < d.count = omega (arith, b.rows) in ap (entry_fields i) (b.inside i l) ∙ black_fields (d.entry i) i (long i l) (fields_at d fields i l))

  rules : Rules d
  rules = rules_apart d trees

  object : (x : ℕ) → 0 < count x (entries (forest d)) → is_object d x ≡ true
  unfolding forest
  object = entry_object d rules.shape

  lie : NamesLie d
  lie = names_lie d fields trees

  all_black : (x : ℕ) → 0 < count x (entries (forest d)) → red d' x ≡ false
  unfolding red
  all_black x q =
      ap (λ e. eqb (colour e) 0) (b.inside x (lie x q).0)
      ∙ ap (λ n. eqb n 0) (black_colour (d.entry x) (long x (lie x q).0) (object_coloured (d.entry x) (object x q)))

  shape : shape_ok d' ≡ true
  unfolding shape_ok reached_once reached_right forest
  shape =
      ap₂ ◌&&◌ (ap sound (forest_same d d' b))
      (ap (λ n. all_below n (reached_right d')) b.rows
      ∙ below_ext d.count (reached_right d) (reached_right d') (λ x l. ap₂ (λ t m. eqb (count x (entries t)) (bit (eqb m 1 || eqb m 2))) (forest_same d d' b) (kind_same d d' b x)))
      ∙ rules.shape

  pub black_trees : tree_rules d' ≡ true
  unfolding forest
  black_trees =
      rules_join d' (record {
        shape = shape;
        sorted = subst (λ t. every_node (sides_ordered d') t ≡ true) (sym (forest_same d d' b)) (sorted_kept d d' (forest d) (name_same d d' b lie) rules.sorted);
        top = subst (λ t. top_black d' t ≡ true) (sym (forest_same d d' b)) (black_top d' (forest d) all_black);
        paint = subst (λ t. every_node (coloured d') t ≡ true) (sym (forest_same d d' b)) (black_paint d' (forest d) all_black);
      })
