-- After the links of a removal: its siblings become black, and its entry blank. What the links have to do for that to be the image that `format` says.
use mathlib.Core.Path.{◌≡◌, refl, sym, ap, ◌∙◌, subst, subst₂}
use mathlib.Core.Logic.{◌≢◌, inl, inr}
use mathlib.Core.Bool.{◌||◌}
use mathlib.Core.List.{List}
use Prim.Native.Nat.{ℕ, ◌≤◌, ◌<◌}
use native.Mathlib.Omega.{arith}
use lib.Dec.{eqb}
use lib.ListN.{length, get_or}
use Rattle.format.specs.Basics.Lists.{count}
use Rattle.format.specs.Basics.Bytes.{Bytes, put_bytes}
use Rattle.format.specs.Layout.Geometry.{Geometry}
use Rattle.format.specs.Layout.Entry.{NOSTREAM, Field, child_field, name_bytes, name, colour, black, left, right, is_storage, is_stream}
use Rattle.format.specs.Layout.NewEntry.{blank_entry}
use Rattle.format.specs.Layout.Directory.{Directory, directory_of, entry_place, entry_count, entry_in}
use Rattle.format.specs.Layout.Tree.{Forest, empty, node, entries, siblings}
use Rattle.format.specs.Layout.Volume.{volume, directory, directory_sectors_of}
use Rattle.format.specs.Rules.Trees.{red}
use Rattle.format.specs.Rules.Verdict.{Accepted}
use Rattle.format.specs.Calls.Remove.{entry_removed_at}
use Rattle.theory.specs.TreeViews.{rows, left_of, right_of, child_of, at, whole, Standing}
use Rattle.theory.specs.TreeOrder.{Rules}
use Rattle.theory.specs.TreeDraw.{link}
use Rattle.theory.specs.TreeWays.{Way, plug, onward, slot_entry}
use Rattle.theory.specs.TreeEdits.{Removed}
use Rattle.theory.specs.TreeUnlink.{Located, Blanked}
use Rattle.theory.proofs.Counts.{bit_self}
use Rattle.theory.proofs.Bytes.{u32_lt}
use Rattle.theory.proofs.Trees.Grow.{count_node}
use Rattle.theory.proofs.Trees.Stand.{entry_stands}
use Rattle.theory.proofs.Trees.Nodes.{shape_sound}
use Rattle.theory.proofs.Trees.Ways.{count_plug, plug_onward, still_or_deep}
use Rattle.theory.proofs.Trees.Faces.{count_siblings_node, siblings_few}
use Rattle.theory.proofs.Trees.Pointwise.{link_same}
use Rattle.theory.proofs.Trees.Unlink.{siblings_count}
use Rattle.frame.specs.Kept.{Sized, Kept, Off, Table}
use Rattle.frame.specs.Redraw.{SameBody}
use Rattle.frame.specs.Unlink.{owner_of, blackened_at, LinkSet, Linked, BlackSet, BlankSet}
use Rattle.frame.proofs.Kept.{kept_trans}
use Rattle.frame.proofs.Bodies.{kind_body, name_body}
use Rattle.frame.proofs.MadeEntries.{kind_blank}
use Rattle.frame.proofs.Redrawing.{dirs_table, entries_few_lem}
use Rattle.frame.proofs.LinkPuts.{body_trans, black_kept, black_set, blank_kept, blank_set}
use Rattle.frame.proofs.RemovedImage.{entry_bytes_lem, removed_image}

-- ---- links alone

pub linked_set : (d d₂ : Directory) (k : Field) (e v : ℕ) → LinkSet d d₂ k e v → Linked d d₂
linked_set d d₂ k e v s = record { body = s.body; colours = s.colours }

pub linked_two : (a b c : Directory) → Linked a b → Linked b c → Linked a c
linked_two a b c p q = record {
  body = λ y. body_trans (a.entry y) (b.entry y) (c.entry y) (p.body y) (q.body y);
  colours = λ y. q.colours y ∙ p.colours y;
}

-- ---- what changes beside the links

blanked_by : (d d₁ d₂ d₃ : Directory) (t : Forest) (x : ℕ) (ys : List ℕ) → rows d₃ ≡ rows d → Linked d d₁ → BlackSet d₁ d₂ ys → BlankSet d₂ d₃ x
    → 0 < count x (siblings t) → ((y : ℕ) → count y ys ≡ count y (siblings t)) → ((y : ℕ) → 0 < y → name_bytes (d.entry y) ≤ 64) → Blanked d d₃ t x
unfolding red
blanked_by d d₁ d₂ d₃ t x ys n p q s among listed names = record {
  rows_same = n;
  blank = ap (λ (b : Bytes). is_storage b || is_stream b) s.blank ∙ ap (λ (i : ℕ). eqb i 1 || eqb i 2) kind_blank;
  black = λ y h z. ap (λ (i : ℕ). eqb i 0) (ap colour (s.others y z) ∙ q.painted y (omega (arith, listed y)));
  names = λ y z a. ap name (s.others y z) ∙ name_body (d.entry y) (d₂.entry y) (body y) (names y a);
  colours = λ y h. ap colour (s.others y (λ e. omega (arith, among, h, ap (λ (i : ℕ). count i (siblings t)) e)))
      ∙ q.colours y (listed y ∙ h) ∙ p.colours y;
  kind_same = λ y z. ap (λ (b : Bytes). is_storage b || is_stream b) (s.others y z)
      ∙ ap (λ (i : ℕ). eqb i 1 || eqb i 2) (kind_body (d.entry y) (d₂.entry y) (body y));
}
  where
    body : (y : ℕ) → SameBody (d.entry y) (d₂.entry y)
    body y = body_trans (d.entry y) (d₁.entry y) (d₂.entry y) (p.body y) (q.body y)

-- ---- the image

module _ (g : Geometry) (z : Sized g) (img : Bytes) (acc : Accepted g img) where
  abbrev pub dirs : List ℕ
  dirs = directory_sectors_of g img

  abbrev pub d : Directory
  d = directory_of g img dirs

  abbrev pub dir_of : Bytes → Directory
  dir_of a = directory_of g a dirs

  abbrev pub place : ℕ → ℕ
  place = entry_place g dirs

  abbrev pub tb : Table g (length img) dirs
  tb = dirs_table g z img acc

  volume_is : (volume g img).directory ≡ d
  unfolding volume directory
  volume_is = refl

  entry_of : (a : Bytes) (y : ℕ) → (dir_of a).entry y ≡ entry_in g a dirs y
  unfolding directory_of
  entry_of a y = refl

  count_of : (a : Bytes) → (dir_of a).count ≡ entry_count g dirs
  unfolding directory_of
  count_of a = refl

  few : d.count < NOSTREAM
  few = rw volume_is at (entries_few_lem g z img acc)

  module _ (w v : Way) (t l : Forest) (x : ℕ) (r : Forest) (c : Located d w v t l x r) (k : Rules d)
      (names : (y : ℕ) → 0 < y → name_bytes (d.entry y) ≤ 64) (before : (i : ℕ) → get_or img i 0 < 256) (ys : List ℕ)
      (listed : (y : ℕ) → count y ys ≡ count y (siblings t)) where
    abbrev pub it : Forest
    it = node l x empty r

    old_way : whole d ≡ plug (onward w v) it
    old_way = c.old ∙ ap (plug w) c.place ∙ sym (plug_onward w v it)

    stands : (y : ℕ) → 0 < count y (entries (plug (onward w v) it)) → Standing d y
    stands y h = entry_stands d (child_of d 0) (shape_sound d k.shape) y (subst (λ (i : Forest). 0 < count y (entries i)) (sym old_way) h)

    pub it_stands : (y : ℕ) → 0 < count y (entries it) → Standing d y
    it_stands y h = stands y (omega (arith, count_plug y (onward w v) it))

    pub x_stands : Standing d x
    x_stands = it_stands x (omega (arith, count_node x l x empty r, bit_self x))

    pub inside : (y : ℕ) → Standing d y → y < entry_count g dirs
    inside y s = omega (arith, s.inside, count_of img)

    pub owner_inside : owner_of w v < entry_count g dirs
    owner_inside =
        elim (still_or_deep (onward w v) child_field 0) [
          | inl q ↦ omega (arith, q.entry, inside x x_stands)
          | inr q ↦ inside (owner_of w v) (stands (owner_of w v) (omega (arith, q.outside, count_plug (owner_of w v) (onward w v) it)))
        ]

    among : 0 < count x (siblings t)
    among =
        omega (
          arith,
          ap (λ (f : Forest). count x (siblings f)) c.place,
          siblings_count x v it c.level,
          count_siblings_node x l x empty r,
          bit_self x,
        )

    listed_inside : (y : ℕ) → 0 < count y ys → y < entry_count g dirs
    listed_inside y h =
        let q = ap (λ (f : Forest). count y (entries f)) c.place in
        inside y (stands y (subst (λ (f : Forest). 0 < count y (entries f)) (sym (plug_onward w v it))
        (subst (λ (f : Forest). 0 < count y (entries (plug w f))) c.place (omega (arith, listed y, siblings_few y t, count_plug y w t)))))

    pub left_small : (y : ℕ) → left_of d y < 0x1_0000_0000
    unfolding left
    left_small y = rw (entry_of img y) (u32_lt (entry_in g img dirs y) 68 (entry_bytes_lem g img dirs before y))

    pub right_small : (y : ℕ) → right_of d y < 0x1_0000_0000
    unfolding right
    right_small y = rw (entry_of img y) (u32_lt (entry_in g img dirs y) 72 (entry_bytes_lem g img dirs before y))

    pub stands_small : (y : ℕ) → Standing d y → y < 0x1_0000_0000
    stands_small y s = omega (arith, s.inside, few)

    -- ---- colours and the blank entry, after any links

    abbrev pub last : Bytes → Bytes
    last a = put_bytes (blackened_at place ys a) (place x) blank_entry

    abbrev pub target : Bytes
    target = entry_removed_at (volume g img) img (slot_entry w 0) t x

    -- what links have to do
    abbrev pub Unlinks : Bytes → Type 0
    Unlinks a = ((j : Field) (y : ℕ) → y ≢ x → link (dir_of (last a)) j y ≡ link (dir_of a) j y) → Blanked d (dir_of (last a)) t x → Removed d (dir_of (last a)) w t x

    abbrev pub Right : Bytes → Type 0
    Right a = ((i : ℕ) → get_or (last a) i 0 < 256) → last a ≡ target

    module _ (a : Bytes) (K : Kept g (Off dirs) img a) (p : Linked d (dir_of a)) where
      abbrev a₂ : Bytes
      a₂ = blackened_at place ys a

      abbrev d₃ : Directory
      d₃ = dir_of (last a)

      painted : BlackSet (dir_of a) (dir_of a₂) ys
      painted = black_set g z (length img) dirs tb ys a K.size listed_inside

      painted_kept : Kept g (Off dirs) a a₂
      painted_kept = black_kept g z (length img) dirs tb ys a K.size listed_inside

      blank : BlankSet (dir_of a₂) d₃ x
      blank = blank_set g z (length img) dirs tb a₂ x (inside x x_stands) (painted_kept.size ∙ K.size)

      kept : Kept g (Off dirs) img (last a)
      kept =
          kept_trans g (Off dirs) img a (last a) K
          (kept_trans g (Off dirs) a a₂ (last a) painted_kept (blank_kept g z (length img) dirs tb a₂ x (inside x x_stands) (painted_kept.size ∙ K.size)))

      on : (j : Field) (y : ℕ) → y ≢ x → link d₃ j y ≡ link (dir_of a) j y
      on j y n = link_same (dir_of a₂) d₃ y (blank.others y n) j ∙ painted.links j y

      blanked : Blanked d d₃ t x
      blanked = blanked_by d (dir_of a) (dir_of a₂) d₃ t x ys (count_of (last a) ∙ sym (count_of img)) p painted blank among listed names

      body : (y : ℕ) → y ≢ x → SameBody (entry_in g img dirs y) (entry_in g (last a) dirs y)
      body y n =
          subst₂ (λ (b e : Bytes). SameBody b e) (entry_of img y) (sym (blank.others y n) ∙ entry_of (last a) y)
          (body_trans (d.entry y) ((dir_of a).entry y) ((dir_of a₂).entry y) (p.body y) (painted.body y))

      paint : (y : ℕ) → y ≢ x → 0 < count y (siblings t) → colour (entry_in g (last a) dirs y) ≡ black
      paint y n h = ap colour (sym (entry_of (last a) y) ∙ blank.others y n) ∙ painted.painted y (omega (arith, listed y))

      pub finish : Unlinks a → Right a
      finish m after =
          removed_image g z img acc d₃ w t x
          (subst (λ (e : Directory). Removed e d₃ w t x) (sym volume_is) (m on blanked)) (subst Rules (sym volume_is) k)
          (last a) (entry_of (last a)) kept body paint (sym (entry_of (last a) x) ∙ blank.blank) before after
