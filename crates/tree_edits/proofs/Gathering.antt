-- The walk that lists the siblings of a tree: of the n entries that are listed, the sides of the first i are listed too, and the trees that `ps`
-- name are still to come.
use Prim.Native.Nat.{ℕ, zero, suc, ◌+◌, ◌≤◌, ◌<◌}
use mathlib.Core.Path.{◌≡◌, sym, ap, ◌∙◌, subst}
use mathlib.Core.Logic.{◌≢◌}
use mathlib.Core.Bool.{true}
use mathlib.Core.List.{List, [], ◌∷◌}
use native.Mathlib.Numerals.{add-one}
use native.Mathlib.Decide.{dec_lt, ℕ_discrete}
use native.Mathlib.Omega.{arith}
use lib.Dec.{eqb}
use lib.ListN.{length, get_or, take, set}
use lib.Seq.{take-suc-set, get_or-set_same, get_or-set_other, length-take-le, get_or-take}
use borrow.Author.Tests.{eq-eqb, ne_eqb}
use Rattle.format.specs.Basics.Bytes.{Bytes}
use Rattle.format.specs.Basics.Lists.{bit, count}
use Rattle.format.specs.Layout.Entry.{NOSTREAM}
use Rattle.format.specs.Layout.Directory.{Directory}
use Rattle.format.specs.Layout.Tree.{Forest, siblings}
use Rattle.theory.specs.Sums.{sum_below}
use Rattle.theory.specs.TreeViews.{rows, left_of, right_of, child_of, at, sound_at, Standing}
use Rattle.theory.proofs.Counts.{sum_ext, count_append, pigeonhole, bit_other}
use Rattle.theory.proofs.Trees.Grow.{grow_none}
use Rattle.theory.proofs.Trees.Stand.{stand, standing}
use Rattle.theory.proofs.Trees.Faces.{count_siblings_node}
use Rattle.frame.proofs.SameEntries.{found_at}
use Rattle.tables.specs.Work.{Wrote}
use Rattle.tables.proofs.WorkLaws.{wrote_none, wrote_set, wrote_two}
use Rattle.directory.specs.Listed.{count_of, entries_of, DirectoryListed}
use Rattle.directory.specs.declared.Directory.{Directory as Where}
use Rattle.directory.proofs.Places.{count_is, directory_kept}
use Rattle.tree_edits.specs.Siblings.{added, added_count, SiblingTree, SiblingsListed}

-- ---- sums

sum_more : (f : ℕ → ℕ) (i n : ℕ) → i ≤ n → sum_below f i ≤ sum_below f n
sum_more f i zero h = let e : i ≡ 0 = omega arith in rw e (omega arith)
sum_more f i (suc n) h = elim (dec_lt i (suc n)) [ yes p ↦ omega (arith, sum_more f i n (omega arith)) | no p ↦ (let e : i ≡ suc n = omega arith in rw e (omega arith)) ]

-- how often y stands in the sides of the entry x
unfoldable pub sides_count : Directory → ℕ → ℕ → ℕ
sides_count e y x = count y (siblings (at e (left_of e x))) + count y (siblings (at e (right_of e x)))

-- and in those of the first n entries of a list
unfoldable pub sides_below : Directory → ℕ → List ℕ → ℕ → ℕ
sides_below e y w n = sum_below (λ j. sides_count e y (get_or w j 0)) n

-- and in the trees that are still to come
unfoldable pub owed : Directory → ℕ → List ℕ → ℕ
owed e y [] = 0
owed e y (p ∷ ps) = count y (siblings (at e p)) + owed e y ps

abbrev pub AllSound : Directory → List ℕ → Type 0
AllSound e [] = Unit {0}
AllSound e (p ∷ ps) = (sound_at e p ≡ true) × AllSound e ps

module _ (e : Directory) (y : ℕ) where
  below_next : (w : List ℕ) (n : ℕ) → sides_below e y w (n + 1) ≡ sides_below e y w n + sides_count e y (get_or w n 0)
  unfolding sides_below
  below_next w n = rw (add-one n)

  below_more : (w : List ℕ) (i n : ℕ) → i ≤ n → sides_below e y w i ≤ sides_below e y w n
  unfolding sides_below
  below_more w i n h = sum_more (λ j. sides_count e y (get_or w j 0)) i n h

  below_set : (w : List ℕ) (n i x : ℕ) → i ≤ n → sides_below e y (set w n x) i ≡ sides_below e y w i
  unfolding sides_below
  below_set w n i x h =
      sum_ext (λ j. sides_count e y (get_or (set w n x) j 0)) (λ j. sides_count e y (get_or w j 0)) i
      (λ j l. ap (sides_count e y) (get_or-set_other w n j x 0 (omega arith)))

  -- a tree is its top and its sides
  tree_count : (x : ℕ) → Standing e x → count y (siblings (at e x)) ≡ bit (eqb y x) + sides_count e y x
  unfolding sides_count
  tree_count x s =
      ap (λ (t : Forest). count y (siblings t)) (standing e x s).tree
      ∙ count_siblings_node y (at e (left_of e x)) x (at e (child_of e x)) (at e (right_of e x))

  none_count : (x : ℕ) → x ≡ NOSTREAM → count y (siblings (at e x)) ≡ 0
  unfolding siblings
  none_count x h = ap (λ (t : Forest). count y (siblings t)) (grow_none e (rows e) x h)

  take_count : (w : List ℕ) (n x : ℕ) → n < length w → count y (take (n + 1) (set w n x)) ≡ count y (take n w) + bit (eqb y x)
  take_count w n x h =
      ap (λ (k : ℕ). count y (take k (set w n x))) (add-one n) ∙ ap (count y) (take-suc-set w n x h) ∙ count_append y (take n w) (x ∷ [])
      ∙ (let q : count y (x ∷ []) ≡ bit (eqb y x) = omega arith in ap (λ (k : ℕ). count y (take n w) + k) q)

-- ---- the walk

pub record Gathering (d : Where) (img : Bytes) (top : ℕ) (w₀ w : List ℕ) (i n : ℕ) (ps : List ℕ) : Type 0 where
  pub listed : DirectoryListed d img w
  pub apart : count_of d ≤ d.list
  pub tree : SiblingTree (entries_of d img) top
  pub upto : i ≤ n
  pub sounds : AllSound (entries_of d img) ps
  pub stands : (j : ℕ) → j < n → Standing (entries_of d img) (get_or w j 0)
  pub each : (y : ℕ) → count y (siblings (at (entries_of d img) top)) + sides_below (entries_of d img) y w i
      ≡ count y (take n w) + sides_below (entries_of d img) y w n + owed (entries_of d img) y ps
  pub wrote : Wrote w₀ w 0 (count_of d)
  pub few : n ≤ count_of d

module _ (d : Where) (img : Bytes) (top : ℕ) (w₀ : List ℕ) where
  abbrev e : Directory
  e = entries_of d img

  pub gather_start : DirectoryListed d img w₀ → count_of d ≤ d.list → SiblingTree e top → Gathering d img top w₀ w₀ 0 0 (top ∷ [])
  unfolding owed sides_below
  gather_start l a t = record {
    listed = l;
    apart = a;
    tree = t;
    upto = omega arith;
    sounds = (t.tree_sound, tt);
    stands = λ j h. absurd (omega arith);
    each = λ y. omega arith;
    wrote = wrote_none w₀ 0 (count_of d);
    few = omega arith;
  }

  module _ {w : List ℕ} {i n : ℕ} {ps : List ℕ} (g : Gathering d img top w₀ w i n ps) where
    -- there is room for one more
    pub gather_room : n < length w
    gather_room = omega (arith, g.few, g.apart, g.listed.room, g.listed.some)

    -- no entry is listed twice
    once : (y : ℕ) → count y (take n w) + owed e y ps ≤ 1
    once y = omega (arith, g.each y, g.tree.once y, below_more e y w i n g.upto)

    listed_below : (y : ℕ) → 0 < count y (take n w) → y < rows e
    listed_below y h = go (found_at y (take n w) h)
      where
        go : (j : ℕ) × (j < length (take n w)) × (get_or (take n w) j 0 ≡ y) → y < rows e
        go r = let b : r.0 < n = omega (arith, r.1, length-take-le n w (omega (arith, gather_room))) in
            subst (λ (k : ℕ). k < rows e) (sym (get_or-take n w r.0 0 b) ∙ r.2) (g.stands r.0 b).inside

  module _ {w : List ℕ} {i n x : ℕ} {ps : List ℕ} (g : Gathering d img top w₀ w i n (x ∷ ps)) where
    module _ (h : x ≢ NOSTREAM) where
      new_stands : Standing e x
      new_stands = stand e x h g.sounds.0

      -- it is one of no more entries than there are
      fits : n < count_of d
      unfolding owed
      fits =
          let k : (y : ℕ) → count y (x ∷ take n w) ≤ 1 = λ y. omega (arith, once g y, tree_count e y x new_stands) in
          let b : (y : ℕ) → 0 < count y (x ∷ take n w) → y < rows e = λ y q. below y q (ℕ_discrete y x) in
          omega (arith, pigeonhole (x ∷ take n w) (rows e) b k, length-take-le n w (omega (arith, gather_room g)), count_is g.listed)
        where
          below : (y : ℕ) → 0 < count y (x ∷ take n w) → Dec (y ≡ x) → y < rows e
          below y q (yes m) = rw m new_stands.inside
          below y q (no m) = listed_below g y (omega (arith, q, bit_other y x m))

      stands_now : (j : ℕ) → j < n + 1 → Standing e (get_or (set w n x) j 0)
      stands_now j q =
          elim (dec_lt j n) [
            | yes m ↦ rw (get_or-set_other w n j x 0 (omega arith)) (g.stands j m)
            | no m ↦ let k : j ≡ n = omega arith in rw (k, get_or-set_same w n x 0 (gather_room g)) new_stands
          ]

      each_now : (y : ℕ) → count y (siblings (at e top)) + sides_below e y (set w n x) i
          ≡ count y (take (n + 1) (set w n x)) + sides_below e y (set w n x) (n + 1) + owed e y ps
      unfolding owed
      each_now y =
          let a = below_set e y w n i x g.upto in
          let b = below_set e y w n n x (omega arith) in
          let c = below_next e y (set w n x) n in
          let f = ap (sides_count e y) (get_or-set_same w n x 0 (gather_room g)) in
          omega (arith, g.each y, a, b, c, f, take_count e y w n x (gather_room g), tree_count e y x new_stands)

      wrote_now : Wrote w (set w n x) 0 (count_of d)
      wrote_now = wrote_set n x (wrote_none w 0 (count_of d)) (omega arith) (omega (arith, fits))

      with_entry_lem : Gathering d img top w₀ (set w n x) i (n + 1) ps
      with_entry_lem = record {
        listed = directory_kept g.listed wrote_now (omega (arith, g.apart));
        apart = g.apart;
        tree = g.tree;
        upto = omega (arith, g.upto);
        sounds = g.sounds.1;
        stands = stands_now;
        each = each_now;
        wrote = wrote_two g.wrote wrote_now;
        few = omega (arith, fits);
      }

    without_entry : x ≡ NOSTREAM → Gathering d img top w₀ w i n ps
    unfolding owed
    without_entry h = record {
      listed = g.listed;
      apart = g.apart;
      tree = g.tree;
      upto = g.upto;
      sounds = g.sounds.1;
      stands = g.stands;
      each = λ y. omega (arith, g.each y, none_count e y x h);
      wrote = g.wrote;
      few = g.few;
    }

    pub gather_add : Gathering d img top w₀ (added w n x) i (added_count n x) ps
    unfolding added added_count
    gather_add =
        elim (ℕ_discrete x NOSTREAM) [
          | yes h ↦ rw (eq-eqb x NOSTREAM h) (without_entry h)
          | no h ↦ rw (ne_eqb x NOSTREAM h) (with_entry_lem h)
        ]

  module _ {w : List ℕ} {i n : ℕ} (g : Gathering d img top w₀ w i n []) where
    -- the sides of the next entry
    pub gather_turn : i < n → Gathering d img top w₀ w (i + 1) n (left_of e (get_or w i 0) ∷ right_of e (get_or w i 0) ∷ [])
    unfolding owed sides_count
    gather_turn h =
        let s = standing e (get_or w i 0) (g.stands i h) in
        record {
          listed = g.listed;
          apart = g.apart;
          tree = g.tree;
          upto = omega arith;
          sounds = (s.left_sound, (s.right_sound, tt));
          stands = g.stands;
          each = λ y. omega (arith, g.each y, below_next e y w i);
          wrote = g.wrote;
          few = g.few;
        }

    pub gather_end : n ≤ i → SiblingsListed e top w n
    unfolding owed
    gather_end h =
        let q : i ≡ n = omega (arith, g.upto) in
        record { few = omega (arith, g.few, count_is g.listed); each = λ y. omega (arith, g.each y, ap (sides_below e y w) q) }

  -- the top is listed
  pub gather_first : DirectoryListed d img w₀ → count_of d ≤ d.list → SiblingTree e top → {n : ℕ} {w : List ℕ} → n ≡ added_count 0 top → w ≡ added w₀ 0 top
      → Gathering d img top w₀ w 0 n []
  gather_first l a t p q = rw (p, q) (gather_add (gather_start l a t))

  -- a turn: the left side's top is listed, then the right one's
  module _ {w : List ℕ} {i n : ℕ} (g : Gathering d img top w₀ w i n []) (h : i < n) {l n₂ : ℕ} {w₂ : List ℕ} (el : l ≡ left_of e (get_or w i 0))
      (n₂-is : n₂ ≡ added_count n l) (w₂-is : w₂ ≡ added w n l) where
    gather_left : Gathering d img top w₀ w₂ (i + 1) n₂ (right_of e (get_or w i 0) ∷ [])
    gather_left = rw (n₂-is, w₂-is, el) (gather_add (gather_turn g h))

    pub gather_left_room : n₂ < length w₂
    gather_left_room = gather_room gather_left

    pub gather_sides : {r n₃ : ℕ} {w₃ : List ℕ} → r ≡ right_of e (get_or w i 0) → n₃ ≡ added_count n₂ r → w₃ ≡ added w₂ n₂ r → Gathering d img top w₀ w₃ (i + 1) n₃ []
    gather_sides er p q = rw (p, q, er) (gather_add gather_left)
