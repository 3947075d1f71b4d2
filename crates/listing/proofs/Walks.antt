-- The walk with its stack in the work buffer, as both walks over the listing make it.
use Prim.Native.Nat.{ℕ, ◌+◌, ◌-◌, ◌*◌, ◌≤◌, ◌<◌}
use mathlib.Core.Path.{◌≡◌, ap, sym, ◌∙◌, subst}
use mathlib.Core.Bool.{true}
use mathlib.Core.List.{List, [], ◌∷◌, ◌++◌, append_assoc}
use native.Mathlib.Omega.{arith}
use lib.ListN.{length}
use Rattle.format.specs.Basics.Bytes.{Bytes}
use Rattle.format.specs.Layout.Directory.{Directory, directory_of, size_of}
use Rattle.format.specs.Layout.Tree.{entries}
use Rattle.format.specs.Layout.Volume.{directory}
use Rattle.format.specs.Rules.Entries.{entry_rules}
use Rattle.format.specs.Rules.Trees.{tree_rules}
use Rattle.format.specs.Calls.Listing.{line, lines}
use Rattle.theory.specs.TreeViews.{child_of, at, whole, sound_at, shape_ok}
use Rattle.theory.proofs.Trees.Rules.{rules_apart}
use Rattle.theory.proofs.Trees.Nodes.{shape_sound, entries_few_lem}
use Rattle.tables.specs.Work.{Wrote}
use Rattle.tables.proofs.WorkLaws.{wrote_none, wrote_two}
use Rattle.entries.specs.Entry.{entry_at, NamedAt}
use Rattle.directory.specs.Listed.{count_of, entries_of, place_of, DirectoryListed}
use Rattle.directory.specs.declared.Directory.{Directory as Where}
use Rattle.directory.proofs.Places.{directory_kept, count_is, entry_is}
use Rattle.lines.specs.Lines.{width_of, head, line_text, line_length}
use Rattle.listing.specs.Walks.{pairs, entry_on, parent_on, spine, turned_at, Turning}
use Rattle.lines.proofs.LineLengths.{line_length_lem}
use Rattle.listing.proofs.Stack.{pairs_long, pairs_top}
use Rattle.listing.proofs.Turns.{turn_named, turn_inside}
use Rattle.listing.proofs.Walked.{Walked, path_of, count_come, walk_start, walk_end, walk_more, top_turning, top_parent, line_room}

-- a line of the listing is the text that is written for it
pub line_text_lem : (d : Where) (img : Bytes) (x : ℕ) (path : Bytes) → line (entries_of d img) x path ≡ line_text (width_of d.geometry) ((entries_of d img).entry x) path
unfolding line head size_of directory directory_of
line_text_lem d img x path = simp append_assoc

-- what both walks are lent
pub record ListingLent (d : Where) (img : Bytes) (w : List ℕ) : Type 0 where
  pub listed : DirectoryListed d img w
  pub rules : entry_rules (entries_of d img) ≡ true
  pub trees : tree_rules (entries_of d img) ≡ true
  pub apart : 2 * count_of d ≤ d.list
  pub few : count_of d ≤ 0x100_0000

-- k lines are done, the last one with the path t, and n pairs are on the stack
pub record Walks (d : Where) (img : Bytes) (w₀ w : List ℕ) (n k : ℕ) (t done : Bytes) : Type 0 where
  pub lent : ListingLent d img w
  pub wrote : Wrote w₀ w 0 (2 * count_of d)
  pub walk : Walked (entries_of d img) t done k (pairs w n)

module _ {d : Where} {img : Bytes} {w : List ℕ} (l : ListingLent d img w) where
  abbrev e : Directory
  e = entries_of d img

  pub shape : shape_ok e ≡ true
  shape = (rules_apart e l.trees).shape

  pub lent_kept : {w' : List ℕ} → Wrote w w' 0 (2 * count_of d) → ListingLent d img w'
  lent_kept r = record { listed = directory_kept l.listed r (omega (arith, l.apart)); rules = l.rules; trees = l.trees; apart = l.apart; few = l.few }

  pub objects_few : length (entries (whole e)) ≤ count_of d
  objects_few = omega (arith, entries_few_lem e shape, count_is l.listed)

  -- the start: the tree at y, below the root, is put on the empty stack
  module _ {y : ℕ} (ey : y ≡ child_of e 0) where
    pub start_sound : sound_at e y ≡ true
    start_sound = rw ey (shape_sound e shape)

    pub start_room : 0 + length (entries (at e y)) ≤ count_of d
    start_room = rw ey (omega (arith, objects_few))

    pub start_walks : {w' : List ℕ} (n : ℕ) → pairs w' n ≡ spine 0 (at e y) ++ pairs w 0 → Wrote w w' 0 (2 * count_of d) → Walks d img w w' n 0 [] []
    unfolding pairs
    start_walks n s r =
        let z = rw ey at s in
        record { lent = lent_kept r; wrote = r; walk = subst (Walked e [] [] 0) (sym z) (walk_start e shape) }

module _ {d : Where} {img : Bytes} {w₀ w : List ℕ} {n k : ℕ} {t done : Bytes} (s : Walks d img w₀ w n k t done) where
  -- what was written before is not counted
  pub walks_here : Walks d img w w n k t done
  walks_here = record { lent = s.lent; wrote = wrote_none w 0 (2 * count_of d); walk = s.walk }

  -- the end: the stack is empty
  pub walks_end : n ≤ 0 → (done ≡ lines (e s.lent) [] (whole (e s.lent))) × (k ≡ length (entries (whole (e s.lent))))
  unfolding pairs
  walks_end h =
      let z : n ≡ 0 = omega arith in
      walk_end (subst (λ (m : ℕ). Walked (e s.lent) t done k (pairs w m)) z s.walk)

  -- a turn takes the last pair off
  module _ (h : 0 < n) where
    abbrev x : ℕ
    x = entry_on w (n - 1)

    abbrev p : ℕ
    p = parent_on w (n - 1)

    popped : Walked (e s.lent) t done k ((x, p) ∷ pairs w (n - 1))
    popped =
        let z : n ≡ n - 1 + 1 = omega arith in
        subst (Walked (e s.lent) t done k) (ap (pairs w) z ∙ pairs_top w (n - 1)) s.walk

    pub walks_turning : Turning (e s.lent) (count_of d) (n - 1) x p
    walks_turning =
        let c = count_is s.lent.listed in
        subst (λ (m : ℕ). Turning (e s.lent) (count_of d) m x p) (pairs_long w (n - 1))
        (top_turning s.lent.rules (shape s.lent) popped (omega (arith, c, s.lent.few)) (count_of d) (omega (arith, c)))

    pub walks_inside : 2 * (n - 1) + 1 < length w
    walks_inside = turn_inside s.lent.listed walks_turning s.lent.apart

    pub walks_named : (i : ℕ) → i ≡ place_of d w x → NamedAt img i
    walks_named = turn_named s.lent.listed walks_turning s.lent.rules

    pub walks_parent : p ≤ length t
    walks_parent = top_parent s.lent.rules (shape s.lent) popped

    abbrev pub path : Bytes
    path = path_of (e s.lent) t x p

    pub walks_entry : (i : ℕ) → i ≡ place_of d w x → entry_at img i ≡ (e s.lent).entry x
    walks_entry i q = ap (λ (j : ℕ). entry_at img j) q ∙ sym (entry_is s.lent.listed x walks_turning.stands.inside)

    pub walks_line : (i : ℕ) → i ≡ place_of d w x → line_length (width_of d.geometry) (entry_at img i) p ≡ length (line (e s.lent) x path)
    unfolding path_of
    walks_line i q = rw (walks_entry i q, line_text_lem d img x path) (sym (line_length_lem (width_of d.geometry) ((e s.lent).entry x) p t walks_parent))

    pub walks_room : length done + length (line (e s.lent) x path) ≤ length (lines (e s.lent) [] (whole (e s.lent)))
    walks_room = line_room s.lent.rules (shape s.lent) popped

    pub walks_count : k < count_of d
    unfolding count_come
    walks_count = omega (arith, popped.count, objects_few s.lent)

    module _ {w' : List ℕ} (n' : ℕ) (q : pairs w' n' ≡ turned_at (e s.lent) w (n - 1)) (r : Wrote w w' 0 (2 * count_of d)) where
      pub walks_more : Walks d img w₀ w' n' (k + 1) path (done ++ line (e s.lent) x path)
      walks_more = record {
        lent = lent_kept s.lent r;
        wrote = wrote_two s.wrote r;
        walk = subst (Walked (e s.lent) path (done ++ line (e s.lent) x path) (k + 1)) (sym q) (walk_more s.lent.rules (shape s.lent) popped);
      }

      -- the loop's measure
      pub walks_less : count_come (e s.lent) (pairs w' n') < count_come (e s.lent) (pairs w n)
      walks_less = omega (arith, walks_more.walk.count, s.walk.count)
