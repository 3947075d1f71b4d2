-- The trees of the directory, as their fields draw them (group 15).
use Rattle.std.specs.Prelude.{ℕ, zero, suc, Bool, true, false, ◌&&◌, List, [], ◌∷◌, ◌++◌, ltb, eqb}
use Rattle.format.specs.Layout.Entry.{NOSTREAM, left, right, child}
use Rattle.format.specs.Layout.Directory.{Directory}

-- A tree of siblings with all that is below them. `node l e b r` is the entry e with its left side l, the tree b that its child field
-- names, and its right side r. NOSTREAM names `empty`. A number that may not be named is `broken`, and so is the place where the
-- fields lead on for ever.
pub data Forest : Type 0 where
  empty : Forest
  broken : Forest
  node : Forest → ℕ → Forest → Forest → Forest

-- a number that a field may name beside NOSTREAM: an entry, and not entry 0
abbrev pub named : Directory → ℕ → Bool
named d x = ltb 0 x && ltb x d.count

-- what a field stands for: nothing, a tree, or neither
unfoldable pub tree_of : Bool → Bool → Forest → Forest
tree_of true some tree = empty
tree_of false true tree = tree
tree_of false false tree = broken

-- the tree that the number x names, followed through at most `depth` fields
unfoldable pub grow : Directory → ℕ → ℕ → Forest
grow d zero x = tree_of (eqb x NOSTREAM) false broken
grow d (suc depth) x =
    let tree = node (grow d depth (left (d.entry x))) x (grow d depth (child (d.entry x))) (grow d depth (right (d.entry x))) in
    tree_of (eqb x NOSTREAM) (named d x) tree

-- All that is below the root. A way through the fields that is longer than there are entries meets an entry twice, and so has no end:
-- the depth is enough to draw every tree that ends.
unfoldable pub forest : Directory → Forest
forest d = grow d d.count (child (d.entry 0))

-- the entries in listing order: siblings in the tree's order, each followed at once by all that is below it
unfoldable pub entries : Forest → List ℕ
entries empty = []
entries broken = []
entries (node l e b r) = entries l ++ (e ∷ (entries b ++ entries r))

-- the siblings alone
unfoldable pub siblings : Forest → List ℕ
siblings empty = []
siblings broken = []
siblings (node l e b r) = siblings l ++ (e ∷ siblings r)

unfoldable pub is_empty : Forest → Bool
is_empty empty = true
is_empty broken = false
is_empty (node l e b r) = false
