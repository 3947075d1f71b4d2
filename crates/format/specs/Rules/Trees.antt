-- Group 15: the trees of the directory.
use Rattle.std.specs.Prelude.{ℕ, Bool, true, false, not, ◌&&◌, ◌||◌, eqb}
use Rattle.format.specs.Basics.Lists.{all, all_below, bit, count}
use Rattle.format.specs.Layout.Name.{name_less}
use Rattle.format.specs.Layout.Entry.{name, colour, is_storage, is_stream}
use Rattle.format.specs.Layout.Directory.{Directory}
use Rattle.format.specs.Layout.Tree.{Forest, empty, broken, node, forest, entries, siblings}

-- ---- the trees can be drawn: every named number is an entry other than 0, and the fields come to an end

unfoldable pub sound : Forest → Bool
sound empty = true
sound broken = false
sound (node l e b r) = sound l && (sound b && sound r)

-- ---- each storage and each stream is reached exactly once, a blank entry and the root never

abbrev pub is_object : Directory → ℕ → Bool
is_object d x = is_storage (d.entry x) || is_stream (d.entry x)

unfoldable pub reached_right : Directory → ℕ → Bool
reached_right d x = eqb (count x (entries (forest d))) (bit (is_object d x))

unfoldable pub reached_once : Directory → Bool
reached_once d = all_below d.count (reached_right d)

-- ---- a test that every node passes, in this tree and in those below it

unfoldable pub every_node : (Forest → ℕ → Forest → Forest → Bool) → Forest → Bool
every_node q empty = true
every_node q broken = true
every_node q (node l e b r) = q l e b r && (every_node q l && (every_node q b && every_node q r))

-- ---- order: a node's whole left side comes before it, its whole right side after it

unfoldable pub less : Directory → ℕ → ℕ → Bool
less d x y = name_less (name (d.entry x)) (name (d.entry y))

unfoldable pub greater : Directory → ℕ → ℕ → Bool
greater d x y = less d y x

unfoldable pub sides_ordered : Directory → Forest → ℕ → Forest → Forest → Bool
sides_ordered d l e b r = all (greater d e) (siblings l) && all (less d e) (siblings r)

-- ---- colours: the top of a tree is black, and no red node stands right below a red one of its tree

unfoldable pub red : Directory → ℕ → Bool
red d x = eqb (colour (d.entry x)) 0

unfoldable pub top_black : Directory → Forest → Bool
top_black d empty = true
top_black d broken = true
top_black d (node l e b r) = not (red d e)

unfoldable pub coloured : Directory → Forest → ℕ → Forest → Forest → Bool
coloured d l e b r = (not (red d e) || (top_black d l && top_black d r)) && top_black d b

-- GROUP 15
unfoldable pub tree_rules : Directory → Bool
tree_rules d =
    sound (forest d)
    && reached_once d
    && every_node (sides_ordered d) (forest d)
    && top_black d (forest d)
    && every_node (coloured d) (forest d)
