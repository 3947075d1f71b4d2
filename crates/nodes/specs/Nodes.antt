-- Nodes: what two numbers of the work buffer say of an entry's place in the trees.
use Rattle.std.specs.Prelude.{ℕ, ◌+◌, ◌*◌, ◌/◌, ◌%◌, ◌≤◌, ◌<◌, ◌≡◌, Bool, true, false, not, ◌&&◌, ◌||◌, List, eqb, length, get_or}
use Rattle.format.specs.Basics.Lists.{bit, list_below}
use Rattle.format.specs.Basics.Bytes.{Bytes}
use Rattle.format.specs.Layout.Entry.{name, colour, left, right, child, is_storage, is_stream}
use Rattle.format.specs.Layout.Directory.{Directory}
use Rattle.format.specs.Rules.Trees.{is_object}
use Rattle.theory.specs.TreeViews.{rows}
use Rattle.nodes.specs.Slots.{slot_of}

-- ---- the fields of a node

abbrev pub node_left : ℕ → ℕ
node_left a = a % 0x8_0000

abbrev pub node_right : ℕ → ℕ
node_right b = b % 0x8_0000

abbrev pub node_child : ℕ → ℕ → ℕ
node_child a b = a / 0x400_0000 * 0x2000 + b / 0x8_0000

abbrev pub node_units : ℕ → ℕ
node_units a = a / 0x8_0000 % 32

abbrev pub node_red : ℕ → Bool
node_red a = eqb (a / 0x100_0000 % 2) 1

abbrev pub node_reached : ℕ → Bool
node_reached a = eqb (a / 0x200_0000 % 2) 1

-- the first number of a node once it is reached
abbrev pub node_reach : ℕ → ℕ
node_reach a = a + 0x200_0000

-- what can be packed
pub record Packable (left right child units : ℕ) : Type 0 where
  pub lefts : left < 0x8_0000
  pub rights : right < 0x8_0000
  pub below : child < 0x8_0000
  pub few : units < 32

-- what was packed
pub record Packed (left right child units : ℕ) (top : Bool) (a b : ℕ) : Type 0 where
  pub lefts : node_left a ≡ left
  pub rights : node_right b ≡ right
  pub below : node_child a b ≡ child
  pub units_are : node_units a ≡ units
  pub red_is : node_red a ≡ top
  pub unreached : node_reached a ≡ false

-- what two numbers say of an object, by its bytes, where there are n entries
pub record NodeFields (n : ℕ) (entry : Bytes) (a b : ℕ) : Type 0 where
  pub lefts : node_left a ≡ slot_of n (left entry)
  pub rights : node_right b ≡ slot_of n (right entry)
  pub below : node_child a b ≡ slot_of n (child entry)
  pub units_are : node_units a ≡ length (name entry)
  pub red_is : node_red a ≡ eqb (colour entry) 0

-- an entry that is no object counts as reached
pub record EntryNode (n : ℕ) (entry : Bytes) (a b : ℕ) : Type 0 where
  pub object : (is_storage entry || is_stream entry) ≡ true → NodeFields n entry a b
  pub reached : node_reached a ≡ not (is_storage entry || is_stream entry)

-- ---- the node of an entry: that of entry x stands in slot x + 1

abbrev pub node_A : List ℕ → ℕ → ℕ
node_A w x = get_or w (2 * (x + 1)) 0

abbrev pub node_B : List ℕ → ℕ → ℕ
node_B w x = get_or w (2 * (x + 1) + 1) 0

abbrev pub NodeOf : Directory → ℕ → ℕ → ℕ → Type 0
NodeOf e x a b = NodeFields (rows e) (e.entry x) a b

pub record NodeStands (e : Directory) (w : List ℕ) (x : ℕ) : Type 0 where
  pub object : is_object e x ≡ true → NodeOf e x (node_A w x) (node_B w x)
  pub other : is_object e x ≡ false → node_reached (node_A w x) ≡ true

-- every entry has its node, and no field can name more than slots do
pub record NodesStand (e : Directory) (w : List ℕ) : Type 0 where
  pub some : 0 < rows e
  pub few : rows e < 0x8_0000
  pub room : 2 * rows e + 2 ≤ length w
  pub root : is_object e 0 ≡ false
  pub nodes : (x : ℕ) → x < rows e → NodeStands e w x

-- the marks of the objects that are reached
unfoldable pub mark_of : Directory → List ℕ → ℕ → ℕ
mark_of e w x = bit (is_object e x && node_reached (node_A w x))

unfoldable pub marks_of : Directory → List ℕ → List ℕ
marks_of e w = list_below (rows e) (mark_of e w)

-- no object is reached yet
pub record NodesFresh (e : Directory) (w : List ℕ) : Type 0 where
  pub stand : NodesStand e w
  pub unreached : (x : ℕ) → x < rows e → is_object e x ≡ true → node_reached (node_A w x) ≡ false
