-- A removal by the few fields that it changes: the links, then the colours, then the blank entry. Entry y starts at the byte `place y`.
use Rattle.std.specs.Prelude.{ℕ, ◌+◌, ◌<◌, ◌≡◌, ◌≢◌, cond, List, [], ◌∷◌, eqb}
use Rattle.format.specs.Basics.Lists.{count}
use Rattle.format.specs.Basics.Bytes.{Bytes, put_bytes, put32}
use Rattle.format.specs.Layout.Entry.{NOSTREAM, Field, left_field, child_field, right_field, field_byte, colour_byte, black, colour}
use Rattle.format.specs.Layout.NewEntry.{blank_entry}
use Rattle.format.specs.Layout.Directory.{Directory}
use Rattle.format.specs.Layout.Siblings.{Slot, greatest}
use Rattle.theory.specs.TreeViews.{left_of, right_of, at}
use Rattle.theory.specs.TreeDraw.{link}
use Rattle.theory.specs.TreeWays.{Way, onward, slot_field, slot_entry, SameColour}
use Rattle.theory.specs.TreeHeir.{above_greatest}
use Rattle.frame.specs.Redraw.{SameBody}

-- ---- the image

-- the slot names y
unfoldable pub link_put : (ℕ → ℕ) → Slot → ℕ → Bytes → Bytes
link_put place h y img = put32 img (place h.entry + field_byte h.field) y

-- The entry y, which u is above, takes the place of x: the slot names it, and it gets the sides l and r. Where it is no side of x, its own
-- left side takes its old place.
unfoldable pub heir_put : (ℕ → ℕ) → Slot → (x u y own l r : ℕ) → Bytes → Bytes
heir_put place h x u y own l r img =
    let named = link_put place h y img in
    let freed = link_put place (record { entry = u; field = right_field }) own named in
    let lefts = link_put place (record { entry = y; field = left_field }) l freed in
    link_put place (record { entry = y; field = right_field }) r (cond (eqb u x) named lefts)

-- the heir of x is y, which u is above
abbrev pub heir_in : (ℕ → ℕ) → Directory → Slot → (x u y : ℕ) → Bytes → Bytes
heir_in place d h x u y img = heir_put place h x u y (left_of d y) (left_of d x) (right_of d x) img

-- the slot that named x names what takes its place
unfoldable pub unlinked_at : (ℕ → ℕ) → Directory → Slot → ℕ → Bytes → Bytes
unlinked_at place d h x img =
    let l = left_of d x in
    cond (eqb l NOSTREAM) (link_put place h (right_of d x) img)
    (cond (eqb (right_of d x) NOSTREAM) (link_put place h l img)
    (heir_in place d h x (above_greatest x l (at d (right_of d l))) (greatest l (at d (right_of d l))) img))

-- entries become black
unfoldable pub blackened_at : (ℕ → ℕ) → List ℕ → Bytes → Bytes
blackened_at place [] img = img
blackened_at place (y ∷ ys) img = blackened_at place ys (put_bytes img (place y + colour_byte) (black ∷ []))

-- the siblings ys of x black, and x gone from their tree
unfoldable pub unlinked_image : (ℕ → ℕ) → Directory → Slot → ℕ → List ℕ → Bytes → Bytes
unlinked_image place d h x ys img = put_bytes (blackened_at place ys (unlinked_at place d h x img)) (place x) blank_entry

-- ---- the slot of a node

-- the field at the end of the way to a node, and whose it is
abbrev pub slot_of : Way → Way → Field
slot_of w v = slot_field (onward w v) child_field

abbrev pub owner_of : Way → Way → ℕ
owner_of w v = slot_entry (onward w v) 0

-- ---- what each does to the entries

-- one field names v
pub record LinkSet (d d₂ : Directory) (k : Field) (e v : ℕ) : Type 0 where
  pub body : (y : ℕ) → SameBody (d.entry y) (d₂.entry y)
  pub colours : (y : ℕ) → SameColour d d₂ y
  pub here : link d₂ k e ≡ v
  pub others : (j : Field) (y : ℕ) → (j ≡ k → y ≡ e → ⊥) → link d₂ j y ≡ link d j y

-- links alone have changed
pub record Linked (d d₂ : Directory) : Type 0 where
  pub body : (y : ℕ) → SameBody (d.entry y) (d₂.entry y)
  pub colours : (y : ℕ) → SameColour d d₂ y

-- the entries ys are black
pub record BlackSet (d d₂ : Directory) (ys : List ℕ) : Type 0 where
  pub body : (y : ℕ) → SameBody (d.entry y) (d₂.entry y)
  pub links : (j : Field) (y : ℕ) → link d₂ j y ≡ link d j y
  pub painted : (y : ℕ) → 0 < count y ys → colour (d₂.entry y) ≡ black
  pub colours : (y : ℕ) → count y ys ≡ 0 → SameColour d d₂ y

-- entry x is blank
pub record BlankSet (d d₂ : Directory) (x : ℕ) : Type 0 where
  pub blank : d₂.entry x ≡ blank_entry
  pub others : (y : ℕ) → y ≢ x → d₂.entry y ≡ d.entry y
