-- The field that names a child, or that is to name a new one.
use Rattle.std.specs.Prelude.{ℕ, ◌<◌, ◌≡◌}
use Rattle.format.specs.Layout.Name.{Name}
use Rattle.format.specs.Layout.Entry.{child_field}
use Rattle.format.specs.Layout.Directory.{Directory}
use Rattle.format.specs.Layout.Tree.{node}
use Rattle.format.specs.Layout.Siblings.{Slot, slot_in, goes_left}
use Rattle.format.specs.Calls.Find.{missing, present}
use Rattle.theory.specs.TreeViews.{left_of, right_of, child_of, at}
use Rattle.theory.specs.TreeWays.{Way, plug, Level, slot_field, slot_entry}
use Rattle.kinds.specs.Links.{link_field}
use Rattle.lookup.specs.Children.{child_among}
use Rattle.lookup.specs.declared.Slot.{Slot as Place}
use Rattle.lookup.specs.declared.Seat.{Seat}
use Rattle.lookup.specs.declared.Seat.TheVariants.{Free, Taken}

abbrev pub slot_of : Place → Slot
slot_of h = record { entry = h.entry.0; field = link_field h.field }

abbrev pub child_slot : ℕ → Slot
child_slot s = record { entry = s; field = child_field }

-- entry x stands among the children of s: the way to it, at whose end is the field h
pub record Seated (e : Directory) (s x : ℕ) (h : Slot) : Type 0 where
  pub way : Way
  pub level : Level way
  pub tree : at e (child_of e s) ≡ plug way (node (at e (left_of e x)) x (at e (child_of e x)) (at e (right_of e x)))
  pub entry : slot_entry way s ≡ h.entry
  pub field : slot_field way child_field ≡ h.field

abbrev pub SeatRight : Directory → Name → ℕ → Seat → Type 0
SeatRight e want s (Free h) =
    (child_among e want (child_of e s) ≡ missing)
    × ((slot_of h ≡ slot_in (goes_left e want) (child_slot s) (at e (child_of e s))) × (h.entry.0 < e.count))
SeatRight e want s (Taken x h) =
    (child_among e want (child_of e s) ≡ present x.0 (at e (child_of e x.0)))
    × (Seated e s x.0 (slot_of h) × ((x.0 < e.count) × (h.entry.0 < e.count)))
