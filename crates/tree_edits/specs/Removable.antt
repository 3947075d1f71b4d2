-- An entry that can be removed: where it stands in a directory that keeps the rules.
use Rattle.std.specs.Prelude.{ℕ, ◌≡◌}
use Rattle.format.specs.Basics.Bytes.{Bytes}
use Rattle.format.specs.Layout.Siblings.{Slot}
use Rattle.format.specs.Rules.Verdict.{Accepted}
use Rattle.theory.specs.TreeViews.{left_of, right_of, child_of, at}
use Rattle.theory.specs.TreeOrder.{Rules}
use Rattle.theory.specs.TreeWays.{Way, slot_entry}
use Rattle.theory.specs.TreeUnlink.{Located}
use Rattle.frame.specs.Unlink.{slot_of, owner_of}
use Rattle.kinds.specs.Sizes.{geometry_of}
use Rattle.directory.specs.Listed.{entries_of, Ruled}
use Rattle.directory.specs.declared.Directory.{Directory as Where}

-- x stands among the children of s with nothing below it, and the slot h names it
pub record Removable (d : Where) (img : Bytes) (s : ℕ) (h : Slot) (x : ℕ) : Type 0 where
  pub accepted : Accepted (geometry_of d.geometry) img
  pub rules : Rules (entries_of d img)
  pub names : Ruled (entries_of d img)
  -- the way to the children of s, and the way among them to x
  pub way : Way
  pub among : Way
  pub located : Located (entries_of d img) way among (at (entries_of d img) (child_of (entries_of d img) s))
      (at (entries_of d img) (left_of (entries_of d img) x)) x (at (entries_of d img) (right_of (entries_of d img) x))
  pub parent : slot_entry way 0 ≡ s
  pub entry : h.entry ≡ owner_of way among
  pub field : h.field ≡ slot_of way among
