-- What the searches say, in the volume's own directory.
use Prim.Native.Nat.{ℕ}
use mathlib.Core.Path.{◌≡◌, subst}
use mathlib.Core.List.{List}
use Rattle.std.proofs.Common.{Option, Result, Ok, Err}
use Rattle.format.specs.Basics.Bytes.{Bytes}
use Rattle.format.specs.Layout.Name.{Name}
use Rattle.format.specs.Layout.Directory.{Directory}
use Rattle.format.specs.Calls.Paths.{Path}
use Rattle.format.specs.Calls.Find.{refused, resolve_parent}
use Rattle.kinds.specs.Numbers.{refusal_number}
use Rattle.kinds.specs.declared.EntryId.{EntryId}
use Rattle.kinds.specs.declared.Refusal.{Refusal}
use Rattle.directory.specs.Listed.{entries_of}
use Rattle.directory.specs.Blanks.{LowestBlank}
use Rattle.lookup.specs.Slots.{SeatRight}
use Rattle.lookup.specs.declared.Seat.{Seat}
use Rattle.paths.specs.Parents.{parent_of, ParentInside, ParentAt}
use Rattle.paths.specs.declared.Parent.{Parent}
use Rattle.volume.specs.declared.Volume.{Volume as Opened}
use Rattle.spaces.specs.Spaces.{volume_in}
use Rattle.queries.specs.Inside.{Open}
use Rattle.queries.proofs.Finds.{same_entries}

module _ {v : Opened} {img : Bytes} {w : List ℕ} (o : Open v img w) where
  abbrev d : Directory
  d = (volume_in v img).directory

  pub blank_in : (q : Option EntryId) → LowestBlank (entries_of v.directory img) q → LowestBlank d q
  blank_in q l = subst (λ z. LowestBlank z q) (same_entries o) l

  pub seat_in : (n : Name) (s : ℕ) (q : Seat) → SeatRight (entries_of v.directory img) n s q → SeatRight d n s q
  seat_in n s q l = subst (λ z. SeatRight z n s q) (same_entries o) l

  module _ (p : Path) where
    pub parent_at : (f : Parent) → parent_of (entries_of v.directory img) (Ok f) ≡ resolve_parent (entries_of v.directory img) p
        → ParentInside (entries_of v.directory img) p (Ok f) → ParentAt d p f.storage.0 f.name
    parent_at f e i =
        subst (λ z. ParentAt z p f.storage.0 f.name) (same_entries o) (record { found = e; inside = i.0; last = i.1 })

    pub parent_none : (a : Refusal) → parent_of (entries_of v.directory img) (Err a) ≡ resolve_parent (entries_of v.directory img) p → refused (refusal_number a) ≡ resolve_parent d p
    parent_none a e = subst (λ z. refused (refusal_number a) ≡ resolve_parent z p) (same_entries o) e
