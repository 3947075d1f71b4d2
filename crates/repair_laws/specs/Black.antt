-- A directory whose entries became black.
use Rattle.std.specs.Prelude.{ℕ, ◌≤◌, ◌<◌, ◌≡◌, cond, [], ◌∷◌}
use Rattle.std.proofs.lemmas.List.Edits.{sets}
use Rattle.format.specs.Basics.Lists.{count}
use Rattle.format.specs.Basics.Bytes.{Bytes}
use Rattle.format.specs.Layout.Entry.{name_bytes}
use Rattle.format.specs.Layout.Directory.{Directory}
use Rattle.format.specs.Layout.Tree.{forest, entries}
use Rattle.format.specs.Calls.RepairSteps.{has_colour}

-- an entry with a black colour where it has one
unfoldable pub black_entry : Bytes → Bytes
black_entry e = cond (has_colour e) (sets e 67 (1 ∷ [])) e

pub record IsBlack (d d' : Directory) : Type 0 where
  pub rows : d'.count ≡ d.count
  pub counted : d'.size_width ≡ d.size_width
  pub inside : (i : ℕ) → i < d.count → d'.entry i ≡ black_entry (d.entry i)
  pub outside : (i : ℕ) → d.count ≤ i → d'.entry i ≡ d.entry i

-- each entry of the trees is one of the directory, and its name lies in the name's field
abbrev pub NamesLie : Directory → Type 0
NamesLie d = (x : ℕ) → 0 < count x (entries (forest d)) → (x < d.count) × (name_bytes (d.entry x) ≤ 64)
