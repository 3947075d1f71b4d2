-- Entries that are read ahead where their sectors are scattered.
use Rattle.std.specs.Prelude.{ℕ, ◌+◌, ◌-◌, ◌*◌, ◌%◌, ◌≤◌, ◌<◌, min, Bool, not, ◌||◌, List, eqb}
use Rattle.format.specs.Basics.Lists.{all_below}
use Rattle.format.specs.Layout.Directory.{Directory}
use Rattle.format.specs.Rules.Entries.{common_fields}
use Rattle.directory.specs.Listed.{place_of, Placed}
use Rattle.directory.specs.declared.Directory.{Directory as Where}

-- two entries of the list, at places that can be compared
pub record Near (d : Where) (work : List ℕ) (x last : ℕ) : Type 0 where
  pub from : Placed d work x
  pub to : Placed d work last
  pub order : x ≤ last
  pub few : last < 0x8_0000
  pub low : place_of d work x < 0x1_0000_0000

-- they and those between them stand in a row
abbrev pub in_row : Where → List ℕ → ℕ → ℕ → Bool
in_row d work x last = eqb (place_of d work last) (place_of d work x + 128 * (last - x))

-- the colours of the entries from x up to an end
abbrev pub colours_right : Directory → ℕ → ℕ → Bool
colours_right e x end = all_below (end - x) (λ i. common_fields (e.entry (x + i)))

-- the end of the 64 entries from x on
abbrev pub ahead_end : Directory → ℕ → ℕ
ahead_end e x = min (x + 64) e.count

unfoldable pub ahead_right : Where → Directory → List ℕ → ℕ → Bool
ahead_right d e work x = not (eqb (x % 64) 0) || in_row d work x (ahead_end e x - 1) || colours_right e x (ahead_end e x)
