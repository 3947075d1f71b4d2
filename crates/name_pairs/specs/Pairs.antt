-- Pairs of names of as many units, which two lists say the places of.
use Rattle.std.specs.Prelude.{ℕ, ◌≤◌, ◌<◌, ◌≡◌, Bool, List, length, get_or}
use Rattle.format.specs.Basics.Bytes.{Bytes}
use Rattle.format.specs.Layout.Name.{name_less}
use Rattle.entries.specs.Entry.{name_at, NamedAt, Alike}

-- the places of the entries of pair i
abbrev pub low_at : List ℕ → ℕ → ℕ
low_at low i = get_or low i 0

abbrev pub high_at : List ℕ → ℕ → ℕ
high_at high i = get_or high i 0

-- the first name of pair i comes before the second
abbrev pub pair_rises : Bytes → List ℕ → List ℕ → ℕ → Bool
pair_rises img low high i = name_less (name_at img (get_or low i 0)) (name_at img (get_or high i 0))

-- two entries with names of as many units
pub record PairNamed (img : Bytes) (p q : ℕ) : Type 0 where
  pub first : NamedAt img p
  pub second : NamedAt img q
  pub units : length (name_at img p) ≡ length (name_at img q)

-- the first k pairs are such
pub record PairsNamed (img : Bytes) (low high : List ℕ) (k : ℕ) : Type 0 where
  pub few : k ≤ 64
  pub pairs : (i : ℕ) → i < k → PairNamed img (get_or low i 0) (get_or high i 0)

-- of each of the first k pairs it is known how many units the names have, and how many they have alike
pub record Looked (img : Bytes) (low high units from : List ℕ) (k : ℕ) : Type 0 where
  pub counted : (i : ℕ) → i < k → get_or units i 0 ≡ length (name_at img (high_at high i))
  pub begun : (i : ℕ) → i < k → Alike (name_at img (low_at low i)) (name_at img (high_at high i)) (get_or from i 0)
