-- What an edit leaves alone, told by bytes: byte k of sector s, and the header's bytes.
use Rattle.std.specs.Prelude.{◌≡◌, ℕ, ◌+◌, ◌%◌, ◌≤◌, ◌<◌, length, get_or, List}
use Rattle.format.specs.Basics.Lists.{count}
use Rattle.format.specs.Basics.Bytes.{Bytes}
use Rattle.format.specs.Layout.Geometry.{Geometry, sector_place}

-- the sizes for which all is proved: 512 and 4096 are two
pub record Sized (g : Geometry) : Type 0 where
  pub wide : 512 ≤ g.sector_bytes
  pub even : g.sector_bytes % 128 ≡ 0

-- a set of bytes of sectors: sector, and byte in it
abbrev pub Where : Type 1
Where = ℕ → ℕ → Type 0

-- b is a but for bytes of sectors that are not in P
pub record Kept (g : Geometry) (P : Where) (a b : Bytes) : Type 0 where
  pub size : length b ≡ length a
  pub head : (k : ℕ) → k < g.sector_bytes → get_or b k 0 ≡ get_or a k 0
  pub body : (s k : ℕ) → k < g.sector_bytes → P s k → get_or b (sector_place g s + k) 0 ≡ get_or a (sector_place g s + k) 0

-- all bytes of the sectors that are none of these
abbrev pub Off : List ℕ → Where
Off T s k = count s T ≡ 0

-- sectors of a table: none twice, and each whole in an image of len bytes
pub record Table (g : Geometry) (len : ℕ) (secs : List ℕ) : Type 0 where
  pub once : (s : ℕ) → count s secs ≤ 1
  pub room : (s : ℕ) → 0 < count s secs → sector_place g s + g.sector_bytes ≤ len
