-- How many units a stream of a length needs ("What a path, a read and an edit do").
use Rattle.std.specs.Prelude.{ℕ, ◌+◌, ◌-◌, ◌/◌, cond, ltb}
use Rattle.format.specs.Layout.Geometry.{Geometry, mini_bytes}

-- the length from which a stream lies in sectors, not in mini sectors
unfoldable pub cutoff : ℕ
cutoff = 4096

-- n / d, rounded up
unfoldable pub round_up : ℕ → ℕ → ℕ
round_up n d = (n + (d - 1)) / d

unfoldable pub mini_need : ℕ → ℕ
mini_need n = cond (ltb n cutoff) (round_up n mini_bytes) 0

unfoldable pub sector_need : Geometry → ℕ → ℕ
sector_need g n = cond (ltb n cutoff) 0 (round_up n g.sector_bytes)
