-- The header's fields that say which version it is and where the tables are (group 10).
use Rattle.std.specs.Prelude.{ℕ}
use Rattle.format.specs.Basics.Bytes.{Bytes, u16at, u32at}

unfoldable pub major_version : Bytes → ℕ
major_version img = u16at img 26

-- how many sectors the directory has, where the version says it
unfoldable pub directory_count : Bytes → ℕ
directory_count img = u32at img 40

-- F, the number of FAT sectors
unfoldable pub fat_count : Bytes → ℕ
fat_count img = u32at img 44

unfoldable pub directory_start : Bytes → ℕ
directory_start img = u32at img 48

unfoldable pub mini_fat_start : Bytes → ℕ
mini_fat_start img = u32at img 60

-- M, the number of mini FAT sectors
unfoldable pub mini_fat_count : Bytes → ℕ
mini_fat_count img = u32at img 64

unfoldable pub difat_start : Bytes → ℕ
difat_start img = u32at img 68

-- D, the number of DIFAT sectors
unfoldable pub difat_count : Bytes → ℕ
difat_count img = u32at img 72

-- where the first DIFAT entries stand, four bytes each
unfoldable pub difat_place : ℕ
difat_place = 76
