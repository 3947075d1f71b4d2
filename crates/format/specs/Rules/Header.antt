-- Group 10: the header.
use Rattle.std.specs.Prelude.{ℕ, ◌-◌, Bool, ◌&&◌, ◌||◌, [], ◌∷◌, eqb}
use Rattle.format.specs.Basics.Lists.{equal}
use Rattle.format.specs.Basics.Bytes.{Bytes, u16at, u32at, part, all_zero}
use Rattle.format.specs.Layout.Geometry.{Geometry, counts_directory, header_bytes}
use Rattle.format.specs.Layout.Header.{major_version, directory_count}
use Rattle.format.specs.Layout.Need.{cutoff}

unfoldable pub signature : Bytes
signature = 0xD0 ∷ 0xCF ∷ 0x11 ∷ 0xE0 ∷ 0xA1 ∷ 0xB1 ∷ 0x1A ∷ 0xE1 ∷ []

-- what marks the byte order, and the shift of a mini sector
unfoldable pub byte_order : ℕ
byte_order = 0xFFFE

unfoldable pub mini_shift : ℕ
mini_shift = 6

-- GROUP 10. No rule reads the minor version (24) and the transaction number (52).
unfoldable pub header_rules : Geometry → Bytes → Bool
header_rules g img =
    equal (part img 0 8) signature
    && all_zero (part img 8 16)
    && eqb (major_version img) g.major
    && eqb (u16at img 28) byte_order
    && eqb (u16at img 30) g.shift
    && eqb (u16at img 32) mini_shift
    && all_zero (part img 34 6)
    && (counts_directory g || eqb (directory_count img) 0)
    && eqb (u32at img 56) cutoff
    && all_zero (part img header_bytes (g.sector_bytes - header_bytes))
