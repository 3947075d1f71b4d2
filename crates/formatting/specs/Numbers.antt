-- Header and image in the order in which they are written: number by number, and block by block.
use Rattle.std.specs.Prelude.{ℕ, zero, suc, ◌-◌, cond, List, [], ◌∷◌, ltb, get_or}
use Rattle.format.specs.Basics.Bytes.{Bytes}
use Rattle.format.specs.Layout.Geometry.{Geometry}
use Rattle.format.specs.Layout.Need.{cutoff}
use Rattle.format.specs.Fresh.Plan.{Plan, fat_part, difat_part, difat_from, directory_from, mini_fat_from, start_from}
use Rattle.format.specs.Fresh.Cells.{fresh_difat}
use Rattle.format.specs.Fresh.Header.{directory_field, fresh_header}
use Rattle.format.specs.Fresh.Image.{fresh_sector}

-- the header's fields of four bytes, from byte 40 on
unfoldable pub field_list : Geometry → Plan → List ℕ
field_list g p =
    directory_field g p
    ∷ fat_part g p
    ∷ directory_from g p
    ∷ 0
    ∷ cutoff
    ∷ start_from (mini_fat_from g p) p.mini_fat
    ∷ p.mini_fat
    ∷ start_from (difat_from g p) (difat_part g p)
    ∷ difat_part g p
    ∷ []

-- number i from byte 40 on: these nine, and then the first DIFAT entries
unfoldable pub header_number : Geometry → Plan → ℕ → ℕ
header_number g p i = cond (ltb i 9) (get_or (field_list g p) i 0) (fresh_difat g p (i - 9))

-- the header's sector, and the sectors behind it
unfoldable pub image_block : Geometry → Plan → ℕ → Bytes
image_block g p zero = fresh_header g p
image_block g p (suc s) = fresh_sector g p s
