-- The values that 01 marks P ("Values on each side of the line"), in one table; and the byte order, on bytes written out.
use Rattle.std.specs.Prelude.{◌≡◌, refl, true, [], ◌∷◌}
use Rattle.format.specs.Basics.Bytes.{u16at, u32at, u64at, le32, put64}
use Rattle.format.specs.Layout.Geometry.{version3, sector_place}
use Rattle.format.specs.Layout.Need.{mini_need, sector_need}
use Rattle.format.specs.Layout.Name.{name_less, name_equal}
use Rattle.format.specs.Rules.Tables.{difat_need}
use Rattle.format_tests.specs.Opened.{opened}
use Rattle.format_tests.specs.Images.{log, LOG, Jets, built}

values :
    (sector_place version3 0 ≡ 512)
    × (sector_place version3 5 ≡ 3072)
    × (sector_need version3 4096 ≡ 8)
    × (sector_need version3 5120 ≡ 10)
    × (sector_need version3 5121 ≡ 11)
    × (mini_need 64 ≡ 1)
    × (mini_need 65 ≡ 2)
    × (mini_need 4095 ≡ 64)
    × (difat_need version3 109 ≡ 0)
    × (difat_need version3 110 ≡ 1)
    × (difat_need version3 236 ≡ 1)
    × (difat_need version3 237 ≡ 2)
    × (name_less log Jets ≡ true)
    × (name_equal LOG log ≡ true)
unfolding opened built
values = (refl, refl, refl, refl, refl, refl, refl, refl, refl, refl, refl, refl, refl, refl)

-- the lowest byte first
byte_order_lem :
    (u16at (9 ∷ 0x34 ∷ 0x12 ∷ []) 1 ≡ 0x1234)
    × (u32at (0x78 ∷ 0x56 ∷ 0x34 ∷ 0x12 ∷ []) 0 ≡ 0x1234_5678)
    × (u64at (1 ∷ 0 ∷ 0 ∷ 0 ∷ 2 ∷ 0 ∷ 0 ∷ 0 ∷ []) 0 ≡ 0x2_0000_0001)
    × (le32 0x1234_5678 ≡ 0x78 ∷ 0x56 ∷ 0x34 ∷ 0x12 ∷ [])
    × (put64 (9 ∷ 9 ∷ 9 ∷ 9 ∷ 9 ∷ 9 ∷ 9 ∷ 9 ∷ 9 ∷ []) 0 0x2_0000_0001 ≡ 1 ∷ 0 ∷ 0 ∷ 0 ∷ 2 ∷ 0 ∷ 0 ∷ 0 ∷ 9 ∷ [])
unfolding opened
byte_order_lem = (refl, refl, refl, refl, refl)
