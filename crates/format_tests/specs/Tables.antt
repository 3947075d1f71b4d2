-- Where the DIFAT's entries and links stand, on an image of two DIFAT sectors: 0, and 1 behind it.
use Rattle.std.specs.Prelude.{◌≡◌, refl, [], ◌∷◌, ◌++◌, replicate}
use Rattle.format.specs.Basics.Bytes.{Bytes}
use Rattle.format.specs.Layout.Chain.{END}
use Rattle.format.specs.Layout.Geometry.{version3}
use Rattle.format.specs.Layout.Tables.{difat_sector, difat_entry}
use Rattle.format_tests.specs.Opened.{opened}
use Rattle.format_tests.specs.Build.{words}

-- entry 0 is 7 and entry 108 is 8; entry 109 is 9, entry 235 is 10, and a link; entry 236 is 11, and the last link
abbrev difat : Bytes
difat =
    (replicate 68 0 ++ words (0 ∷ 2 ∷ 7 ∷ []) ++ replicate 428 0 ++ words (8 ∷ []))
    ++ (words (9 ∷ []) ++ replicate 500 0 ++ words (10 ∷ 1 ∷ []))
    ++ (words (11 ∷ []) ++ replicate 504 0 ++ words (END ∷ []))

entries :
    (difat_entry version3 difat 0 ≡ 7)
    × (difat_entry version3 difat 108 ≡ 8)
    × (difat_entry version3 difat 109 ≡ 9)
    × (difat_entry version3 difat 235 ≡ 10)
    × (difat_entry version3 difat 236 ≡ 11)
unfolding opened words
entries = (refl, refl, refl, refl, refl)

links : (difat_sector version3 difat 0 ≡ 0) × (difat_sector version3 difat 1 ≡ 1) × (difat_sector version3 difat 2 ≡ END)
unfolding opened words
links = (refl, refl, refl)
