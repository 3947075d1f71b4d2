-- The folding of units, and what it does to the verdict and to paths.
use Rattle.std.specs.Prelude.{◌≡◌, refl, true, false, [], ◌∷◌, map, replicate}
use Rattle.format.specs.Layout.Geometry.{version3}
use Rattle.format.specs.Layout.Volume.{directory}
use Rattle.format.specs.Layout.Name.{fold}
use Rattle.format.specs.Rules.Verdict.{verdict}
use Rattle.format.specs.Calls.Call.{find}
use Rattle.format.specs.Calls.Reply.{reply}
use Rattle.format.specs.Claims.Folding.{former_verdict, steady_names}
use Rattle.format.specs.Claims.FoldingPaths.{former_reply}
use Rattle.format_tests.specs.Opened.{opened}
use Rattle.format_tests.specs.Images.{three_siblings, two_siblings, built}

-- each end of each run, what is left out of it, and what stands beside it
small_letters :
    map fold (0x60 ∷ 0x61 ∷ 0x7A ∷ 0x7B ∷ 0xDF ∷ 0xE0 ∷ 0xF6 ∷ 0xF7 ∷ 0xF8 ∷ 0xFE ∷ 0xFF ∷ [])
    ≡ 0x60 ∷ 0x41 ∷ 0x5A ∷ 0x7B ∷ 0xDF ∷ 0xC0 ∷ 0xD6 ∷ 0xF7 ∷ 0xD8 ∷ 0xDE ∷ 0x178 ∷ []
unfolding opened
small_letters = refl

greek_and_cyrillic :
    map fold (0x3B0 ∷ 0x3B1 ∷ 0x3C1 ∷ 0x3C2 ∷ 0x3C3 ∷ 0x3C9 ∷ 0x3CA ∷ 0x42F ∷ 0x430 ∷ 0x44F ∷ 0x450 ∷ 0x45F ∷ 0x460 ∷ [])
    ≡ 0x3B0 ∷ 0x391 ∷ 0x3A1 ∷ 0x3C2 ∷ 0x3A3 ∷ 0x3A9 ∷ 0x3CA ∷ 0x42F ∷ 0x410 ∷ 0x42F ∷ 0x400 ∷ 0x40F ∷ 0x460 ∷ []
unfolding opened
greek_and_cyrillic = refl

-- two names that were different are equal
now_equal : (former_verdict version3 (two_siblings 0xC5 0xE5) 39 ≡ 0) × (verdict version3 (two_siblings 0xC5 0xE5) 39 ≡ 15)
unfolding opened built
now_equal = (refl, refl)

-- two names that were in order are not
now_out_of_order : (former_verdict version3 (two_siblings 0xD0 0xE6) 39 ≡ 0) × (verdict version3 (two_siblings 0xD0 0xE6) 39 ≡ 15)
unfolding opened built
now_out_of_order = (refl, refl)

-- two names that were out of order are in order
now_in_order : (former_verdict version3 (two_siblings 0xE6 0xD0) 39 ≡ 15) × (verdict version3 (two_siblings 0xE6 0xD0) 39 ≡ 0)
unfolding opened built
now_in_order = (refl, refl)

-- the claim's condition tells them apart
not_steady : steady_names (directory version3 (two_siblings 0xC5 0xE5)) ≡ false
unfolding opened built
not_steady = refl

steady : (steady_names (directory version3 (three_siblings 0x64)) ≡ true) × (former_verdict version3 (three_siblings 0x64) 39 ≡ 15)
unfolding opened built
steady = (refl, refl)

-- a path finds what it did not
now_found :
    (former_reply version3 (two_siblings 0xC5 0xC6) (find (0xE5 ∷ []) (replicate 39 0)) ≡ record { number = 21; entry = 0; type = 0; size = 0; count = 0 })
    × (reply (two_siblings 0xC5 0xC6) (find (0xE5 ∷ []) (replicate 39 0)) ≡ record { number = 0; entry = 1; type = 2; size = 0; count = 0 })
unfolding opened built
now_found = (refl, refl)
