-- Version 4: which version an image has, and the rules that differ.
use Rattle.std.specs.Prelude.{◌+◌, ◌≡◌, refl, true, false, [], ◌∷◌, ◌++◌, replicate}
use Rattle.format.specs.Basics.Bytes.{put_bytes, put32}
use Rattle.format.specs.Layout.Geometry.{Geometry, version3, version4, sector_place, cells_in, difat_in, entries_in}
use Rattle.format.specs.Layout.Need.{mini_need, sector_need}
use Rattle.format.specs.Layout.Volume.{volume}
use Rattle.format.specs.Rules.Length.{length_allowed}
use Rattle.format.specs.Rules.Version.{version_of}
use Rattle.format.specs.Rules.Header.{header_rules}
use Rattle.format.specs.Rules.Directory.{directory_rules}
use Rattle.format.specs.Rules.Verdict.{verdict}
use Rattle.format_tests.specs.Opened.{opened}
use Rattle.format_tests.specs.Images.{smallest, fourth, built}

-- ---- its numbers

numbers :
    (sector_place version4 0 ≡ 4096)
    × (cells_in version4 ≡ 1024)
    × (difat_in version4 ≡ 1023)
    × (entries_in version4 ≡ 32)
    × (sector_need version4 4096 ≡ 1)
    × (sector_need version4 4097 ≡ 2)
    × (mini_need 4095 ≡ 64)
    × (length_allowed version4 8192 ≡ false)
    × (length_allowed version4 12_288 ≡ true)
    × (length_allowed version4 12_800 ≡ false)
    × (length_allowed version4 67_108_864 ≡ true)
    × (length_allowed version4 67_112_960 ≡ false)
unfolding opened
numbers = (refl, refl, refl, refl, refl, refl, refl, refl, refl, refl, refl, refl)

-- ---- which version

own_version : version_of (fourth 4096 1) ≡ version4
unfolding opened built
own_version = refl

-- only 4 is 4: another number counts as 3, and breaks group 10
other_version : verdict (version_of (put_bytes smallest 26 (5 ∷ []))) (put_bytes smallest 26 (5 ∷ [])) 39 ≡ 10
unfolding opened built
other_version = refl

-- too long for version 3, and so not looked at
length_before_version : version_of (fourth 4096 1 ++ 0 ∷ []) ≡ version3
unfolding opened built
length_before_version = refl

-- a length that only version 3 may have: 1, whatever the work buffer
length_fault : verdict (version_of (fourth 4096 1 ++ replicate 512 0)) (fourth 4096 1 ++ replicate 512 0) 0 ≡ 1
unfolding opened built
length_fault = refl

-- ---- the rules, on sectors of 1,024 bytes

abbrev short : Geometry
short = record { major = 4; shift = 12; sector_bytes = 1024 }

accepted : verdict short (fourth 1024 1) 78 ≡ 0
unfolding opened built
accepted = refl

header_rest : verdict short (put_bytes (fourth 1024 1) 1023 (1 ∷ [])) 78 ≡ 10
unfolding opened built
header_rest = refl

-- the field at 40 is asked in group 13, and in version 3 in group 10
count_wrong : verdict short (fourth 1024 2) 78 ≡ 13
unfolding opened built
count_wrong = refl

count_in_version_3 : header_rules version3 (put32 smallest 40 1) ≡ false
unfolding opened built
count_in_version_3 = refl

-- all eight bytes of a size count: 2 ^ 32 bytes in no sector break group 17
whole_size : verdict short (put32 (fourth 1024 1) (2048 + 128 + 124) 1) 78 ≡ 17
unfolding opened built
whole_size = refl

-- ---- and on its own

-- (its cells are too many to compute the whole verdict)
own_rules : (header_rules version4 (fourth 4096 1) ≡ true) × (directory_rules (volume version4 (fourth 4096 1)) ≡ true)
unfolding opened built
own_rules = (refl, refl)
