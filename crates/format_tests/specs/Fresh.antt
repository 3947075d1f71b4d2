-- Fresh images: 1, 32, and the bytes.
use Rattle.std.specs.Prelude.{◌≡◌, refl, [], ◌∷◌, ◌++◌, map, ℕ, replicate}
use Rattle.format.specs.Layout.Chain.{FREE, END, FATSECT, DIFSECT}
use Rattle.format.specs.Layout.Entry.{NOSTREAM}
use Rattle.format.specs.Layout.Geometry.{version3, version4}
use Rattle.format.specs.Layout.Volume.{directory}
use Rattle.format.specs.Rules.Verdict.{verdict}
use Rattle.format.specs.Calls.Listing.{listing, first_line}
use Rattle.format.specs.Fresh.Plan.{Plan, fat_part, difat_part, directory_from, mini_fat_from, mini_stream_from, spare_from}
use Rattle.format.specs.Fresh.Cells.{fresh_cell, fresh_difat, difat_number}
use Rattle.format.specs.Fresh.Image.{root_name, fresh_image}
use Rattle.format.specs.Fresh.Answer.{format_answer, formatted}
use Rattle.format.specs.History.State.{state_of}
use Rattle.format.specs.Claims.Fresh.{fresh_state}
use Rattle.format_tests.specs.Opened.{opened}
use Rattle.format_tests.specs.Build.{header, header4, cells, cells_in, entry, blanks}
use Rattle.format_tests.specs.Images.{built}

abbrev plan : (version sectors directory mini_fat minis : ℕ) → Plan
plan v n a m k = record { version = v; sectors = n; directory = a; mini_fat = m; minis = k }

-- ---- the answers

accepted : (format_answer 1536 (plan 3 2 1 0 0) ≡ 0) × (format_answer 2560 (plan 3 4 1 1 8) ≡ 0) × (format_answer 12_288 (plan 4 2 1 0 0) ≡ 0)
unfolding opened
accepted = (refl, refl, refl)

-- the length, or N that is not the buffer's; a length that only version 3 may have; an unknown version is measured as 3
length_refused :
    (format_answer 1535 (plan 3 2 1 0 0) ≡ 1)
    × (format_answer 1536 (plan 3 3 1 0 0) ≡ 1)
    × (format_answer 12_800 (plan 4 2 1 0 0) ≡ 1)
    × (format_answer 1024 (plan 7 1 0 0 0) ≡ 1)
    × (format_answer 67_109_376 (plan 3 131_072 1 0 0) ≡ 1)
unfolding opened
length_refused = (refl, refl, refl, refl, refl)

-- no directory; an unknown version; more mini sectors than cells; parts that do not fit
parts_refused :
    (format_answer 1536 (plan 3 2 0 0 0) ≡ 32)
    × (format_answer 1536 (plan 7 2 1 0 0) ≡ 32)
    × (format_answer 2560 (plan 3 4 1 0 1) ≡ 32)
    × (format_answer 2560 (plan 3 4 1 1 9) ≡ 32)
    × (format_answer 2560 (plan 3 4 1 9_223_372_036_854_775_808 9_223_372_036_854_775_808) ≡ 32)
unfolding opened
parts_refused = (refl, refl, refl, refl, refl)

nothing_written : formatted (replicate 1536 7) (plan 3 2 0 0 0) ≡ replicate 1536 7
unfolding opened
nothing_written = refl

-- ---- the bytes

least : formatted (replicate 1536 7) (plan 3 2 1 0 0) ≡ header END 0 ++ cells (FATSECT ∷ END ∷ []) ++ (entry root_name 5 1 NOSTREAM NOSTREAM NOSTREAM END 0 ++ blanks 3)
unfolding opened built
least = refl

-- two directory sectors, a mini FAT sector, a sector for seven mini sectors, and a free one
all_parts :
    fresh_image version3 (plan 3 6 2 1 7)
    ≡ header 3 1
    ++ cells (FATSECT ∷ 2 ∷ END ∷ END ∷ END ∷ [])
    ++ (entry root_name 5 1 NOSTREAM NOSTREAM NOSTREAM 4 448 ++ blanks 7)
    ++ replicate 512 0xFF
    ++ replicate 1024 0
unfolding opened built
all_parts = refl

all_parts_accepted : verdict version3 (fresh_image version3 (plan 3 6 2 1 7)) 91 ≡ 0
unfolding opened built
all_parts_accepted = refl

all_parts_state : state_of (fresh_image version3 (plan 3 6 2 1 7)) ≡ fresh_state version3 (plan 3 6 2 1 7)
unfolding opened built
all_parts_state = refl

lists_nothing : listing (directory version3 (fresh_image version3 (plan 3 2 1 0 0))) ≡ first_line 0
unfolding opened built
lists_nothing = refl

-- version 4
fourth_least :
    fresh_image version4 (plan 4 2 1 0 0)
    ≡ header4 4096 1 ++ cells_in 4096 (FATSECT ∷ END ∷ []) ++ (entry root_name 5 1 NOSTREAM NOSTREAM NOSTREAM END 0 ++ blanks 31)
unfolding opened built
fourth_least = refl

-- ---- the tables

-- with a DIFAT sector: the parts, the cells on each side of each line, and the DIFAT sector's numbers
abbrev long : Plan
long = plan 3 14_000 3 2 200

places : fat_part version3 long ∷ difat_part version3 long ∷ directory_from version3 long ∷ mini_fat_from version3 long ∷ mini_stream_from version3 long ∷ spare_from version3 long ∷ []
    ≡ 110 ∷ 1 ∷ 111 ∷ 114 ∷ 116 ∷ 141 ∷ []
unfolding opened
places = refl

around : map (fresh_cell version3 long) (0 ∷ 109 ∷ 110 ∷ 111 ∷ 112 ∷ 113 ∷ 114 ∷ 115 ∷ 116 ∷ 139 ∷ 140 ∷ 141 ∷ 13_999 ∷ [])
    ≡ FATSECT ∷ FATSECT ∷ DIFSECT ∷ 112 ∷ 113 ∷ END ∷ 115 ∷ END ∷ 117 ∷ 140 ∷ END ∷ FREE ∷ FREE ∷ []
unfolding opened
around = refl

difat_sector_lem : map (difat_number version3 long 0) (0 ∷ 1 ∷ 126 ∷ 127 ∷ []) ≡ 109 ∷ FREE ∷ FREE ∷ END ∷ []
unfolding opened
difat_sector_lem = refl

-- the longest: 1,024 FAT and 8 DIFAT sectors
abbrev longest : Plan
longest = plan 3 131_071 1 0 0

longest_tables :
    (format_answer 67_108_864 longest ≡ 0)
    × (fat_part version3 longest ≡ 1024)
    × (difat_part version3 longest ≡ 8)
    × (spare_from version3 longest ≡ 1033)
    × (map (fresh_cell version3 longest) (1023 ∷ 1024 ∷ 1032 ∷ 1033 ∷ []) ≡ FATSECT ∷ DIFSECT ∷ END ∷ FREE ∷ [])
    × (map (fresh_difat version3 longest) (1023 ∷ 1024 ∷ []) ≡ 1023 ∷ FREE ∷ [])
unfolding opened
longest_tables = (refl, refl, refl, refl, refl, refl)
