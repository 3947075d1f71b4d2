-- Repairs: the outcome, the number, the answers, and every buffer.
use Rattle.std.specs.Prelude.{◌≡◌, refl, [], ◌∷◌, ◌++◌, replicate}
use Rattle.format.specs.Basics.Bytes.{put_bytes, put32}
use Rattle.format.specs.Layout.Chain.{FREE, END}
use Rattle.format.specs.Layout.Entry.{NOSTREAM}
use Rattle.format.specs.Layout.Geometry.{version3}
use Rattle.format.specs.Calls.RepairSteps.{repaired}
use Rattle.format.specs.Calls.Repair.{repair_answer, repair_reply, image_repaired, work_repaired, spare_repaired}
use Rattle.format_tests.specs.Opened.{opened}
use Rattle.format_tests.specs.Images.{smallest, with_third, bare, site, in_entry, mini_cell, built}

-- ---- outcomes

-- a FAT cell from N on, and one that nobody owns
cells_freed : repaired version3 (put32 (with_third END) 528 END) ≡ with_third FREE
unfolding opened built
cells_freed = refl

-- a mini cell from K on, one that nobody owns, and a red entry
mini_cells_freed : repaired version3 (put32 (put32 site (mini_cell 8) END) (mini_cell 3) END) ≡ put_bytes site (in_entry 3 67) (1 ∷ [])
unfolding opened built
mini_cells_freed = refl

-- a FAT cell from N on, a red entry, and a colour that is none: three places differ
three_counted :
    repair_reply (put_bytes (put32 bare 520 END) (in_entry 1 67) (7 ∷ [])) (replicate 1536 7) (replicate 39 9)
    ≡ record { number = 0; entry = 0; type = 0; size = 0; count = 3 }
unfolding opened built
three_counted = refl

-- ---- the steps end at the first that cannot be taken

-- a name out of order: the number is 15 and not 12, as the FAT cell from N on was freed before
order_first : repair_answer version3 (put32 (put32 (put32 bare (in_entry 2 72) NOSTREAM) (in_entry 2 68) 3) 520 END) (replicate 1536 7) (replicate 39 9) ≡ 15
unfolding opened built
order_first = refl

-- the mini FAT lies in the directory's sector: the third step spoils the entries, and the number is that of the spoilt outcome
mini_fat_in_directory : repair_answer version3 (put32 (put32 bare 60 1) 64 1) (replicate 1536 7) (replicate 39 9) ≡ 14
unfolding opened built
mini_fat_in_directory = refl

-- no step is taken where the header is broken
header_first : repair_answer version3 (put32 (put32 smallest 520 END) 56 4095) (replicate 1536 7) (replicate 39 9) ≡ 10
unfolding opened built
header_first = refl

untouched : image_repaired (put32 (put32 smallest 520 END) 56 4095) (replicate 1536 7) (replicate 39 9) ≡ put32 (put32 smallest 520 END) 56 4095
unfolding opened built
untouched = refl

-- ---- answers 1 and 2

length_first : repair_answer version3 (replicate 1535 0) [] [] ≡ 1
unfolding opened built
length_first = refl

work_too_short : repair_answer version3 smallest (replicate 1536 7) (replicate 38 9) ≡ 2
unfolding opened built
work_too_short = refl

spare_too_short : repair_answer version3 smallest (replicate 1535 7) (replicate 39 9) ≡ 2
unfolding opened built
spare_too_short = refl

-- ---- the buffers

spare_cleared : spare_repaired (put32 smallest 56 4095) (replicate 1538 7) (replicate 40 9) ≡ replicate 1536 0 ++ 7 ∷ 7 ∷ []
unfolding opened built
spare_cleared = refl

work_cleared_lem : work_repaired (put32 smallest 56 4095) (replicate 1538 7) (replicate 40 9) ≡ replicate 39 0 ++ 9 ∷ []
unfolding opened built
work_cleared_lem = refl

spare_left : spare_repaired smallest (replicate 1535 7) (replicate 39 9) ≡ replicate 1535 7
unfolding opened built
spare_left = refl

work_left_lem : work_repaired smallest (replicate 1535 7) (replicate 40 9) ≡ replicate 40 9
unfolding opened built
work_left_lem = refl
