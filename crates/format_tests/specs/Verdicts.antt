-- The verdict: 0, 1, 2, and for each of the groups 10 to 18 images that break it and no lower one; and more images that break a group.
use Rattle.std.specs.Prelude.{◌≡◌, refl, true, false, [], ◌∷◌, replicate}
use Rattle.format.specs.Basics.Bytes.{put_bytes, put32}
use Rattle.format.specs.Layout.Chain.{FREE, END, FATSECT}
use Rattle.format.specs.Layout.Entry.{NOSTREAM}
use Rattle.format.specs.Layout.Geometry.{version3}
use Rattle.format.specs.Layout.Volume.{directory, volume}
use Rattle.format.specs.Rules.Length.{length_allowed}
use Rattle.format.specs.Rules.Entries.{entry_rules}
use Rattle.format.specs.Rules.Trees.{tree_rules}
use Rattle.format.specs.Rules.Mini.{mini_rules}
use Rattle.format.specs.Rules.Streams.{stream_rules}
use Rattle.format.specs.Rules.Owners.{owner_rules}
use Rattle.format.specs.Rules.Verdict.{verdict}
use Rattle.format_tests.specs.Opened.{opened}
use Rattle.format_tests.specs.Images.{smallest, with_third, bare, three_siblings, site, in_entry, mini_cell, built}

-- ---- accepted, and answers 1 and 2

smallest_accepted : verdict version3 smallest 39 ≡ 0
unfolding opened built
smallest_accepted = refl

bare_accepted : verdict version3 bare 39 ≡ 0
unfolding opened built
bare_accepted = refl

site_accepted : verdict version3 site 65 ≡ 0
unfolding opened built
site_accepted = refl

image_too_short : verdict version3 (replicate 1535 0) 39 ≡ 1
unfolding opened built
image_too_short = refl

-- 1 comes before 2
image_of_two_sectors : verdict version3 (replicate 1024 0) 0 ≡ 1
unfolding opened built
image_of_two_sectors = refl

greatest_length : (length_allowed version3 67_108_864 ≡ true) × (length_allowed version3 67_109_376 ≡ false)
unfolding opened built
greatest_length = (refl, refl)

work_too_short : verdict version3 smallest 38 ≡ 2
unfolding opened built
work_too_short = refl

work_before_groups : verdict version3 (replicate 1536 0) 38 ≡ 2
unfolding opened built
work_before_groups = refl

-- ---- group 10

signature : verdict version3 (put_bytes smallest 0 (0xD1 ∷ [])) 65 ≡ 10
unfolding opened built
signature = refl

reserved_bytes : verdict version3 (put_bytes smallest 39 (1 ∷ [])) 65 ≡ 10
unfolding opened built
reserved_bytes = refl

cutoff_other : verdict version3 (put32 smallest 56 4095) 65 ≡ 10
unfolding opened built
cutoff_other = refl

-- no rule reads the minor version and the transaction number
unread_fields : verdict version3 (put32 (put_bytes smallest 24 (0x3B ∷ [])) 52 7) 65 ≡ 0
unfolding opened built
unread_fields = refl

-- ---- group 11

no_fat : verdict version3 (put32 smallest 44 0) 65 ≡ 11
unfolding opened built
no_fat = refl

difat_count_lem : verdict version3 (put32 smallest 72 1) 65 ≡ 11
unfolding opened built
difat_count_lem = refl

difat_start_free : verdict version3 (put32 smallest 68 FREE) 65 ≡ 11
unfolding opened built
difat_start_free = refl

spare_difat_entry : verdict version3 (put32 smallest 508 1) 65 ≡ 11
unfolding opened built
spare_difat_entry = refl

fat_sector_unmarked : verdict version3 (put32 smallest 512 END) 65 ≡ 11
unfolding opened built
fat_sector_unmarked = refl

mark_elsewhere : verdict version3 (put32 smallest 516 FATSECT) 65 ≡ 11
unfolding opened built
mark_elsewhere = refl

fat_sector_out : verdict version3 (put32 smallest 76 2) 65 ≡ 11
unfolding opened built
fat_sector_out = refl

-- ---- group 12

cell_names_no_sector : verdict version3 (put32 smallest 516 2) 65 ≡ 12
unfolding opened built
cell_names_no_sector = refl

spare_cell_used : verdict version3 (put32 smallest 520 END) 65 ≡ 12
unfolding opened built
spare_cell_used = refl

-- ---- group 13

directory_empty : verdict version3 (put32 smallest 48 END) 65 ≡ 13
unfolding opened built
directory_empty = refl

directory_circles : verdict version3 (put32 smallest 516 1) 65 ≡ 13
unfolding opened built
directory_circles = refl

-- ---- group 14

root_is_stream : verdict version3 (put_bytes bare (in_entry 0 66) (2 ∷ [])) 65 ≡ 14
unfolding opened built
root_is_stream = refl

blank_with_colour : verdict version3 (put_bytes smallest (in_entry 1 67) (1 ∷ [])) 65 ≡ 14
unfolding opened built
blank_with_colour = refl

second_root : entry_rules (directory version3 (put_bytes bare (in_entry 1 66) (5 ∷ []))) ≡ false
unfolding opened built
second_root = refl

colon_in_name : entry_rules (directory version3 (put_bytes bare (in_entry 2 0) (0x3A ∷ []))) ≡ false
unfolding opened built
colon_in_name = refl

exclamation_in_name : entry_rules (directory version3 (put_bytes bare (in_entry 2 0) (0x21 ∷ []))) ≡ false
unfolding opened built
exclamation_in_name = refl

-- of a stream and of the root they are not looked at, of a storage they are zero
upper_size_bytes : verdict version3 (put32 (put32 site (in_entry 0 124) 7) (in_entry 2 124) 1) 65 ≡ 0
unfolding opened built
upper_size_bytes = refl

upper_size_bytes_of_storage : entry_rules (directory version3 (put32 bare (in_entry 1 124) 1)) ≡ false
unfolding opened built
upper_size_bytes_of_storage = refl

stream_with_child : entry_rules (directory version3 (put32 bare (in_entry 2 76) 3)) ≡ false
unfolding opened built
stream_with_child = refl

-- ---- group 15

-- Jets on the left of log
order_broken : verdict version3 (put32 (put32 bare (in_entry 2 72) NOSTREAM) (in_entry 2 68) 3) 65 ≡ 15
unfolding opened built
order_broken = refl

-- `d` is greater than `a`, its parent, but not less than `c`, whose left side it stands on
whole_side : verdict version3 (three_siblings 0x64) 39 ≡ 15
unfolding opened built
whole_side = refl

whole_side_in_order : tree_rules (directory version3 (three_siblings 0x62)) ≡ true
unfolding opened built
whole_side_in_order = refl

top_red : tree_rules (directory version3 (put_bytes bare (in_entry 2 67) (0 ∷ []))) ≡ false
unfolding opened built
top_red = refl

entry_unreached : tree_rules (directory version3 (put32 bare (in_entry 2 72) NOSTREAM)) ≡ false
unfolding opened built
entry_unreached = refl

names_entry_0 : tree_rules (directory version3 (put32 bare (in_entry 3 72) 0)) ≡ false
unfolding opened built
names_entry_0 = refl

siblings_circle : tree_rules (directory version3 (put32 bare (in_entry 3 72) 2)) ≡ false
unfolding opened built
siblings_circle = refl

-- ---- group 16

root_size_odd : verdict version3 (put32 site (in_entry 0 120) 500) 65 ≡ 16
unfolding opened built
root_size_odd = refl

mini_fat_too_long : mini_rules (volume version3 (put32 site 64 2)) ≡ false
unfolding opened built
mini_fat_too_long = refl

mini_cell_names_no_sector : mini_rules (volume version3 (put32 site (mini_cell 7) 8)) ≡ false
unfolding opened built
mini_cell_names_no_sector = refl

spare_mini_cell_used : verdict version3 (put32 site (mini_cell 8) END) 65 ≡ 16
unfolding opened built
spare_mini_cell_used = refl

-- ---- group 17

-- log of 64 bytes needs one mini sector, and its chain has two
chain_too_long : verdict version3 (put32 site (in_entry 2 120) 64) 65 ≡ 17
unfolding opened built
chain_too_long = refl

chain_too_short : stream_rules (volume version3 (put32 site (in_entry 2 120) 129)) ≡ false
unfolding opened built
chain_too_short = refl

empty_with_start : verdict version3 (put32 site (in_entry 3 120) 0) 65 ≡ 17
unfolding opened built
empty_with_start = refl

-- ---- group 18

-- Jets in the last mini sector of log
two_owners : verdict version3 (put32 (put32 site (in_entry 3 116) 1) (mini_cell 2) FREE) 65 ≡ 18
unfolding opened built
two_owners = refl

mini_sector_unowned : verdict version3 (put32 site (mini_cell 3) END) 65 ≡ 18
unfolding opened built
mini_sector_unowned = refl

sector_unowned : verdict version3 (with_third END) 52 ≡ 18
unfolding opened built
sector_unowned = refl

-- the mini stream in the mini FAT
sector_of_two_owners : owner_rules (volume version3 (put32 (put32 site (in_entry 0 116) 2) 524 FREE)) ≡ false
unfolding opened built
sector_of_two_owners = refl
