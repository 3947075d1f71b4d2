-- The header's sector: the marks, the numbers from byte 40 on, and zeros.
use Prim.Native.Nat.{ℕ, ◌+◌, ◌-◌, ◌≤◌, ◌<◌}
use mathlib.Core.Path.{◌≡◌, refl, sym, ap, ap₂, ◌∙◌}
use mathlib.Core.Bool.{true, false}
use mathlib.Core.List.{◌++◌, append_assoc, append-nil}
use native.Mathlib.Omega.{arith}
use lib.ListN.{length, take, drop, get_or, replicate, length-append, length-take, length-drop, length-replicate, drop_of_length-le}
use borrow.Author.Tests.{lt-ltb, le-ltb}
use Rattle.format.specs.Basics.Lists.{join_below}
use Rattle.format.specs.Basics.Bytes.{Bytes, le16, le32, le64, put_bytes, put16, put64}
use Rattle.format.specs.Layout.Geometry.{Geometry, header_bytes, header_difat, counts_directory}
use Rattle.format.specs.Layout.Need.{cutoff}
use Rattle.format.specs.Rules.Header.{signature, byte_order, mini_shift}
use Rattle.format.specs.Fresh.Plan.{Plan, difat_part, start_from}
use Rattle.format.specs.Fresh.Cells.{fresh_difat}
use Rattle.format.specs.Fresh.Header.{minor_version, directory_field, bytes_at, numbers_below, header_front, header_fields, fresh_header}
use Rattle.theory.proofs.Sets.{lent_back}
use Rattle.fresh.proofs.Joined.{length_numbers}
use Rattle.fresh_sectors.specs.declared.Parts.{Parts}
use Rattle.fresh_sectors.specs.Parts.{Stands, sizes, plan}
use Rattle.fresh_sectors.proofs.Laying.{put_next, join_split}
use Rattle.fresh_sectors.proofs.Standing.{parts_order}
use Rattle.formatting.specs.Numbers.{field_list, header_number}

-- ---- the marks

pub marks_are : (g : Geometry) (n : ℕ) → n ≡ 40
    → put16 (put16 (put16 (put16 (put16 (put64 (replicate n 0) 0 0xE11A_B1A1_E011_CFD0) 24 0x3E) 26 g.major) 28 0xFFFE) 30 g.shift) 32 6 ≡ header_front g
unfolding put64 put16 put_bytes header_front signature minor_version byte_order mini_shift le64 le32 le16
marks_are g n e = rw e

length_marks : (g : Geometry) → length (header_front g) ≡ 40
unfolding header_front signature le16
length_marks g = refl

-- ---- the fields

module _ (l : Parts) (st : Stands l) where
  directory_count_lem : l.minifat.0 - l.directory.0 ≡ l.plan.directory
  directory_count_lem = omega (arith, parts_order l st, st.placed)

  mini_fat_count_lem : l.stream.0 - l.minifat.0 ≡ l.plan.minifat
  mini_fat_count_lem = omega (arith, parts_order l st, st.placed)

  difat_count_lem : l.directory.0 - l.difat.0 ≡ difat_part (sizes l) (plan l)
  difat_count_lem = omega (arith, parts_order l st, st.placed)

  pub counted : counts_directory (sizes l) ≡ true → l.minifat.0 - l.directory.0 ≡ directory_field (sizes l) (plan l)
  unfolding directory_field
  counted e = rw e directory_count_lem

  pub uncounted : counts_directory (sizes l) ≡ false → 0 ≡ directory_field (sizes l) (plan l)
  unfolding directory_field
  uncounted e = rw e

  abbrev Field : ℕ → ℕ → Type 0
  Field i v = v ≡ get_or (field_list (sizes l) (plan l)) i 0

  pub field_0 : {v : ℕ} (i : ℕ) → i ≡ 0 → v ≡ directory_field (sizes l) (plan l) → Field i v
  unfolding field_list
  field_0 i e k = rw e k

  pub field_1 : (i : ℕ) → i ≡ 1 → Field i l.difat.0
  unfolding field_list
  field_1 i e = rw e (omega (arith, parts_order l st, st.placed))

  pub field_2 : (i : ℕ) → i ≡ 2 → Field i l.directory.0
  unfolding field_list
  field_2 i e = rw e st.placed.directory

  pub field_3 : (i : ℕ) → i ≡ 3 → Field i 0
  unfolding field_list
  field_3 i e = rw e

  pub field_4 : (i : ℕ) → i ≡ 4 → Field i 4096
  unfolding field_list cutoff
  field_4 i e = rw e

  pub field_5 : {v : ℕ} (i : ℕ) → i ≡ 5 → v ≡ start_from l.minifat.0 (l.stream.0 - l.minifat.0) → Field i v
  unfolding field_list
  field_5 i e k = rw e (k ∙ ap₂ start_from st.placed.mini_fat mini_fat_count_lem)

  pub field_6 : (i : ℕ) → i ≡ 6 → Field i (l.stream.0 - l.minifat.0)
  unfolding field_list
  field_6 i e = rw e mini_fat_count_lem

  pub field_7 : {v : ℕ} (i : ℕ) → i ≡ 7 → v ≡ start_from l.difat.0 (l.directory.0 - l.difat.0) → Field i v
  unfolding field_list
  field_7 i e k = rw e (k ∙ ap₂ start_from st.placed.difat difat_count_lem)

  pub field_8 : (i : ℕ) → i ≡ 8 → Field i (l.directory.0 - l.difat.0)
  unfolding field_list
  field_8 i e = rw e difat_count_lem

-- ---- the numbers

module _ (g : Geometry) (p : Plan) where
  pub number_field : {v : ℕ} (i : ℕ) → i < 9 → v ≡ get_or (field_list g p) i 0 → v ≡ header_number g p i
  unfolding header_number
  number_field i h e = rw (lt-ltb i 9 h) e

  pub number_entry : {v : ℕ} (i : ℕ) → 9 ≤ i → v ≡ fresh_difat g p (i - 9) → v ≡ header_number g p i
  unfolding header_number
  number_entry i h e = rw (le-ltb i 9 h) e

  fields_first : numbers_below 9 (header_number g p) ≡ header_fields g p
  unfolding numbers_below join_below header_number field_list header_fields le32 le16
  fields_first = refl

  numbers_are : numbers_below 118 (header_number g p) ≡ header_fields g p ++ numbers_below header_difat (fresh_difat g p)
  unfolding numbers_below header_difat
  numbers_are =
      join_split 9 109 (bytes_at (header_number g p)) (bytes_at (fresh_difat g p)) (λ i. ap le32 (later i))
      ∙ ap (λ (x : Bytes). x ++ join_below 109 (bytes_at (fresh_difat g p))) fields_first
    where
      later : (i : ℕ) → header_number g p (i + 9) ≡ fresh_difat g p i
      later i = let e : i + 9 - 9 ≡ i = omega arith in sym (number_entry (i + 9) (omega arith) (ap (fresh_difat g p) (sym e)))

-- ---- the sector

-- three parts that were lent one after the other: the last is the rest
abbrev two_parts : (part x y : Bytes) → Bytes
two_parts part x y = let b = x ++ drop 40 part in take 40 b ++ (y ++ drop 472 (drop 40 b))

module _ (part x y : Bytes) (ex : length x ≡ 40) (ey : length y ≡ 472) (long : 512 ≤ length part) where
  abbrev first : Bytes
  first = x ++ drop 40 part

  abbrev second : Bytes
  second = two_parts part x y

  second_is : second ≡ (x ++ y) ++ drop 512 part
  second_is =
      let l : length first ≡ length part = length-append x (drop 40 part) ∙ omega (arith, length-drop 40 part) in
      let k : 40 + length y ≡ 512 = omega arith in
      lent_back first y 40 512 (omega arith) (omega arith) ∙ put_next x y part first 40 ex (omega arith) refl ∙ ap (λ (m : ℕ). (x ++ y) ++ drop m part) k

  second_long : length second ≡ length part
  second_long = ap length second_is ∙ length-append (x ++ y) (drop 512 part) ∙ omega (arith, length-append x y, length-drop 512 part)

  third_is : (z : Bytes) → length z ≡ length part - 512 → take 512 second ++ (z ++ drop (length second - 512) (drop 512 second)) ≡ (x ++ y) ++ z
  third_is z e =
      lent_back second z 512 (length second) (omega (arith, second_long)) (omega arith)
      ∙ put_next (x ++ y) z part second 512 (omega (arith, length-append x y)) (omega arith) second_is
      ∙ ap (λ (r : Bytes). ((x ++ y) ++ z) ++ r) (drop_of_length-le part {i = 512 + length z} (omega arith))
      ∙ append-nil ((x ++ y) ++ z)

  rest_long : length (take (length second - 512) (drop 512 second)) ≡ length part - 512
  rest_long = omega (arith, second_long, length-take (length second - 512) (drop 512 second), length-drop 512 second)

module _ (g : Geometry) (p : Plan) where
  pub header_is : (part x y z : Bytes) → length part ≡ g.sector_bytes → 512 ≤ g.sector_bytes → x ≡ header_front g → y ≡ numbers_below 118 (header_number g p)
      → z ≡ replicate (length (take (length (two_parts part x y) - 512) (drop 512 (two_parts part x y)))) 0
      → take 512 (two_parts part x y) ++ (z ++ drop (length (two_parts part x y) - 512) (drop 512 (two_parts part x y))) ≡ fresh_header g p
  unfolding fresh_header header_bytes
  header_is part x y z e h ex ey ez =
      let a = ap length ex ∙ length_marks g in
      let b = ap length ey ∙ length_numbers 118 (header_number g p) in
      let w : 512 ≤ length part = omega arith in
      let k : length (take (length (two_parts part x y) - 512) (drop 512 (two_parts part x y))) ≡ g.sector_bytes - 512 = omega (arith, rest_long part x y a b w) in
      let f : z ≡ replicate (g.sector_bytes - 512) 0 = ez ∙ ap (λ (n : ℕ). replicate n 0) k in
      third_is part x y a b w z (ap length f ∙ length-replicate {A = ℕ} (g.sector_bytes - 512) 0 ∙ omega arith)
      ∙ ap₂ ◌++◌ (ap₂ ◌++◌ ex (ey ∙ numbers_are g p)) f
      ∙ ap (λ (r : Bytes). r ++ replicate (g.sector_bytes - 512) 0) (sym (append_assoc (header_front g) (header_fields g p) (numbers_below header_difat (fresh_difat g p))))

-- ---- what proofs cite together

pub ruleset directory_count = (counted, uncounted)

-- number i of the header, and of its fields
pub ruleset number_at = (number_field, number_entry)

pub ruleset field_at = (field_0, field_1, field_2, field_3, field_4, field_5, field_6, field_7, field_8)
