-- The header and the sectors of a fresh image: each is as long as a sector, and a part of one is a part of the image.
use Prim.Native.Nat.{ℕ, zero, suc, ◌+◌, ◌-◌, ◌*◌, ◌≤◌, ◌<◌}
use mathlib.Core.Path.{◌≡◌, refl, ap, ◌∙◌}
use mathlib.Core.Bool.{Bool, true, false, cond}
use mathlib.Core.List.{◌++◌}
use native.Mathlib.Omega.{arith}
use lib.Dec.{ltb}
use lib.ListN.{length, replicate, length-append, length-replicate}
use borrow.Author.Tests.{lt-ltb, le-ltb}
use Rattle.format.specs.Basics.Lists.{join_below, all}
use Rattle.format.specs.Basics.Bytes.{Bytes, part, is_zero, all_zero, le16, le32}
use Rattle.format.specs.Layout.Geometry.{Geometry, header_bytes, header_difat, cells_in, entries_in, sector_place}
use Rattle.format.specs.Rules.Header.{signature}
use Rattle.frame.specs.Kept.{Sized}
use Rattle.frame.proofs.MadeEntries.{new_long, blank_long}
use Rattle.format.specs.Fresh.Plan.{Plan, fat_part, difat_part, difat_from, directory_from, mini_fat_from, mini_stream_from, start_from, mini_stream_bytes, mini_stream_part}
use Rattle.format.specs.Fresh.Cells.{fresh_difat, difat_number}
use Rattle.format.specs.Fresh.Header.{numbers_below, header_front, header_fields, fresh_header}
use Rattle.format.specs.Fresh.Image.{root_name, root_entry, fat_number, directory_entry, mini_number, fat_block, difat_block, fresh_entry, directory_block, mini_fat_block, fresh_sector, fresh_image}
use Rattle.fresh.specs.Facts.{Planned}
use Rattle.fresh.proofs.Joined.{part_front, part_back, length_join, part_join, length_numbers}
use Rattle.fresh.proofs.Numbers.{cells_fill, entries_fill, Order, order}

-- ---- lengths

pub length_front : (g : Geometry) (p : Plan) → length (header_front g ++ header_fields g p) ≡ 76
unfolding header_front header_fields signature le16 le32
length_front g p = refl

pub length_entry : (g : Geometry) (p : Plan) (i : ℕ) → length (fresh_entry g p i) ≡ 128
unfolding fresh_entry root_entry
length_entry g p zero = new_long root_name 5 (start_from (mini_stream_from g p) (mini_stream_part g p)) (mini_stream_bytes p)
length_entry g p (suc i) = blank_long

zeros_zero : (n : ℕ) → all_zero (part (replicate n 0) 0 n) ≡ true
unfolding all_zero all is_zero part
zeros_zero zero = refl
zeros_zero (suc n) = zeros_zero n

module _ (g : Geometry) (p : Plan) (z : Sized g) where
  pub length_table : (f : ℕ → ℕ) → length (numbers_below (cells_in g) f) ≡ g.sector_bytes
  length_table f = omega (arith, length_numbers (cells_in g) f, cells_fill g z)

  pub length_directory : (j : ℕ) → length (directory_block g p j) ≡ g.sector_bytes
  unfolding directory_block directory_entry
  length_directory j =
      omega (
        arith,
        entries_fill g z,
        length_join 128 (directory_entry g p j) (entries_in g) (λ i l. length_entry g p (entries_in g * j + i)),
      )

  pub length_sector : (s : ℕ) → length (fresh_sector g p s) ≡ g.sector_bytes
  unfolding fresh_sector fat_block difat_block mini_fat_block
  length_sector s =
      chosen (ltb s (difat_from g p)) _ _ (length_table (fat_number g p s))
      (chosen (ltb s (directory_from g p)) _ _ (length_table (difat_number g p (s - difat_from g p)))
      (chosen (ltb s (mini_fat_from g p)) _ _ (length_directory (s - directory_from g p))
      (chosen (ltb s (mini_stream_from g p)) _ _ (length_table mini_number) (length-replicate g.sector_bytes 0))))
    where
      chosen : {n : ℕ} (c : Bool) (x y : Bytes) → length x ≡ n → length y ≡ n → length (cond c x y) ≡ n
      chosen true x y a b = a
      chosen false x y a b = b

  -- the header without what fills its sector
  length_512 : length (header_front g ++ header_fields g p ++ numbers_below header_difat (fresh_difat g p)) ≡ 512
  unfolding header_difat
  length_512 =
      omega (
        arith,
        length-append (header_front g ++ header_fields g p) (numbers_below 109 (fresh_difat g p)),
        length_front g p,
        length_numbers 109 (fresh_difat g p),
      )

  pub length_header : length (fresh_header g p) ≡ g.sector_bytes
  unfolding fresh_header header_bytes
  length_header =
      let w = z.wide in
      let n = numbers_below header_difat (fresh_difat g p) in
      omega (
        arith,
        length-append (header_front g ++ header_fields g p ++ n) (replicate (g.sector_bytes - 512) 0),
        length_512,
        length-replicate {A = ℕ} (g.sector_bytes - 512) 0,
      )

  pub length_image : length (fresh_image g p) ≡ suc p.sectors * g.sector_bytes
  unfolding fresh_image
  length_image =
      omega (
        arith,
        length-append (fresh_header g p) (join_below p.sectors (fresh_sector g p)),
        length_header,
        length_join g.sector_bytes (fresh_sector g p) p.sectors (λ i l. length_sector i),
      )

  -- ---- parts

  pub head_part : (k c : ℕ) → k + c ≤ g.sector_bytes → part (fresh_image g p) k c ≡ part (fresh_header g p) k c
  unfolding fresh_image
  head_part k c h = part_front (fresh_header g p) (join_below p.sectors (fresh_sector g p)) k c (omega (arith, length_header))

  pub sector_part : (s k c : ℕ) → s < p.sectors → k + c ≤ g.sector_bytes → part (fresh_image g p) (sector_place g s + k) c ≡ part (fresh_sector g p s) k c
  unfolding fresh_image sector_place
  sector_part s k c l h =
      let e : (s + 1) * g.sector_bytes + k ≡ g.sector_bytes + (s * g.sector_bytes + k) = omega arith in
      rw e (part_back (fresh_header g p) (join_below p.sectors (fresh_sector g p)) g.sector_bytes (s * g.sector_bytes + k) c length_header
      ∙ part_join g.sector_bytes (fresh_sector g p) p.sectors (λ i l. length_sector i) s k c l h)

  -- DIFAT entry i of the header
  pub header_entry : (i : ℕ) → i < 109 → part (fresh_header g p) (76 + 4 * i) 4 ≡ part (numbers_below 109 (fresh_difat g p)) (4 * i) 4
  unfolding fresh_header header_difat header_bytes
  header_entry i h =
      let n = numbers_below 109 (fresh_difat g p) in
      part_front (header_front g ++ header_fields g p ++ n) (replicate (g.sector_bytes - 512) 0) (76 + 4 * i) 4 (omega (arith, length_512))
      ∙ part_back (header_front g ++ header_fields g p) n 76 (4 * i) 4 (length_front g p)

  -- what fills the header's sector is zero
  pub header_rest_zero : all_zero (part (fresh_image g p) 512 (g.sector_bytes - 512)) ≡ true
  unfolding fresh_header header_bytes
  header_rest_zero =
      let w = z.wide in
      let front = header_front g ++ header_fields g p ++ numbers_below header_difat (fresh_difat g p) in
      rw (head_part 512 (g.sector_bytes - 512) (omega arith))
      (ap all_zero (part_back front (replicate (g.sector_bytes - 512) 0) 512 0 (g.sector_bytes - 512) length_512) ∙ zeros_zero (g.sector_bytes - 512))

-- ---- the sectors, part by part

module _ (g : Geometry) (p : Plan) (z : Sized g) (q : Planned g p) where
  abbrev o : Order g p z q
  o = order g p z q

  pub fat_sector : (j : ℕ) → j < fat_part g p → fresh_sector g p j ≡ fat_block g p j
  unfolding fresh_sector
  fat_sector j h = rw (lt-ltb j (difat_from g p) (omega (arith, o)))

  pub difat_sector_lem : (j : ℕ) → j < difat_part g p → fresh_sector g p (fat_part g p + j) ≡ difat_block g p j
  unfolding fresh_sector
  difat_sector_lem j h =
      let s = fat_part g p + j in
      let e : s - difat_from g p ≡ j = omega (arith, o) in
      rw (le-ltb s (difat_from g p) (omega (arith, o)), lt-ltb s (directory_from g p) (omega (arith, o)), e)

  pub directory_sector : (j : ℕ) → j < p.directory → fresh_sector g p (directory_from g p + j) ≡ directory_block g p j
  unfolding fresh_sector
  directory_sector j h =
      let s = directory_from g p + j in
      let e : s - directory_from g p ≡ j = omega arith in
      rw (
        le-ltb s (difat_from g p) (omega (arith, o)),
        le-ltb s (directory_from g p) (omega (arith, o)),
        lt-ltb s (mini_fat_from g p) (omega (arith, o)),
        e,
      )

  pub mini_fat_sector : (j : ℕ) → j < p.mini_fat → fresh_sector g p (mini_fat_from g p + j) ≡ mini_fat_block g
  unfolding fresh_sector
  mini_fat_sector j h =
      let s = mini_fat_from g p + j in
      rw (
        le-ltb s (difat_from g p) (omega (arith, o)),
        le-ltb s (directory_from g p) (omega (arith, o)),
        le-ltb s (mini_fat_from g p) (omega (arith, o)),
        lt-ltb s (mini_stream_from g p) (omega (arith, o)),
      )
