-- The length and the header of a fresh image: its fields, and group 10.
use Prim.Native.Nat.{ℕ, zero, suc, ◌+◌, ◌≤◌, ◌<◌}
use mathlib.Core.Path.{◌≡◌, refl, ap, ◌∙◌}
use mathlib.Core.Bool.{Bool, true, false, cond, ◌||◌}
use native.Mathlib.Nat.{mul-div_cancel, mod-eq_of_lt}
use native.Mathlib.Omega.{arith}
use lib.Dec.{eqb}
use lib.ListN.{length}
use borrow.Author.Tests.{eq-eqb}
use Rattle.format.specs.Basics.Lists.{all, equal}
use Rattle.format.specs.Basics.Bytes.{Bytes, part, number, u16at, u32at, is_zero, all_zero, le16, le32}
use Rattle.format.specs.Layout.Geometry.{Geometry, header_bytes, counts_directory, sector_count}
use Rattle.format.specs.Layout.Need.{cutoff}
use Rattle.format.specs.Layout.Header.{major_version, directory_count, fat_count, directory_start, mini_fat_start, mini_fat_count, difat_start, difat_count}
use Rattle.format.specs.Rules.Header.{signature, byte_order, mini_shift, header_rules}
use Rattle.format.specs.Rules.Length.{length_allowed}
use Rattle.theory.proofs.Bytes.{number_le32}
use Rattle.frame.specs.Kept.{Sized}
use Rattle.format.specs.Fresh.Plan.{Plan, fat_part, difat_part, difat_from, directory_from, mini_fat_from, start_from}
use Rattle.format.specs.Fresh.Header.{directory_field, header_front, header_fields, fresh_header}
use Rattle.format.specs.Fresh.Image.{fresh_image}
use Rattle.fresh.specs.Facts.{Headed, Planned}
use Rattle.fresh.proofs.Numbers.{sector_some, Order, order}
use Rattle.fresh.proofs.Blocks.{length_image, head_part, header_rest_zero}

number_le16 : (v : ℕ) → v < 0x1_0000 → number (le16 v) ≡ v
unfolding number le16
number_le16 v h = omega arith

pub start_below : (s n : ℕ) → s < 0x1_0000_0000 → start_from s n < 0x1_0000_0000
unfolding start_from
start_below s zero h = omega arith
start_below s (suc n) h = h

module _ (g : Geometry) (p : Plan) (h : Headed g) (q : Planned g p) where
  abbrev z : Sized g
  z = h.sized

  abbrev img : Bytes
  img = fresh_image g p

  abbrev o : Order g p z q
  o = order g p z q

  -- ---- the length

  pub length_rule : length_allowed g (length img) ≡ true
  length_rule = rw (length_image g p z) q.allowed

  pub sector_count_lem : sector_count g img ≡ p.sectors
  unfolding sector_count
  sector_count_lem =
      let e = mul-div_cancel (suc p.sectors) {n = g.sector_bytes} (sector_some g z) in
      rw (length_image g p z, e) (omega arith)

  -- ---- fields of two and four bytes

  at : (k c : ℕ) → k + c ≤ 512 → part img k c ≡ part (fresh_header g p) k c
  at k c l = let w = z.wide in head_part g p z k c (omega arith)

  field32 : (k v : ℕ) → k + 4 ≤ 512 → v < 0x1_0000_0000 → part (fresh_header g p) k 4 ≡ le32 v → u32at img k ≡ v
  unfolding u32at
  field32 k v l b e = ap number (at k 4 l ∙ e) ∙ number_le32 v ∙ mod-eq_of_lt b

  field16 : (k v : ℕ) → k + 2 ≤ 512 → v < 0x1_0000 → part (fresh_header g p) k 2 ≡ le16 v → u16at img k ≡ v
  unfolding u16at
  field16 k v l b e = ap number (at k 2 l ∙ e) ∙ number_le16 v b

  pub fat_count_lem : fat_count img ≡ fat_part g p
  unfolding fat_count fresh_header header_front header_fields signature part le16 le32
  fat_count_lem = field32 44 (fat_part g p) (omega arith) (omega (arith, o)) refl

  pub directory_start_lem : directory_start img ≡ directory_from g p
  unfolding directory_start fresh_header header_front header_fields signature part le16 le32
  directory_start_lem = field32 48 (directory_from g p) (omega arith) (omega (arith, o)) refl

  pub mini_fat_start_lem : mini_fat_start img ≡ start_from (mini_fat_from g p) p.mini_fat
  unfolding mini_fat_start fresh_header header_front header_fields signature part le16 le32
  mini_fat_start_lem =
      field32 60 (start_from (mini_fat_from g p) p.mini_fat) (omega arith) (start_below (mini_fat_from g p) p.mini_fat (omega (arith, o))) refl

  pub mini_fat_count_lem : mini_fat_count img ≡ p.mini_fat
  unfolding mini_fat_count fresh_header header_front header_fields signature part le16 le32
  mini_fat_count_lem = field32 64 p.mini_fat (omega arith) (omega (arith, o)) refl

  pub difat_start_lem : difat_start img ≡ start_from (fat_part g p) (difat_part g p)
  unfolding difat_start fresh_header header_front header_fields difat_from signature part le16 le32
  difat_start_lem =
      field32 68 (start_from (fat_part g p) (difat_part g p)) (omega arith) (start_below (fat_part g p) (difat_part g p) (omega (arith, o))) refl

  pub difat_count_lem : difat_count img ≡ difat_part g p
  unfolding difat_count fresh_header header_front header_fields signature part le16 le32
  difat_count_lem = field32 72 (difat_part g p) (omega arith) (omega (arith, o)) refl

  -- ---- GROUP 10

  has_signature : equal (part img 0 8) signature ≡ true
  unfolding fresh_header header_front header_fields signature part equal le16 le32
  has_signature = rw (at 0 8 (omega arith))

  zeros_8 : all_zero (part img 8 16) ≡ true
  unfolding fresh_header header_front header_fields signature part all_zero all is_zero le16 le32
  zeros_8 = rw (at 8 16 (omega arith))

  zeros_34 : all_zero (part img 34 6) ≡ true
  unfolding fresh_header header_front header_fields signature part all_zero all is_zero le16 le32
  zeros_34 = rw (at 34 6 (omega arith))

  pub major_is : major_version img ≡ g.major
  unfolding major_version fresh_header header_front header_fields signature part le16 le32
  major_is = field16 26 g.major (omega arith) h.major refl

  order_is : u16at img 28 ≡ byte_order
  unfolding fresh_header header_front header_fields signature part le16 le32 byte_order
  order_is = field16 28 byte_order (omega arith) (omega arith) refl

  shift_is : u16at img 30 ≡ g.shift
  unfolding fresh_header header_front header_fields signature part le16 le32
  shift_is = field16 30 g.shift (omega arith) h.shift refl

  mini_shift_is : u16at img 32 ≡ mini_shift
  unfolding fresh_header header_front header_fields signature part le16 le32 mini_shift
  mini_shift_is = field16 32 mini_shift (omega arith) (omega arith) refl

  directory_field_small : directory_field g p < 0x1_0000_0000
  unfolding directory_field
  directory_field_small = go (counts_directory g)
    where
      go : (b : Bool) → cond b p.directory 0 < 0x1_0000_0000
      go true = omega (arith, o)
      go false = omega arith

  pub directory_field_is : directory_count img ≡ directory_field g p
  unfolding directory_count fresh_header header_front header_fields signature part le16 le32
  directory_field_is = field32 40 (directory_field g p) (omega arith) directory_field_small refl

  -- 0 where the version has no such count
  directory_field_rule : (counts_directory g || eqb (directory_count img) 0) ≡ true
  unfolding directory_field
  directory_field_rule = go (counts_directory g) directory_field_is
    where
      go : (b : Bool) → directory_count img ≡ cond b p.directory 0 → (b || eqb (directory_count img) 0) ≡ true
      go true e = refl
      go false e = eq-eqb (directory_count img) 0 e

  cutoff_is : u32at img 56 ≡ cutoff
  unfolding fresh_header header_front header_fields signature part le16 le32 cutoff
  cutoff_is = field32 56 cutoff (omega arith) (omega arith) refl

  pub header_rule : header_rules g img ≡ true
  unfolding header_rules header_bytes
  header_rule =
      rw (
        has_signature,
        zeros_8,
        eq-eqb (major_version img) g.major major_is,
        eq-eqb (u16at img 28) byte_order order_is,
        eq-eqb (u16at img 30) g.shift shift_is,
        eq-eqb (u16at img 32) mini_shift mini_shift_is,
        zeros_34,
        directory_field_rule,
        eq-eqb (u32at img 56) cutoff cutoff_is,
      )
      (header_rest_zero g p z)
