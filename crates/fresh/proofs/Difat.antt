-- The DIFAT of a fresh image: its sectors and its entries, and the FAT's sectors.
use Prim.Native.Nat.{ℕ, zero, suc, ◌+◌, ◌-◌, ◌*◌, ◌/◌, ◌%◌, ◌<◌}
use mathlib.Core.Path.{◌≡◌, refl, sym, ap, ◌∙◌}
use mathlib.Core.Logic.{inl, inr}
use mathlib.Core.Bool.{Bool, true, false, cond}
use native.Mathlib.Nat.{mod-lt, div-lt_iff_lt-mul, div-add-mod', mul_comm, add-zero, add-suc}
use native.Mathlib.Omega.{arith}
use native.Mathlib.Decide.{dec_lt}
use lib.Dec.{ltb}
use borrow.Author.Tests.{lt-ltb, le-ltb}
use Rattle.format.specs.Basics.Bytes.{Bytes, part, number, u32at}
use Rattle.format.specs.Layout.Geometry.{Geometry, header_difat, cells_in, difat_in, sector_place}
use Rattle.format.specs.Layout.Chain.{END}
use Rattle.format.specs.Layout.Header.{difat_place}
use Rattle.format.specs.Layout.Tables.{difat_sector, difat_sectors, difat_entry, fat_sectors}
use Rattle.theory.proofs.Below.{list_below_ext}
use Rattle.frame.specs.Kept.{Sized}
use Rattle.format.specs.Fresh.Plan.{Plan, fat_part, difat_part, difat_from, directory_from, start_from}
use Rattle.format.specs.Fresh.Cells.{link_in, fresh_difat, difat_number}
use Rattle.format.specs.Fresh.Image.{difat_block, fresh_image}
use Rattle.fresh.specs.Facts.{Headed, Planned}
use Rattle.fresh.specs.Run.{run}
use Rattle.fresh.proofs.Joined.{number_at}
use Rattle.fresh.proofs.Runs.{run_below}
use Rattle.fresh.proofs.Numbers.{cells_fill, cells_some, difat_one_less, entries_enough, Order, order}
use Rattle.fresh.proofs.Blocks.{head_part, sector_part, header_entry}
use Rattle.fresh.proofs.Blocks.{difat_sector_lem as block-is}
use Rattle.fresh.proofs.Header.{difat_start_lem, difat_count_lem, fat_count_lem}
use Rattle.fresh.proofs.Cells.{link_next, link_last, link_cases}

module _ (g : Geometry) (p : Plan) (h : Headed g) (q : Planned g p) where
  abbrev z : Sized g
  z = h.sized

  abbrev img : Bytes
  img = fresh_image g p

  abbrev o : Order g p z q
  o = order g p z q

  abbrev F : ℕ
  F = fat_part g p

  abbrev D : ℕ
  D = difat_part g p

  -- ---- the numbers of a DIFAT sector

  entry_small : (i : ℕ) → fresh_difat g p i < 0x1_0000_0000
  unfolding fresh_difat
  entry_small i =
      elim (dec_lt i F) [
        | yes a ↦ rw (lt-ltb i F a) (omega (arith, o))
        | no a ↦ rw (le-ltb i F (omega arith)) (omega arith)
      ]

  link_small : (j : ℕ) → j < D → link_in (directory_from g p) (difat_from g p + j) < 0x1_0000_0000
  link_small j l =
      elim (link_cases (directory_from g p) (difat_from g p + j) (omega (arith, o))) [
        | inl a ↦ omega (arith, o)
        | inr a ↦ omega arith
      ]

  number_small : (j i : ℕ) → j < D → difat_number g p j i < 0x1_0000_0000
  unfolding difat_number
  number_small j i l = go (ltb i (difat_in g))
    where
      go : (b : Bool) → cond b (fresh_difat g p (header_difat + (difat_in g * j + i))) (link_in (directory_from g p) (difat_from g p + j)) < 0x1_0000_0000
      go true = entry_small (header_difat + (difat_in g * j + i))
      go false = link_small j l

  -- number i of DIFAT sector j, read off the image
  number_read : (j i : ℕ) → j < D → i < cells_in g → u32at img (sector_place g (F + j) + 4 * i) ≡ difat_number g p j i
  unfolding u32at difat_block
  number_read j i l k =
      let e = block-is g p z q j l in
      ap number (sector_part g p z (F + j) (4 * i) 4 (omega (arith, o)) (omega (arith, cells_fill g z))
      ∙ ap (λ (b : Bytes). part b (4 * i) 4) e)
      ∙ number_at (cells_in g) (difat_number g p j) i k (number_small j i l)

  link_read : (j : ℕ) → j < D → u32at img (sector_place g (F + j) + 4 * difat_in g) ≡ link_in (F + D) (F + j)
  unfolding difat_number difat_from directory_from
  link_read j l =
      number_read j (difat_in g) l (omega (arith, difat_one_less g z))
      ∙ rw (le-ltb (difat_in g) (difat_in g) (omega arith))

  -- ---- the DIFAT's sectors

  start_some : (s n : ℕ) → 0 < n → start_from s n ≡ s
  unfolding start_from
  start_some s zero l = absurd (omega arith)
  start_some s (suc n) l = refl

  pub difat_sector_is : (k : ℕ) → k < D → difat_sector g img k ≡ F + k
  unfolding difat_sector
  difat_sector_is zero l = difat_start_lem g p h q ∙ start_some F D l ∙ sym (add-zero F)
  difat_sector_is (suc k) l =
      rw (difat_sector_is k (omega arith)) (link_read k (omega arith) ∙ link_next (F + D) (F + k) (omega arith) ∙ sym (add-suc F k))

  pub difat_ends_at : difat_sector g img D ≡ END
  unfolding difat_sector start_from
  difat_ends_at = go D refl
    where
      go : (d : ℕ) → D ≡ d → difat_sector g img d ≡ END
      go zero e = difat_start_lem g p h q ∙ ap (start_from F) e
      go (suc k) e =
          rw (difat_sector_is k (omega arith)) (link_read k (omega arith) ∙ link_last (F + D) (F + k) (omega arith))

  pub difat_sectors_are : difat_sectors g img ≡ run F D
  unfolding difat_sectors
  difat_sectors_are =
      rw (difat_count_lem g p h q) (list_below_ext D (λ i. F + i) (difat_sector g img) difat_sector_is ∙ run_below F D)

  -- ---- its entries

  head_entry : (i : ℕ) → i < 109 → u32at img (76 + 4 * i) ≡ fresh_difat g p i
  unfolding u32at
  head_entry i l =
      let w = z.wide in
      ap number (head_part g p z (76 + 4 * i) 4 (omega arith) ∙ header_entry g p z i l)
      ∙ number_at 109 (fresh_difat g p) i l (entry_small i)

  far_entry : (j : ℕ) → j < difat_in g * D → u32at img (sector_place g (difat_sector g img (j / difat_in g)) + 4 * (j % difat_in g)) ≡ fresh_difat g p (109 + j)
  unfolding difat_number header_difat
  far_entry j l =
      let some : 0 < difat_in g = omega (arith, difat_one_less g z, cells_some g z) in
      let k : j / difat_in g < D = (div-lt_iff_lt-mul some).1 (omega (arith, mul_comm (difat_in g) D)) in
      let m = mod-lt j some in
      let e : difat_in g * (j / difat_in g) + j % difat_in g ≡ j = omega (arith, div-add-mod' j (difat_in g), mul_comm (difat_in g) (j / difat_in g)) in
      rw (difat_sector_is (j / difat_in g) k)
      (number_read (j / difat_in g) (j % difat_in g) k (omega (arith, difat_one_less g z))
      ∙ rw (lt-ltb (j % difat_in g) (difat_in g) m, e))

  pub difat_entry_is : (i : ℕ) → i < 109 + difat_in g * D → difat_entry g img i ≡ fresh_difat g p i
  unfolding difat_entry header_difat difat_place
  difat_entry_is i l =
      elim (dec_lt i 109) [
        | yes a ↦ rw (lt-ltb i 109 a) (head_entry i a)
        | no a ↦
            let e : 109 + (i - 109) ≡ i = omega arith in
            rw (le-ltb i 109 (omega arith)) (far_entry (i - 109) (omega arith) ∙ ap (fresh_difat g p) e)
      ]

  -- ---- the FAT's sectors

  fat_entry : (i : ℕ) → i < F → difat_entry g img i ≡ 0 + i
  unfolding fresh_difat
  fat_entry i l = difat_entry_is i (omega (arith, entries_enough g p z q)) ∙ rw (lt-ltb i F l) (omega arith)

  pub fat_sectors_are : fat_sectors g img ≡ run 0 F
  unfolding fat_sectors
  fat_sectors_are = rw (fat_count_lem g p h q) (list_below_ext F (λ i. 0 + i) (difat_entry g img) fat_entry ∙ run_below 0 F)
