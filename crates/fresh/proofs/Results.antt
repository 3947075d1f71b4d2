-- What a fresh image holds: no object, no row, the system's sectors and nothing else, and all entries blank but the root.
use Prim.Native.Nat.{ℕ, zero, suc, ◌+◌, ◌-◌, ◌*◌, ◌<◌}
use mathlib.Core.Path.{◌≡◌, refl, ap, ◌∙◌}
use mathlib.Core.Bool.{Bool, true, false}
use mathlib.Core.List.{[], append-nil}
use native.Mathlib.Omega.{arith}
use lib.ListN.{length}
use Rattle.format.specs.Basics.Lists.{bit}
use Rattle.format.specs.Basics.Bytes.{Bytes}
use Rattle.format.specs.Layout.Geometry.{Geometry, entries_in}
use Rattle.format.specs.Layout.Space.{allocated}
use Rattle.format.specs.Layout.Directory.{blank_at, blanks}
use Rattle.format.specs.Layout.Tree.{entries}
use Rattle.format.specs.Layout.Volume.{Volume, volume, fixed_number, directory}
use Rattle.format.specs.Calls.Listing.{listing, lines, first_line}
use Rattle.format.specs.History.Rows.{rows_of, rows_in}
use Rattle.format.specs.History.Storages.{storages_of, storages_in, blank_count_of}
use Rattle.theory.specs.Sums.{sum_below}
use Rattle.theory.proofs.Picks.{length_pick}
use Rattle.theory.proofs.Owned.{allocated_is}
use Rattle.frame.specs.Kept.{Sized}
use Rattle.frame.specs.Good.{space_of, system_of, entry_units}
use Rattle.format.specs.Fresh.Plan.{Plan, spare_from}
use Rattle.format.specs.Fresh.Image.{fresh_image}
use Rattle.format.specs.Claims.Fresh.{fresh_fixed}
use Rattle.fresh.specs.Facts.{Headed, Planned}
use Rattle.fresh.proofs.Numbers.{order}
use Rattle.fresh.proofs.Directory.{kind_at, entry_is, entry_count_is, entries_exist, forest_empty}
use Rattle.fresh.proofs.Owners.{system_length, no_lengths}
use Rattle.fresh.proofs.Accepted.{fresh_good}

-- 0 at the first place and 1 at all others
sum_but_first : (f : ℕ → ℕ) (n : ℕ) → f 0 ≡ 0 → ((i : ℕ) → suc i < n → f (suc i) ≡ 1) → sum_below f n ≡ n - 1
sum_but_first f zero e k = refl
sum_but_first f (suc zero) e k = omega arith
sum_but_first f (suc (suc n)) e k = omega (arith, sum_but_first f (suc n) e (λ i l. k i (omega arith)), k n (omega arith))

module _ (g : Geometry) (p : Plan) (h : Headed g) (q : Planned g p) where
  abbrev z : Sized g
  z = h.sized

  abbrev img : Bytes
  img = fresh_image g p

  abbrev v : Volume
  v = volume g img

  -- `objects 0`
  pub fresh_listing : listing (directory g img) ≡ first_line 0
  unfolding listing lines entries
  fresh_listing = rw (forest_empty g p h q) (append-nil (first_line 0))

  pub fresh_rows : rows_of g img ≡ []
  unfolding rows_of rows_in volume
  fresh_rows = rw (forest_empty g p h q)

  pub fresh_storages : storages_of g img ≡ []
  unfolding storages_of storages_in
  fresh_storages = rw (forest_empty g p h q)

  -- ---- sectors and mini sectors

  parts_sum : spare_from g p ≡ fresh_fixed g p
  unfolding fresh_fixed
  parts_sum = omega (arith, order g p z q)

  pub fresh_fixed_lem : fixed_number v ≡ fresh_fixed g p
  unfolding fixed_number
  fresh_fixed_lem = system_length g p h q ∙ parts_sum

  by_owners : (b : Bool) → allocated (space_of v b) ≡ length (system_of v b) + 0
  unfolding allocated
  by_owners b =
      let sp = space_of v b in
      let o = fresh_good g p h q in
      allocated_is sp.limit (o.lim b) (system_of v b) sp.cell (entry_units v b) (o.owned b)
      ∙ ap (λ k. length (system_of v b) + k) (no_lengths g p h q b)

  pub fresh_allocated : allocated v.sectors ≡ fresh_fixed g p
  fresh_allocated = omega (arith, by_owners false, system_length g p h q, parts_sum)

  pub fresh_allocated_minis : allocated v.minis ≡ 0
  fresh_allocated_minis = omega (arith, by_owners true)

  -- ---- blank entries

  blank_first : bit (blank_at v.directory 0) ≡ 0
  unfolding volume blank_at
  blank_first = rw (entry_is g p h q 0 (entries_exist g p h q), kind_at g p h q 0)

  blank_later : (i : ℕ) → suc i < v.directory.count → bit (blank_at v.directory (suc i)) ≡ 1
  unfolding volume blank_at
  blank_later i l = rw (entry_is g p h q (suc i) (rw (entry_count_is g p h q) at l), kind_at g p h q (suc i))

  pub fresh_blanks : blank_count_of g img ≡ entries_in g * p.directory - 1
  unfolding blank_count_of blanks volume
  fresh_blanks =
      length_pick (blank_at v.directory) v.directory.count
      ∙ sum_but_first (λ s. bit (blank_at v.directory s)) v.directory.count blank_first blank_later
      ∙ ap (λ n. n - 1) (entry_count_is g p h q)
