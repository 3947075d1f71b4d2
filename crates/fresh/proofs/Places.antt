-- Tables and entries laid over the sectors of a part: what is read at a place is what was laid there.
use Prim.Native.Nat.{ℕ, ◌+◌, ◌*◌, ◌/◌, ◌%◌, ◌≤◌, ◌<◌}
use mathlib.Core.Path.{◌≡◌, sym, ap, ◌∙◌}
use native.Mathlib.Nat.{mod-lt, div-add-mod', mul_comm}
use native.Mathlib.Omega.{arith}
use lib.ListN.{length, take}
use lib.Seq.{take-length}
use Rattle.format.specs.Basics.Lists.{join_below}
use Rattle.format.specs.Basics.Bytes.{Bytes, part, number, u32at}
use Rattle.format.specs.Layout.Geometry.{Geometry, cells_in, entries_in, entry_bytes, place_in}
use Rattle.format.specs.Layout.Tables.{cell_place_in}
use Rattle.format.specs.Layout.Directory.{entry_place}
use Rattle.theory.proofs.Scale.{scale_div, scale_mod, scale_below}
use Rattle.frame.specs.Kept.{Sized}
use Rattle.format.specs.Fresh.Plan.{Plan}
use Rattle.format.specs.Fresh.Header.{numbers_below}
use Rattle.format.specs.Fresh.Image.{fresh_sector, fresh_image}
use Rattle.fresh.specs.Run.{run}
use Rattle.fresh.proofs.Joined.{part_join, number_at}
use Rattle.fresh.proofs.Runs.{run_at}
use Rattle.fresh.proofs.Numbers.{cells_fill, cells_some, entries_fill, entries_some}
use Rattle.fresh.proofs.Blocks.{sector_part}

module _ (g : Geometry) (p : Plan) (z : Sized g) where
  -- thing s of those of k bytes, `per` to a sector, that lie in the n sectors from a sector on
  thing_part : (k per : ℕ) → k * per ≡ g.sector_bytes → 0 < k → 0 < per → (from n s : ℕ) → from + n ≤ p.sectors → s < per * n
      → part (fresh_image g p) (place_in g (run from n) (k * s)) k ≡ part (fresh_sector g p (from + s / per)) (k * (s % per)) k
  unfolding place_in
  thing_part k per e hk hp from n s l b =
      let i = scale_below per n s hp b in
      let m = mod-lt s hp in
      rw (scale_div k per e hk s, scale_mod k per e hk s, run_at from n (s / per) i)
      (sector_part g p z (from + s / per) (k * (s % per)) k (omega arith) (whole (s % per) m))
    where
      whole : (r : ℕ) → r < per → k * r + k ≤ g.sector_bytes
      whole r m = omega (arith, native.Mathlib.Nat.mul-le-mul_left k m, e)

  again : (per s : ℕ) → per * (s / per) + s % per ≡ s
  again per s = omega (arith, div-add-mod' s per, mul_comm per (s / per))

  -- cell s of a table whose sectors hold f 0, f 1 ..
  pub cell_read : (f : ℕ → ℕ) (from n s : ℕ)
      → ((j : ℕ) → j < n → fresh_sector g p (from + j) ≡ numbers_below (cells_in g) (λ i. f (cells_in g * j + i)))
      → from + n ≤ p.sectors → s < cells_in g * n → f s < 0x1_0000_0000 → u32at (fresh_image g p) (cell_place_in g (run from n) s) ≡ f s
  unfolding u32at cell_place_in
  cell_read f from n s blocks l b small =
      let some : 0 < cells_in g = omega (arith, cells_some g z) in
      let j = s / cells_in g in
      let e = again (cells_in g) s in
      ap number (thing_part 4 (cells_in g) (cells_fill g z) (omega arith) some from n s l b
      ∙ ap (λ (x : Bytes). part x (4 * (s % cells_in g)) 4) (blocks j (scale_below (cells_in g) n s some b)))
      ∙ number_at (cells_in g) (λ i. f (cells_in g * j + i)) (s % cells_in g) (mod-lt s some) (rw e small)
      ∙ ap f e

  -- entry s of a directory whose sectors hold f 0, f 1 .., of 128 bytes each
  pub entry_read : (f : ℕ → Bytes) → ((i : ℕ) → length (f i) ≡ 128) → (from n s : ℕ)
      → ((j : ℕ) → j < n → fresh_sector g p (from + j) ≡ join_below (entries_in g) (λ i. f (entries_in g * j + i)))
      → from + n ≤ p.sectors → s < entries_in g * n → part (fresh_image g p) (entry_place g (run from n) s) entry_bytes ≡ f s
  unfolding entry_place entry_bytes part
  entry_read f long from n s blocks l b =
      let some : 0 < entries_in g = omega (arith, entries_some g z) in
      let j = s / entries_in g in
      let r = s % entries_in g in
      let e = again (entries_in g) s in
      let a : 128 * r ≡ r * 128 + 0 = omega arith in
      thing_part 128 (entries_in g) (entries_fill g z) (omega arith) some from n s l b
      ∙ ap (λ (x : Bytes). part x (128 * r) 128) (blocks j (scale_below (entries_in g) n s some b))
      ∙ ap (λ (k : ℕ). part (join_below (entries_in g) (λ i. f (entries_in g * j + i))) k 128) a
      ∙ part_join 128 (λ i. f (entries_in g * j + i)) (entries_in g) (λ i l. long (entries_in g * j + i)) r 0 128 (mod-lt s some) (omega arith)
      ∙ ap (λ (n : ℕ). take n (f (entries_in g * j + r))) (sym (long (entries_in g * j + r)))
      ∙ take-length (f (entries_in g * j + r))
      ∙ ap f e
