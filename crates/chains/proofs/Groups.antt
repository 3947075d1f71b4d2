-- Groups 12 and 13 as the code goes through them.
use Prim.Native.Nat.{ℕ, zero, suc, ◌+◌, ◌-◌, ◌*◌, ◌≤◌, ◌<◌}
use mathlib.Core.Path.{◌≡◌, refl, ◌∙◌}
use mathlib.Core.Logic.{◌⊎◌, inl, inr, ⊎_elim}
use mathlib.Core.Bool.{not, ◌&&◌, ◌||◌}
use mathlib.Core.List.{List}
use native.Mathlib.Nat.{zero-add, add-zero}
use native.Mathlib.Omega.{arith}
use lib.Dec.{eqb, leb}
use lib.ListN.{length, get_or}
use borrow.Author.Tests.{lt-ltb, le-ltb}
use Rattle.format.specs.Basics.Lists.{all_below}
use Rattle.format.specs.Basics.Bytes.{Bytes}
use Rattle.format.specs.Layout.Geometry.{Geometry, counts_directory, sector_count, cells_in}
use Rattle.format.specs.Layout.Header.{fat_count, directory_count, directory_start}
use Rattle.format.specs.Layout.Chain.{END, chain, follow}
use Rattle.format.specs.Layout.Tables.{fat_cell, fat_cells, sector_space}
use Rattle.format.specs.Layout.Directory.{directory_sectors}
use Rattle.format.specs.Layout.Volume.{directory_sectors_of, volume}
use Rattle.format.specs.Rules.Cells.{fat_cell_right, rest_free, cell_rules}
use Rattle.format.specs.Rules.Directory.{some_chain, count_right, directory_rules}
use Rattle.theory.proofs.Marks.{chain_end, chain_step}
use Rattle.header.specs.Sized.{F}
use Rattle.tables.specs.Work.{Holds}
use Rattle.tables.specs.Listed.{FatListedAt}
use Rattle.tables.proofs.Places.{cells_short as short}
use Rattle.chains.specs.Answers.{length_answer}

-- ---- group 12

pub rules_are : (g : Geometry) (img : Bytes) → cell_rules (sector_space g img) ≡ (all_below (sector_count g img) (fat_cell_right (sector_space g img)) && rest_free (sector_space g img))
unfolding cell_rules sector_space
rules_are g img = refl

-- N and the cells, as the space of sectors has them
pub limit_is : (g : Geometry) (img : Bytes) → sector_count g img ≡ (sector_space g img).limit
unfolding sector_space
limit_is g img = refl

pub cells_are : (g : Geometry) (img : Bytes) → cells_in g * F img ≡ (sector_space g img).cells
unfolding sector_space fat_cells fat_count
cells_are g img = refl

pub cell_is : (g : Geometry) (img : Bytes) (s : ℕ) → fat_cell g img s ≡ (sector_space g img).cell s
unfolding sector_space
cell_is g img s = refl

-- the cells of the FAT take no more bytes than the image has
pub cells_short : {g : Geometry} {img : Bytes} {w : List ℕ} {n list : ℕ} → FatListedAt g img w n list → 4 * (cells_in g * F img) ≤ length img
cells_short {g} {img} l = short l.sized (F img) (omega (arith, l.few))

-- ---- group 13: after k steps the walk is at s

pub record Following (cell : ℕ → ℕ) (limit s₀ k s : ℕ) : Type 0 where
  pub some : k ≤ limit
  pub rest : (n : ℕ) → chain cell limit (k + n) s₀ ≡ chain cell limit n s
  pub size : length (follow cell limit limit s₀) ≡ k + length (follow cell limit (limit - k) s)

follow_none : (cell : ℕ → ℕ) (limit m s : ℕ) → (limit ≤ s) ⊎ (m ≡ 0) → length (follow cell limit m s) ≡ 0
unfolding follow
follow_none cell limit zero s h = refl
follow_none cell limit (suc m) s (inl l) = rw (le-ltb s limit l)
follow_none cell limit (suc m) s (inr z) = absurd (omega arith)

module _ {cell : ℕ → ℕ} {limit s₀ : ℕ} where
  following_step : {k s : ℕ} → Following cell limit s₀ k s → k < limit → s < limit → Following cell limit s₀ (k + 1) (cell s)
  unfolding follow
  following_step {k} {s} w p l =
      let e : limit - k ≡ suc (limit - (k + 1)) = omega arith in
      record {
        some = omega arith;
        rest = λ n. let z : k + 1 + n ≡ k + suc n = omega arith in rw z (w.rest (suc n) ∙ chain_step cell limit n s l);
        size = (rw e at w.size) ∙ rw (lt-ltb s limit l) (omega arith);
      }

  -- the next unit, read where the cells stand
  pub following_read : {w : List ℕ} {k s i : ℕ} → Holds w 0 limit cell → Following cell limit s₀ k s → k < limit → s < limit → i ≡ s → Following cell limit s₀ (k + 1) (get_or w i 0)
  following_read {w} {s = s} h f p l e =
      let z : get_or w s 0 ≡ cell s = rw zero-add at (h.here s l) in
      rw (e, z) (following_step f p l)

  -- the walk stops at what is no unit, or after as many steps as there are units
  pub following_end : {k s : ℕ} → Following cell limit s₀ k s → (limit ≤ s) ⊎ (k ≡ limit) → (length (follow cell limit limit s₀) ≡ k) × (chain cell limit k s₀ ≡ eqb s END)
  following_end {k} {s} w h =
      let n = follow_none cell limit (limit - k) s (⊎_elim (λ l. inl l) (λ e. inr (omega arith)) h) in
      (w.size ∙ rw (n, add-zero), rw add-zero at (w.rest 0) ∙ chain_end cell limit s)

pub directory_is : (g : Geometry) (img : Bytes) (k s : ℕ)
    → (length (follow (fat_cell g img) (sector_count g img) (sector_count g img) (directory_start img)) ≡ k) × (chain (fat_cell g img) (sector_count g img) k (directory_start img) ≡ eqb s END)
    → length_answer (directory_rules (volume g img)) (length (directory_sectors_of g img))
    ≡ length_answer ((leb 1 k && eqb s END) && (not (counts_directory g) || eqb (directory_count img) k)) k
unfolding directory_rules some_chain count_right volume directory_sectors_of directory_sectors sector_space
directory_is g img k s h = rw (h.0, h.1)
