-- Group 18 by the marks.
use Prim.Native.Nat.{ℕ, ◌<◌}
use mathlib.Core.Path.{◌≡◌, ◌∙◌}
use mathlib.Core.Logic.{⊎_elim}
use mathlib.Core.Bool.{Bool, true, not, ◌&&◌}
use mathlib.Core.List.{List, [], ◌++◌, append_assoc}
use native.Mathlib.Decide.{dec_lt}
use native.Mathlib.Omega.{arith}
use borrow.Author.Tests.{lt-ltb, ltb-true}
use Rattle.format.specs.Basics.Bytes.{Bytes}
use Rattle.format.specs.Basics.Lists.{all_below, join_below, count, member}
use Rattle.format.specs.Layout.Geometry.{Geometry, sector_count}
use Rattle.format.specs.Layout.Tables.{fat_cell, fat_sectors, difat_sectors, sector_space}
use Rattle.format.specs.Layout.Volume.{volume, system_sectors, mini_space}
use Rattle.format.specs.Rules.Tables.{table_rules}
use Rattle.format.specs.Rules.Owners.{own_sectors, owned_sectors, owned_minis, owners_in}
use Rattle.theory.specs.Marks.{Owning, covered}
use Rattle.theory.proofs.Counts.{count_append}
use Rattle.theory.proofs.OwnerMarks.{owners_by_marks}
use Rattle.header.specs.Sized.{ImageSized}
use Rattle.directory.proofs.Room.{table_once, unmarked}
use Rattle.system_chains.specs.System.{system_chains}

-- ---- group 18

module _ (g : Geometry) (img : Bytes) where
  abbrev tables : List ℕ
  tables = fat_sectors g img ++ difat_sectors g img

  -- what chains own: all but the tables' own sectors
  abbrev chained : List ℕ
  chained = system_chains g img ++ join_below (volume g img).directory.count (own_sectors (volume g img))

  pub owned_are : owned_sectors (volume g img) ≡ tables ++ chained
  unfolding owned_sectors system_sectors volume
  owned_are = simp append_assoc

  module _ (z : ImageSized g img) (t : table_rules g img ≡ true) {m : ℕ → ℕ} {s : Bool} (o : Owning (fat_cell g img) (sector_count g img) chained m s) where
    -- a chain's sector has a cell that a table's sector has not
    not_table : (u : ℕ) → u < sector_count g img → 0 < count u chained → count u tables ≡ 0
    unfolding member
    not_table u l h =
        let few = z.few in
        let c = o.closed.at u l (ltb-true 0 (m u) (o.marked u l ∙ lt-ltb 0 (count u chained) h)) in
        unmarked g img z t u l (λ e. ⊎_elim (λ w. omega arith) (λ w. omega arith) c) (λ e. ⊎_elim (λ w. omega arith) (λ w. omega arith) c)

    apart : (u : ℕ) → u < sector_count g img → 0 < count u tables → (count u tables ≡ 1) × (count u chained ≡ 0)
    apart u l h =
        elim (dec_lt 0 (count u chained)) [
          | yes p ↦ absurd (omega (arith, not_table u l p))
          | no p ↦ (omega (arith, table_once g img z t u), omega arith)
        ]

    pub sectors_owned : owners_in (sector_space g img) (owned_sectors (volume g img)) ≡ (not s && all_below (sector_count g img) (covered (fat_cell g img) m tables))
    unfolding sector_space
    sectors_owned = rw owned_are (owners_by_marks (sector_space g img) chained tables (tables ++ chained) o (λ u. count_append u tables chained) apart)

  pub minis_owned : {m : ℕ → ℕ} {s : Bool} → Owning (mini_space g img).cell (mini_space g img).limit (owned_minis (volume g img)) m s
      → owners_in (mini_space g img) (owned_minis (volume g img)) ≡ (not s && all_below (mini_space g img).limit (covered (mini_space g img).cell m []))
  minis_owned o = owners_by_marks (mini_space g img) (owned_minis (volume g img)) [] (owned_minis (volume g img)) o (λ u. omega arith) (λ u l h. absurd (omega arith))
