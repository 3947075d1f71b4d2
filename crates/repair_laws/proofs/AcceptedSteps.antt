-- The four steps on an accepted image: what they free is free, so no cell reads otherwise after them, and the image stays accepted.
use Prim.Native.Nat.{ℕ, ◌≤◌, ◌<◌}
use mathlib.Core.Path.{◌≡◌, sym, ap, ◌∙◌, subst}
use mathlib.Core.Bool.{true}
use mathlib.Core.List.{◌++◌}
use native.Mathlib.Omega.{arith}
use Rattle.format.specs.Basics.Lists.{all_below, count}
use Rattle.format.specs.Basics.Bytes.{Bytes}
use Rattle.format.specs.Layout.Geometry.{Geometry}
use Rattle.format.specs.Layout.Tables.{fat_sectors, fat_cell, sector_space}
use Rattle.format.specs.Layout.Volume.{Volume, volume, mini_fat_sectors}
use Rattle.format.specs.Rules.Cells.{rest_free, cell_rules, fat_cell_right}
use Rattle.format.specs.Rules.Mini.{mini_tables, mini_rules, mini_fat_chain}
use Rattle.format.specs.Rules.Owners.{owned_sectors, owned_minis, owners_in, owner_rules}
use Rattle.format.specs.Rules.Verdict.{Accepted}
use Rattle.format.specs.Calls.RepairSteps.{rest_freed, unowned_freed}
use Rattle.theory.proofs.Counts.{count_append}
use Rattle.theory.proofs.Relinks.{freed_free}
use Rattle.theory.proofs.Tests.{both}
use Rattle.frame.specs.Groups.{ImageGroups}
use Rattle.frame.specs.Kept.{Sized, Kept, Off}
use Rattle.frame.specs.Redraw.{IsRedrawn}
use Rattle.frame.proofs.Accepted.{accepted_kept}
use Rattle.frame.proofs.Kept.{kept_sub}
use Rattle.frame.proofs.Parts.{mini_cell_is}
use Rattle.frame.proofs.Views.{kept_cell}
use Rattle.frame.proofs.Writing.{sector_cell}
use Rattle.repair_laws.specs.Tables.{Tabled}
use Rattle.repair_laws.proofs.Tabled.{linked_off, first_kept, first_cells}
use Rattle.repair_laws.proofs.Freeing.{mini_linked, mini_parts, third_kept, third_tables, third_cells, cells_C, outcome, outcome_is, fourth_kept, fourth_cells, fourth_minis, cells_D}
use Rattle.repair_laws.proofs.FreeAgain.{rest_cell, unowned_cell}
use Rattle.repair_laws.proofs.Blackened.{tabled_A}
use Rattle.repair_laws.proofs.SameCells.{same_redrawn, same_accepted}

module _ (g : Geometry) (z : Sized g) (A : Bytes) (acc : Accepted g A) where
  abbrev v : Volume
  v = volume g A

  t : Tabled g A
  t = tabled_A g z A acc

  ok : ImageGroups g A
  ok = accepted_kept g A acc

  -- ---- what the groups say of the cells

  pub sectors_rest : rest_free v.sectors ≡ true
  unfolding cell_rules
  sectors_rest = (both (all_below v.sectors.limit (fat_cell_right v.sectors)) (rest_free v.sectors) ok.volume.cells).1

  minis_hold : (mini_tables v ≡ true) × (rest_free v.minis ≡ true)
  unfolding mini_rules
  minis_hold = both (mini_tables v) (rest_free v.minis) ok.volume.minis

  pub minis_rest : rest_free v.minis ≡ true
  minis_rest = minis_hold.1

  pub owners : (owners_in v.sectors (owned_sectors v) ≡ true) × (owners_in v.minis (owned_minis v) ≡ true)
  unfolding owner_rules
  owners = both (owners_in v.sectors (owned_sectors v)) (owners_in v.minis (owned_minis v)) ok.volume.owners

  pub sectors_room : v.sectors.limit ≤ v.sectors.cells
  unfolding volume sector_space
  sectors_room = t.enough

  parts : (mini_fat_chain v ≡ true) × (v.minis.limit ≤ v.minis.cells)
  parts = mini_parts g z A t minis_hold.0

  pub minis_room : v.minis.limit ≤ v.minis.cells
  minis_room = parts.1

  -- ---- the first step

  abbrev B : Bytes
  B = rest_freed v.sectors A

  mini_apart : (s : ℕ) → 0 < count s (mini_fat_sectors g A) → count s (fat_sectors g A) ≡ 0
  mini_apart s q = omega (arith, linked_off g A t (mini_fat_sectors g A) (mini_linked g z A t parts.0) s q)

  first_wide : Kept g (Off (fat_sectors g A ++ mini_fat_sectors g A)) A B
  first_wide = kept_sub g (Off (fat_sectors g A)) (Off (fat_sectors g A ++ mini_fat_sectors g A)) A B (λ s k l q. omega (arith, count_append s (fat_sectors g A) (mini_fat_sectors g A))) (first_kept g z A t)

  first_same : (s : ℕ) → fat_cell g B s ≡ fat_cell g A s
  first_same s = first_cells g z A t s ∙ freed_free _ (fat_cell g A) (λ u q. sym (sector_cell g A u) ∙ (rest_cell v.sectors sectors_rest u q).1) s

  pub first_redrawn : IsRedrawn g A B
  first_redrawn = same_redrawn g z A B acc first_wide first_same (kept_cell g z (fat_sectors g A) A B (first_kept g z A t) (mini_fat_sectors g A) mini_apart)

  pub first_accepted : Accepted g B
  first_accepted = same_accepted g z A B acc first_wide first_same (kept_cell g z (fat_sectors g A) A B (first_kept g z A t) (mini_fat_sectors g A) mini_apart)

  -- ---- the third

  abbrev D : Bytes
  D = rest_freed v.minis A

  third_wide : Kept g (Off (fat_sectors g A ++ mini_fat_sectors g A)) A D
  third_wide =
      kept_sub g (Off (mini_fat_sectors g A)) (Off (fat_sectors g A ++ mini_fat_sectors g A)) A D (λ s k l q. omega (arith, count_append s (fat_sectors g A) (mini_fat_sectors g A)))
      (third_kept g z A t minis_hold.0)

  third_same : (m : ℕ) → cells_C g z A t minis_hold.0 D m ≡ cells_C g z A t minis_hold.0 A m
  third_same m =
      third_cells g z A t minis_hold.0 m
      ∙ freed_free _ (cells_C g z A t minis_hold.0 A) (λ u q. sym (mini_cell_is g A u) ∙ (rest_cell v.minis minis_rest u q).1) m

  pub third_redrawn : IsRedrawn g A D
  third_redrawn = same_redrawn g z A D acc third_wide (third_tables g z A t minis_hold.0).1 third_same

  pub third_accepted : Accepted g D
  third_accepted = same_accepted g z A D acc third_wide (third_tables g z A t minis_hold.0).1 third_same

  -- ---- the fourth

  abbrev E : Bytes
  E = unowned_freed v A

  is_E : unowned_freed v A ≡ outcome g z A t parts.0 parts.1
  is_E = outcome_is g z A t parts.0 parts.1

  fourth_wide : Kept g (Off (fat_sectors g A ++ mini_fat_sectors g A)) A E
  fourth_wide = subst (λ x. Kept g (Off (fat_sectors g A ++ mini_fat_sectors g A)) A x) (sym is_E) (fourth_kept g z A t parts.0 parts.1)

  fourth_same : (s : ℕ) → fat_cell g E s ≡ fat_cell g A s
  fourth_same s =
      ap (λ x. fat_cell g x s) is_E ∙ fourth_cells g z A t parts.0 parts.1 s
      ∙ freed_free _ (fat_cell g A) (λ u q. sym (sector_cell g A u) ∙ (unowned_cell v.sectors (owned_sectors v) owners.0 u q).1) s

  fourth_mini : (m : ℕ) → cells_D g z A t parts.0 parts.1 E m ≡ cells_D g z A t parts.0 parts.1 A m
  fourth_mini m =
      ap (λ x. cells_D g z A t parts.0 parts.1 x m) is_E ∙ fourth_minis g z A t parts.0 parts.1 m
      ∙ freed_free _ (cells_D g z A t parts.0 parts.1 A) (λ u q. sym (mini_cell_is g A u) ∙ (unowned_cell v.minis (owned_minis v) owners.1 u q).1) m

  pub fourth_redrawn : IsRedrawn g A E
  fourth_redrawn = same_redrawn g z A E acc fourth_wide fourth_same fourth_mini

  pub fourth_accepted : Accepted g E
  fourth_accepted = same_accepted g z A E acc fourth_wide fourth_same fourth_mini
