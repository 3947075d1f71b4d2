-- W-213: what holds where a repair answers 0.
use Prim.Native.Nat.{ℕ, ◌/◌}
use mathlib.Core.Path.{◌≡◌, sym, ap, ap₂, ◌∙◌, subst}
use mathlib.Core.Bool.{true, ◌&&◌}
use mathlib.Core.List.{List, ◌++◌}
use native.Mathlib.Omega.{arith}
use lib.Dec.{leb}
use lib.ListN.{length}
use Rattle.format.specs.Basics.Bytes.{Bytes}
use Rattle.format.specs.Layout.Geometry.{Geometry, mini_bytes}
use Rattle.format.specs.Layout.Directory.{Directory, entry_place}
use Rattle.format.specs.Layout.Tables.{sector_space, cell_place_in}
use Rattle.format.specs.Layout.Volume.{volume, mini_space, system_sectors, fixed_number}
use Rattle.format.specs.Rules.Length.{length_allowed, work_need}
use Rattle.format.specs.Rules.Verdict.{check, groups, Accepted}
use Rattle.format.specs.Calls.Reply.{on_zero}
use Rattle.format.specs.Calls.RepairSteps.{repaired}
use Rattle.format.specs.Calls.Repair.{repair_answer, image_repaired_by}
use Rattle.format.specs.History.Rows.{rows_of}
use Rattle.format.specs.History.Setting.{setting_of}
use Rattle.format.specs.History.Storages.{storages_of, blank_count_of}
use Rattle.format.specs.History.State.{state_in}
use Rattle.frame.specs.Kept.{Sized}
use Rattle.frame.proofs.Accepted.{check_zero}
use Rattle.repair_laws.proofs.Lengths.{repaired_accepted}
use Rattle.repair_laws.specs.Steps.{after4, Taken, RepairedBy}
use Rattle.repair_laws.specs.Black.{IsBlack}
use Rattle.repair_laws.proofs.Taken.{all_taken}
use Rattle.repair_laws.proofs.SameLists.{dirs_AE, fat_AE, difat_AE, mini_fat_AE, sectors_AE, length_AE}
use Rattle.repair_laws.proofs.BlackDirectory.{size_same, blanks_same, listing_same, storages_same}
use Rattle.repair_laws.proofs.Listed.{acc_E, black_AE, names_AE}
use Rattle.repair_laws.proofs.KeptRows.{mini_stream_AE, rows_AE}

module _ (g : Geometry) (z : Sized g) (A : Bytes) (ok : length_allowed g (length A) ≡ true) (k : Taken g A) (acc : Accepted g (repaired g A)) where
  abbrev E : Bytes
  E = after4 g A

  system_AE : system_sectors (volume g E) ≡ system_sectors (volume g A)
  unfolding system_sectors volume
  system_AE =
      ap₂ ◌++◌ (ap₂ ◌++◌ (ap₂ ◌++◌ (ap₂ ◌++◌ (fat_AE g z A ok k acc) (difat_AE g z A ok k acc)) (dirs_AE g z A ok k acc)) (mini_fat_AE g z A ok k acc)) (sym (mini_stream_AE g z A ok k acc))

  abbrev d_A : Directory
  d_A = (volume g A).directory

  abbrev d_E : Directory
  d_E = (volume g E).directory

  black : IsBlack d_A d_E
  black = black_AE g z A ok k acc

  limits : ((volume g E).sectors.limit ≡ (volume g A).sectors.limit) × ((volume g E).minis.limit ≡ (volume g A).minis.limit)
  unfolding volume sector_space mini_space
  limits = (sectors_AE g z A ok k acc, ap (λ n. n / mini_bytes) (size_same d_A d_E black 0))

  setting_AE : setting_of g E ≡ setting_of g A
  unfolding setting_of fixed_number
  setting_AE =
      ap₂ (λ a b. record { geometry = g; bytes = length E; sectors = a; minis = b; fixed = length (system_sectors (volume g E)); work = work_need (length E) }) limits.0 limits.1
      ∙ ap₂ (λ a b. record { geometry = g; bytes = b; sectors = (volume g A).sectors.limit; minis = (volume g A).minis.limit; fixed = length a; work = work_need b }) system_AE (length_AE g z A ok k acc)

  state_AE : state_in g E ≡ state_in g A
  unfolding state_in storages_of blank_count_of volume
  state_AE =
      ap₂ (λ a b. record { setting = a; rows = b; storages = storages_of g E; blank_count = blank_count_of g E }) setting_AE (rows_AE g z A ok k acc)
      ∙ ap₂ (λ a b. record { setting = setting_of g A; rows = rows_of g A; storages = a; blank_count = b }) (storages_same d_A d_E black (names_AE g z A ok k acc)) (blanks_same d_A d_E black)

  sector_places : (s : ℕ) → (volume g E).sectors.cell_place s ≡ (volume g A).sectors.cell_place s
  unfolding volume sector_space
  sector_places s = ap (λ (l : List ℕ). cell_place_in g l s) (fat_AE g z A ok k acc)

  mini_places : (m : ℕ) → (volume g E).minis.cell_place m ≡ (volume g A).minis.cell_place m
  unfolding volume mini_space
  mini_places m = ap (λ (l : List ℕ). cell_place_in g l m) (mini_fat_AE g z A ok k acc)

  entry_places : (i : ℕ) → (volume g E).entry_place i ≡ (volume g A).entry_place i
  unfolding volume
  entry_places i = ap (λ (l : List ℕ). entry_place g l i) (dirs_AE g z A ok k acc)

  outcome_holds : RepairedBy g A E
  outcome_holds =
      record {
        accepted = acc_E g z A ok k acc;
        listing = listing_same d_A d_E black (names_AE g z A ok k acc);
        state = state_AE;
        sector_cells = sector_places;
        mini_cells = mini_places;
        entries = entry_places;
      }

module _ (g : Geometry) (z : Sized g) (img spare : Bytes) (work : List ℕ) (h : repair_answer g img spare work ≡ 0) where
  acc : Accepted g (repaired g img)
  acc = repaired_accepted g img spare work h

  passed : (length_allowed g (length img) ≡ true) × (groups g (repaired g img) ≡ 0)
  unfolding repair_answer
  passed =
      let w = leb (work_need (length img)) (length work) && leb (length img) (length spare) in
      let a = check_zero (length_allowed g (length img)) 1 (check w 2 (groups g (repaired g img))) (omega arith) h in
      (a.0, (check_zero w 2 (groups g (repaired g img)) (omega arith) a.1).1)

  taken : Taken g img
  taken = all_taken g img passed.1

  pub repair_outcome : RepairedBy g img (image_repaired_by g img spare work)
  unfolding image_repaired_by on_zero
  repair_outcome = rw h (subst (RepairedBy g img) (sym taken.outcome) (outcome_holds g z img passed.0 taken acc))

  pub outcome_black : IsBlack (volume g img).directory (volume g (repaired g img)).directory
  outcome_black = subst (λ (x : Bytes). IsBlack (volume g img).directory (volume g x).directory) (sym taken.outcome) (black_AE g z img passed.0 taken acc)
