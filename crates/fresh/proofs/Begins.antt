-- What demand 3 begins with on a fresh image, and that F is the fewest.
use Prim.Native.Nat.{ℕ, suc, ◌+◌, ◌-◌, ◌*◌, ◌/◌, ◌≤◌, ◌<◌}
use mathlib.Core.Path.{◌≡◌}
use native.Mathlib.Nat.{mul_comm, div-lt_iff_lt-mul}
use native.Mathlib.Omega.{arith}
use Rattle.format.specs.Basics.Bytes.{Bytes}
use Rattle.format.specs.Layout.Geometry.{Geometry, cells_in}
use Rattle.format.specs.Layout.Need.{round_up}
use Rattle.format.specs.Layout.Tables.{sector_space}
use Rattle.format.specs.Layout.Volume.{volume}
use Rattle.format.specs.Rules.Length.{work_need}
use Rattle.format.specs.History.Setting.{setting_of}
use Rattle.format.specs.History.State.{state_in}
use Rattle.frame.specs.Kept.{Sized}
use Rattle.format.specs.Fresh.Plan.{Plan, fat_part}
use Rattle.format.specs.Fresh.Image.{fresh_image}
use Rattle.format.specs.Claims.Fresh.{fresh_setting, fresh_state}
use Rattle.fresh.specs.Facts.{Headed, Planned}
use Rattle.fresh.proofs.Numbers.{cells_some}
use Rattle.fresh.proofs.Blocks.{length_image}
use Rattle.fresh.proofs.Header.{sector_count_lem}
use Rattle.fresh.proofs.Minis.{mini_limit_lem}
use Rattle.fresh.proofs.Results.{fresh_rows, fresh_storages, fresh_fixed_lem, fresh_blanks}

-- ---- the fewest

-- any number of sectors that has a cell for each is F or more
pub fat_fewest : (g : Geometry) (p : Plan) → Sized g → (f : ℕ) → p.sectors ≤ cells_in g * f → fat_part g p ≤ f
unfolding fat_part round_up
fat_fewest g p z f h =
    let c = cells_some g z in
    let w = cells_in g in
    let n = p.sectors in
    let k : (n + (w - 1)) / w < suc f = (div-lt_iff_lt-mul {k = w} {x = n + (w - 1)} {y = suc f} (omega arith)).1 (omega (arith, mul_comm w f)) in
    omega arith

-- ---- the setting

module _ (g : Geometry) (p : Plan) (h : Headed g) (q : Planned g p) where
  abbrev img : Bytes
  img = fresh_image g p

  pub fresh_setting_lem : setting_of g img ≡ fresh_setting g p
  unfolding setting_of volume sector_space fresh_setting
  fresh_setting_lem = λ i.
      record {
        geometry = g;
        bytes = length_image g p h.sized i;
        sectors = sector_count_lem g p h q i;
        minis = mini_limit_lem g p h q i;
        fixed = fresh_fixed_lem g p h q i;
        work = work_need (length_image g p h.sized i);
      }

  pub fresh_state_lem : state_in g img ≡ fresh_state g p
  unfolding state_in fresh_state
  fresh_state_lem = λ i.
      record {
        setting = fresh_setting_lem i;
        rows = fresh_rows g p h q i;
        storages = fresh_storages g p h q i;
        blank_count = fresh_blanks g p h q i;
      }
