-- By the rows of an accepted image: how many units are allocated, and how many are free.
use Prim.Native.Nat.{ℕ, ◌+◌, ◌<◌}
use mathlib.Core.Path.{◌≡◌, refl, ap, ◌∙◌, fun_ext}
use mathlib.Core.Bool.{Bool, true, false, cond, beq}
use mathlib.Core.List.{List}
use native.Mathlib.Omega.{arith}
use lib.Dec.{ltb}
use lib.ListN.{length}
use Rattle.format.specs.Basics.Bytes.{Bytes}
use Rattle.format.specs.Layout.Geometry.{Geometry, mini_bytes}
use Rattle.format.specs.Layout.Need.{cutoff, round_up, mini_need, sector_need}
use Rattle.format.specs.Layout.Space.{allocated, free_units}
use Rattle.format.specs.Layout.Tables.{sector_space}
use Rattle.format.specs.Layout.Volume.{Volume, volume, fixed_number, system_sectors, mini_space}
use Rattle.format.specs.Rules.Verdict.{Accepted}
use Rattle.format.specs.History.Rows.{Row, rows_of, total}
use Rattle.format.specs.History.Setting.{Setting, setting_of, free_sectors, free_minis}
use Rattle.theory.proofs.Tests.{beq_true}
use Rattle.frame.specs.Good.{Good}
use Rattle.frame.proofs.Good.{accepted_good}
use Rattle.history.proofs.Filled.{Sized}
use Rattle.history.proofs.Counting.{space_need, allocated_by_rows, free_by_rows}

module _ (g : Geometry) (pos : 0 < g.sector_bytes) (img : Bytes) (acc : Accepted g img) (sized : Sized (volume g img) img) where
  abbrev v : Volume
  v = volume g img

  abbrev rows : List Row
  rows = rows_of g img

  abbrev s : Setting
  s = setting_of g img

  abbrev good : Good v
  good = accepted_good g img pos acc

  sector_need_lem : space_need v false ≡ sector_need g
  unfolding space_need sector_need volume sector_space
  sector_need_lem = fun_ext (λ n. go (ltb n cutoff) (round_up n g.sector_bytes))
    where
      go : (t : Bool) (m : ℕ) → cond (beq false t) m 0 ≡ cond t 0 m
      go true m = refl
      go false m = refl

  mini_need_lem : space_need v true ≡ mini_need
  unfolding space_need mini_need volume mini_space
  mini_need_lem = fun_ext (λ n. ap (λ t. cond t (round_up n mini_bytes) 0) (beq_true (ltb n cutoff)))

  pub allocated_sectors : allocated v.sectors ≡ s.fixed + total (sector_need g) rows
  unfolding setting_of fixed_number rows_of
  allocated_sectors = allocated_by_rows v img good sized false ∙ ap (λ need. length (system_sectors v) + total need rows) sector_need_lem

  pub allocated_minis : allocated v.minis ≡ total mini_need rows
  unfolding rows_of
  allocated_minis = let a = allocated_by_rows v img good sized true in let b = ap (λ need. total need rows) mini_need_lem in omega arith

  pub free_sectors_lem : free_sectors s rows ≡ length (free_units v.sectors)
  unfolding free_sectors setting_of fixed_number rows_of
  free_sectors_lem =
      let a = free_by_rows v img good sized false in
      let b = ap (λ need. total need rows) sector_need_lem in
      omega arith

  pub free_minis_lem : free_minis s rows ≡ length (free_units v.minis)
  unfolding free_minis setting_of rows_of
  free_minis_lem =
      let a = free_by_rows v img good sized true in
      let b = ap (λ need. total need rows) mini_need_lem in
      omega arith
