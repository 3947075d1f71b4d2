-- Where the outcome of a repair is accepted, all four steps were taken.
use mathlib.Core.Path.{◌≡◌, refl}
use mathlib.Core.Bool.{Bool, true, false, cond}
use native.Mathlib.Omega.{arith}
use Rattle.format.specs.Basics.Bytes.{Bytes}
use Rattle.format.specs.Layout.Geometry.{Geometry}
use Rattle.format.specs.Layout.Volume.{Volume, volume}
use Rattle.format.specs.Rules.Header.{header_rules}
use Rattle.format.specs.Rules.Tables.{table_rules}
use Rattle.format.specs.Rules.Cells.{rest_free}
use Rattle.format.specs.Rules.Mini.{mini_tables, mini_rules}
use Rattle.format.specs.Rules.Verdict.{check, groups, volume_groups}
use Rattle.format.specs.Calls.RepairSteps.{tables_hold, directory_holds, entries_hold, streams_hold, fourth_step, third_step, second_step, repaired}
use Rattle.theory.proofs.Tests.{both, clash}
use Rattle.frame.specs.Groups.{VolumeGroups}
use Rattle.frame.proofs.Accepted.{check_zero, volume_kept}
use Rattle.repair_laws.specs.Steps.{after1, after2, after3, after4, Taken}

-- ---- what no broken group says

module _ (g : Geometry) (img : Bytes) (h : groups g img ≡ 0) where
  abbrev v : Volume
  v = volume g img

  header_kept : (header_rules g img ≡ true) × (check (table_rules g img) 11 (volume_groups v) ≡ 0)
  unfolding groups
  header_kept = check_zero (header_rules g img) 10 (check (table_rules g img) 11 (volume_groups v)) (omega arith) h

  tables_kept : (table_rules g img ≡ true) × (volume_groups v ≡ 0)
  tables_kept = check_zero (table_rules g img) 11 (volume_groups v) (omega arith) header_kept.1

  rest_kept : VolumeGroups v
  rest_kept = volume_kept v tables_kept.1

  pub passes_tables : tables_hold g img ≡ true
  unfolding tables_hold
  passes_tables = rw (header_kept.0, tables_kept.0)

  pub passes_directory : directory_holds v ≡ true
  unfolding directory_holds
  passes_directory = rw (rest_kept.cells, rest_kept.directory)

  mini_tables_kept : mini_tables v ≡ true
  unfolding mini_rules
  mini_tables_kept = (both (mini_tables v) (rest_free v.minis) rest_kept.minis).0

  pub passes_entries : entries_hold v ≡ true
  unfolding entries_hold
  passes_entries = rw (rest_kept.entries, rest_kept.trees) mini_tables_kept

  pub passes_streams : streams_hold g img ≡ true
  unfolding streams_hold
  passes_streams = rw (passes_tables, passes_directory, rest_kept.entries, rest_kept.trees, rest_kept.minis, rest_kept.chains)

-- ---- a step that is not taken leaves a group broken

cond_taken : (t : Bool) (g : Geometry) (a b : Bytes) → (groups g b ≡ 0 → t ≡ true) → groups g (cond t a b) ≡ 0 → (t ≡ true) × (groups g a ≡ 0)
cond_taken true g a b f h = (refl, h)
cond_taken false g a b f h = absurd (clash (f h) refl)

pub all_taken : (g : Geometry) (img : Bytes) → groups g (repaired g img) ≡ 0 → Taken g img
unfolding repaired second_step third_step fourth_step
all_taken g img h =
    let B = after1 g img in
    let C = after2 g img in
    let D = after3 g img in
    let a = cond_taken (tables_hold g img) g (second_step g B) img (passes_tables g img) h in
    let b = cond_taken (directory_holds (volume g B)) g (third_step g C) B (passes_directory g B) a.1 in
    let c = cond_taken (entries_hold (volume g C)) g (fourth_step g D) C (passes_entries g C) b.1 in
    let d = cond_taken (streams_hold g D) g (after4 g img) D (passes_streams g D) c.1 in
    record { tables = a.0; directory = b.0; entries = c.0; streams = d.0; outcome = rw (a.0, b.0, c.0, d.0) }
